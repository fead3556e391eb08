use Rattle.std.proofs.Common.{◌≡◌, [], map}
use Rattle.ns_listener.proofs.seating.seated.Given as goal

-- each duty so far has a seat with no receipts
abbrev pub invariant-loop-duty : goal.invariant-loop-duty
invariant-loop-duty g l = l.jobs.items ≡ map (λ duty. (duty, [])) l.yielded
