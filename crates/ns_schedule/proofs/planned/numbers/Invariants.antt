use Rattle.std.proofs.Common.{◌≡◌, take, map}
use Rattle.ns_schedule.proofs.planned.numbers.Given as goal

abbrev pub invariant-loop-a : goal.invariant-loop-a
invariant-loop-a l = l.rows ≡ map (λ x. x.number) (map (λ x. x.now) (take l.a-index l.stops))
