use Rattle.std.proofs.Common.{◌≡◌, length, true, vec_len}
use Rattle.ns_listener.proofs.threads.fn.run.scope.Given as goal

-- unless one could not be made, each job so far has a thread
abbrev pub invariant-loop-duty : goal.invariant-loop-duty
invariant-loop-duty g l = l.is_full ≡ true → vec_len l.running ≡ length l.yielded
