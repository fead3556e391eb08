use Rattle.std.proofs.Common.{◌≡◌, length, None, vec_len}
use Rattle.ns_listener.proofs.threads.join.Given as goal

-- unless one failed, each thread so far gave a seat
abbrev pub invariant-loop-handle : goal.invariant-loop-handle
invariant-loop-handle g l = l.fault ≡ None → vec_len l.seats ≡ length l.yielded
