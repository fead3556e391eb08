use Rattle.std.proofs.Common.{◌≡◌, ◌+◌, vec_len}
use Rattle.ns_tests.proofs.running.port.drawers.Given as goal

abbrev pub invariant-loop : goal.invariant-loop
invariant-loop l = vec_len l.drawers ≡ l.counter + 1
