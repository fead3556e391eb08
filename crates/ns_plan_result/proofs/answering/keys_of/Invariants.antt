use Rattle.std.proofs.Common.{◌≡◌, ◌++◌, drop, map}
use Rattle.ns_plan_result.proofs.answering.keys_of.Given as goal

abbrev pub invariant-loop-slot : goal.invariant-loop-slot
invariant-loop-slot l = l.names ++ map (λ e. e.0) (drop l.slot-index l.slots) ≡ map (λ e. e.0) l.slots
