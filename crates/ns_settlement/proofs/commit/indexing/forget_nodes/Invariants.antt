use Rattle.std.proofs.Common.{take}
use Rattle.ns_settlement.proofs.Forgetting.{IsForgetting}
use Rattle.ns_settlement.proofs.commit.indexing.forget_nodes.Given as goal

abbrev pub invariant-loop-slot : goal.invariant-loop-slot
invariant-loop-slot l = IsForgetting l.initial.live l.live (take l.slot-index l.slot-items)
