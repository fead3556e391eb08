use Rattle.std.proofs.Common.{drop}
use Rattle.ns_settlement.proofs.Following.{Reserving}
use Rattle.ns_settlement.proofs.commit.indexing.reserve_index.Given as goal

abbrev pub invariant-loop-slot : goal.invariant-loop-slot
invariant-loop-slot l = Reserving l.changes l.initial.live l.live (drop l.slot-index l.slot-items)
