use Rattle.std.proofs.Common.{drop}
use Rattle.ns_settlement.proofs.Following.{Following}
use Rattle.ns_settlement.proofs.commit.indexing.commit_index.Given as goal

abbrev pub invariant-loop-slot : goal.invariant-loop-slot
invariant-loop-slot l = Following l.changes l.table l.initial.live l.live (drop l.slot-index l.slot-items)
