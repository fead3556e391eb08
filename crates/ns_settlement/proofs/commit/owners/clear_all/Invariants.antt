use Rattle.std.proofs.Common.{drop}
use Rattle.ns_settlement.specs.Owners.{Always}
use Rattle.ns_settlement.proofs.Reserved.{Reserved, always_carries}
use Rattle.ns_settlement.proofs.commit.owners.clear_all.Given as goal

abbrev pub invariant-loop-slot : goal.invariant-loop-slot
invariant-loop-slot g l = Reserved g.Row.Owner.seen Always g.Row.Owner.IsCleared (always_carries g.Row.Owner.seen) l.table l.initial.table (drop l.slot-index
    l.slot-items) l.changes
