use Rattle.std.proofs.Common.{drop}
use Rattle.ns_settlement.proofs.Reserved.{Reserved}
use Rattle.ns_settlement.proofs.commit.owners.reserve_all.Given as goal

abbrev pub invariant-loop-slot : goal.invariant-loop-slot
invariant-loop-slot g l = Reserved g.Row.Owner.seen g.Row.Owner.CanChange g.Row.Owner.HasRoom g.met.Row.Owner.carries l.table l.initial.table (drop
    l.slot-index l.slot-items) l.changes
