use Rattle.ns_settlement.specs.Owners.{changed_owners, owners}
use Rattle.ns_settlement.proofs.Owned.{Ahead}
use Rattle.ns_settlement.proofs.commit.owners.commit_all.Given as goal

abbrev pub invariant-loop-name : goal.invariant-loop-name
invariant-loop-name g l = Ahead g.Row.Owner.seen g.Row.Owner.changed g.Row.Owner.HasRoom l.table l.name-iterator.rest.items
    (changed_owners g.Row.Owner.changed l.fn.changes (owners g.Row.Owner.seen l.initial.table))
