use Rattle.ns_change.specs.Changed.{changed_quota}
use Rattle.ns_tables.specs.World.{quota_of}
use Rattle.ns_settlement.specs.Owners.{Always, changed_owners, owners}
use Rattle.ns_settlement.proofs.Owned.{Ahead}
use Rattle.ns_settlement.proofs.commit.quotas.put_quotas.Given as goal

abbrev pub invariant-loop-name : goal.invariant-loop-name
invariant-loop-name l = Ahead quota_of changed_quota Always l.table l.name-iterator.rest.items
    (changed_owners changed_quota l.fn.changes (owners quota_of l.initial.table))
