use Rattle.std.proofs.Common.{◌≡◌, ◌≤◌, fold, drop}
use Rattle.keyed.specs.Table.{rows}
use Rattle.ns_broker.specs.Seen.{add_namespace, past_among}
use Rattle.ns_broker.proofs.snapshot.placed.add_namespaces.Given as goal

abbrev pub invariant-loop-slot : goal.invariant-loop-slot
invariant-loop-slot l = (fold (add_namespace l.last l.tables.tenants) (rows l.seen) (drop l.slot-index l.slots)
    ≡ fold (add_namespace l.last l.tables.tenants) (rows l.initial.seen) l.slots)
    × (past_among l.last l.tables.tenants (drop l.slot-index l.slots) ≤ l.left)
