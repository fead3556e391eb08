use Rattle.std.proofs.Common.{map, Option}
use Rattle.std.specs.FinMap.{entries}
use Rattle.ns_types.specs.State.Names.{Name}
use Rattle.ns_change.specs.declared.change.TenantChange.{TenantChange}
use Rattle.ns_settlement.specs.Settles.{is_last, settled_slot}
use Rattle.ns_settlement.proofs.Finished.{IsAhead}
use Rattle.ns_tables.specs.World.{world_of}
use Rattle.ns_settlement.proofs.finishing.settle_tenants.Given as goal

abbrev pub invariant-loop-namespace : goal.invariant-loop-namespace
invariant-loop-namespace l = IsAhead (λ (e : Name × Option TenantChange). (e.0, settled_slot (world_of l.tables) e.0 e.1))
    (λ (e : Name × Option TenantChange). is_last (world_of l.tables) e.0 e.1) l.rows.items l.namespace-iterator.rest.items
    (map (λ (e : Name × Option TenantChange). (e.0, settled_slot (world_of l.tables) e.0 e.1)) (entries l.fn.tenants))
