-- The world as a settled change leaves it.
use Rattle.std.specs.Prelude.{◌+◌, List, ◌++◌, filter, map}
use Rattle.keyed.specs.Table.{row_at}
use Rattle.ns_types.specs.declared.event.Event.{Event}
use Rattle.ns_types.specs.declared.node.Class.{Class}
use Rattle.ns_types.specs.State.Lists.{last}
use Rattle.ns_types.specs.State.Names.{Name, same_name, has_name}
use Rattle.ns_types.specs.State.Rows.{World, Tenant}
use Rattle.ns_types.specs.State.Tables.{map_rows}
use Rattle.ns_types.specs.Settling.Settle.{after_release, after_quota_release}
use Rattle.ns_change.specs.declared.change.Settled.{Settled}
use Rattle.ns_change.specs.declared.change.SettledTenant.{SettledTenant}
use Rattle.ns_change.specs.Changed.{changed_list, changed_pool, changed_quota, changed_tenant, perhaps}

-- a namespace that publishes events gets the next index, and keeps its last 100 events
abbrev pub publish : Tenant → List Event → Tenant
publish t events = record t { index = t.index + 1; events = last 100 (t.events ++ events) }

abbrev pub settled_tenant : Tenant → SettledTenant → Tenant
settled_tenant t x = perhaps publish x.events (changed_tenant t x.rows)

-- the released classes of that pool, in any order and perhaps twice
abbrev pub classes_in : Name → List (Name × Class) → List Class
classes_in name rooms = map (λ r. r.1) (filter (λ r. same_name name r.0) rooms)

unfoldable pub settled_world : World → Settled → World
settled_world w s = record {
  tenants = map_rows (λ ns t. perhaps settled_tenant (row_at s.tenants ns) t) w.tenants;
  pools = map_rows (λ name p. after_release (classes_in name s.rooms) (perhaps changed_pool (row_at s.pools name) p))
      w.pools;
  quotas = map_rows
      (λ name q. after_quota_release (has_name s.released name) (perhaps changed_quota (row_at s.quotas name) q)) w.quotas;
  ready = changed_list w.ready s.ready;
  plans = changed_list w.plans s.plans;
  blocked = changed_list w.blocked s.blocked;
}
