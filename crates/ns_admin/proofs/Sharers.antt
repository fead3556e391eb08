-- What the tables' namespaces name and use, as their slots tell it.
use Rattle.std.specs.Prelude.{◌≡◌, Bool, not, ◌&&◌, ◌||◌}
use Rattle.std.specs.List.{list_any}
use Rattle.std.specs.FinMap.{entries}
use Rattle.keyed.specs.Table.{at_slot}
use Rattle.keyed.proofs.Viewing.{any_row-table_of}
use Rattle.ns_types.specs.declared.records.Namespace.{Namespace}
use Rattle.ns_types.specs.Access.Sharing.{overlaps}
use Rattle.ns_types.specs.Asking.Admins.{is_pool_in_use, looks_to_pool, names_pool}
use Rattle.ns_types.specs.State.Names.{Name, same_name}
use Rattle.ns_types.specs.State.Rows.{Tenant}
use Rattle.ns_types.specs.State.Tables.{any_row}
use Rattle.ns_tables.specs.declared.tables.Tables.{Tables}
use Rattle.ns_tables.specs.World.{tenant_of, world_of}
use Rattle.ns_admin.specs.Viewed.{overlaps_other, tenant_uses_pool}

module _ (t : Tables) where
  any_tenant : (p : Name → Tenant → Bool) → any_row p (world_of t).tenants ≡ list_any (at_slot (λ e. p e.0 (tenant_of e.1))) (entries t.tenants)
  unfolding world_of
  any_tenant p = any_row-table_of (λ _ x. tenant_of x) p t.tenants

  -- some other namespace has a pool or the quota of the namespace
  abbrev pub others : Name → Namespace → Bool
  others ns namespace = any_row (λ name other. not (same_name name ns) && overlaps namespace other.namespace) (world_of t).tenants

  pub others_are : (ns : Name) (namespace : Namespace) → others ns namespace ≡ list_any (at_slot (overlaps_other ns namespace)) (entries t.tenants)
  others_are ns namespace = any_tenant (λ name other. not (same_name name ns) && overlaps namespace other.namespace)

  pub pool_used : (pool : Name) → is_pool_in_use pool (world_of t) ≡ list_any (at_slot (tenant_uses_pool pool)) (entries t.tenants)
  pool_used pool = any_tenant (λ _ x. names_pool pool x.namespace || looks_to_pool (same_name pool) x)
