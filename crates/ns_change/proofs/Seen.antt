-- What stands in the tables with a change over them.
use Rattle.std.specs.Prelude.{◌≡◌, Option, Some, None, option_map}
use Rattle.std.proofs.Common.{refl, ap, ◌∙◌}
use Rattle.std.specs.Option.{option_and_then}
use Rattle.std.specs.FinMap.{get}
use Rattle.keyed.specs.Table.{rows, row_at}
use Rattle.keyed.proofs.Tables.{get-rows}
use Rattle.ns_types.specs.State.Names.{Name}
use Rattle.ns_types.specs.State.Rows.{World, PoolRows, node_at}
use Rattle.ns_types.proofs.Named.{names, one_name}
use Rattle.ns_types.proofs.Tables.{get-map_rows}
use Rattle.ns_change.specs.declared.change.Change.{Change}
use Rattle.ns_change.specs.declared.change.PoolChange.{PoolChange}
use Rattle.ns_change.specs.declared.change.TenantChange.{TenantChange}
use Rattle.ns_tables.specs.declared.tables.PoolRows.{PoolRows as StoredPool}
use Rattle.ns_tables.specs.declared.tables.Tables.{Tables}
use Rattle.ns_tables.specs.declared.tables.TenantRows.{TenantRows}
use Rattle.ns_change.specs.Changed.{changed, changed_pool, changed_quota, changed_tenant, perhaps}
use Rattle.keyed.specs.Over.{over}
use Rattle.ns_tables.specs.World.{pool_of, tenant_of, world_of}
use Rattle.ns_tables.proofs.World.{pool_at, tenant_at}
use Rattle.ns_change.specs.Changed.{view}

module _ (w : World) (c : Change) where
  pub tenant_after : (ns : Name) → get (changed w c).tenants ns ≡ option_map (perhaps changed_tenant (row_at c.tenants ns)) (get w.tenants ns)
  unfolding changed
  tenant_after ns = get-map_rows names one_name _ w.tenants ns

module _ (t : Tables) (c : Change) (ns : Name) where
  pub tenant_seen : get (view t c).tenants ns ≡ option_map (λ x. perhaps changed_tenant (row_at c.tenants ns) (tenant_of x)) (row_at t.tenants ns)
  tenant_seen = tenant_after (world_of t) c ns ∙ ap (option_map (perhaps changed_tenant (row_at c.tenants ns))) (tenant_at t ns) ∙ by (row_at t.tenants ns)
    where
      by : (r : Option TenantRows) → option_map (perhaps changed_tenant (row_at c.tenants ns)) (option_map tenant_of r) ≡ option_map
          (λ x. perhaps changed_tenant (row_at c.tenants ns) (tenant_of x)) r
      by None = refl
      by (Some x) = refl

  pub none_seen : row_at t.tenants ns ≡ None → get (view t c).tenants ns ≡ None
  none_seen is = tenant_seen ∙ ap (option_map (λ x. perhaps changed_tenant (row_at c.tenants ns) (tenant_of x))) is

  pub kept_seen : (x : TenantRows) → row_at t.tenants ns ≡ Some x → row_at c.tenants ns ≡ None → get (view t c).tenants ns ≡ Some (tenant_of x)
  kept_seen x is none = tenant_seen ∙ (λ i. option_map (λ x. perhaps changed_tenant (none i) (tenant_of x)) (is i))

  pub changed_seen : (x : TenantRows) (y : TenantChange) → row_at t.tenants ns ≡ Some x → row_at c.tenants ns ≡ Some y →
      get (view t c).tenants ns ≡ Some (changed_tenant (tenant_of x) y)
  changed_seen x y is some = tenant_seen ∙ (λ i. option_map (λ x. perhaps changed_tenant (some i) (tenant_of x)) (is i))

-- ---- pools

pub pool_after : (w : World) (c : Change) (name : Name) → get (changed w c).pools name ≡ option_map (perhaps changed_pool (row_at c.pools name))
    (get w.pools name)
unfolding changed
pool_after w c name = get-map_rows names one_name _ w.pools name

module _ (t : Tables) (c : Change) (name : Name) where
  abbrev pub seen_as : Option StoredPool → Option PoolChange → Option PoolRows
  seen_as p x = option_map (perhaps changed_pool x) (option_map pool_of p)

  pub pool_seen : get (view t c).pools name ≡ seen_as (row_at t.pools name) (row_at c.pools name)
  pool_seen = pool_after (world_of t) c name ∙ ap (option_map (perhaps changed_pool (row_at c.pools name))) (pool_at t name)

  pub no_pool : row_at t.pools name ≡ None → get (view t c).pools name ≡ None
  no_pool is = pool_seen ∙ ap (λ p. seen_as p (row_at c.pools name)) is

  pub no_node : (n : Name) → row_at t.pools name ≡ None → node_at (view t c) name n ≡ None
  no_node n is = ap (option_and_then (λ p. get p.nodes n)) (no_pool is)

  pub kept_node : (n : Name) (x : StoredPool) → row_at t.pools name ≡ Some x → row_at c.pools name ≡ None → node_at (view t c) name n ≡ row_at x.nodes n
  kept_node n x is none = ap (option_and_then (λ p. get p.nodes n)) (pool_seen ∙ (λ i. seen_as (is i) (none i))) ∙ get-rows names x.nodes n

  pub changed_node : (n : Name) (x : StoredPool) (y : PoolChange) → row_at t.pools name ≡ Some x → row_at c.pools name ≡ Some y →
      node_at (view t c) name n ≡ get (over (rows x.nodes) y.nodes) n
  changed_node n x y is some = ap (option_and_then (λ p. get p.nodes n)) (pool_seen ∙ (λ i. seen_as (is i) (some i)))

-- ---- quotas

pub quota_after : (w : World) (c : Change) (name : Name) →
    get (changed w c).quotas name ≡ option_map (perhaps changed_quota (row_at c.quotas name)) (get w.quotas name)
unfolding changed
quota_after w c name = get-map_rows names one_name _ w.quotas name
