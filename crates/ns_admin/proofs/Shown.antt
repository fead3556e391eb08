-- What lists of the world show, as the tables' slots show it.
use Rattle.std.specs.Prelude.{◌≡◌, Bool, map, filter}
use Rattle.std.specs.FinMap.{entries}
use Rattle.keyed.specs.Table.{row_list}
use Rattle.keyed.proofs.Viewing.{listed, listed_all}
use Rattle.ns_types.specs.State.Names.{Name}
use Rattle.ns_types.specs.State.Rows.{Tenant, PoolRows, QuotaRows}
use Rattle.ns_tables.specs.declared.tables.Tables.{Tables}
use Rattle.ns_tables.specs.World.{pool_of, quota_of, tenant_of, world_of}

module _ {S : Type 0} (t : Tables) where
  pub tenants_shown : (passes : Name → Bool) (show : Name × Tenant → S)
      → map show (filter (λ e. passes e.0) (entries (world_of t).tenants))
      ≡ map (λ e. show (e.0, tenant_of e.1)) (filter (λ e. passes e.0) (row_list (entries t.tenants)))
  unfolding world_of
  tenants_shown passes show = listed (λ _ x. tenant_of x) passes show t.tenants

  pub pools_shown : (passes : Name → Bool) (show : Name × PoolRows → S)
      → map show (filter (λ e. passes e.0) (entries (world_of t).pools))
      ≡ map (λ e. show (e.0, pool_of e.1)) (filter (λ e. passes e.0) (row_list (entries t.pools)))
  unfolding world_of
  pools_shown passes show = listed (λ _ x. pool_of x) passes show t.pools

  pub quotas_shown : (show : Name × QuotaRows → S)
      → map show (entries (world_of t).quotas) ≡ map (λ e. show (e.0, quota_of e.1)) (row_list (entries t.quotas))
  unfolding world_of
  quotas_shown show = listed_all (λ _ x. quota_of x) show t.quotas
