-- A change of one of the tables, as a change of the world.
use Rattle.std.specs.Prelude.{◌≡◌, Option, Some, None, option_map, is_some}
use Rattle.std.proofs.Common.{sym, ap, ◌∙◌}
use Rattle.std.specs.FinMap.{FinMap, contains_key, get, insert, remove}
use Rattle.keyed.specs.Table.{row_at, rows, with_slot}
use Rattle.ns_types.specs.declared.records.Namespace.{Namespace}
use Rattle.ns_types.specs.declared.records.Pool.{Pool}
use Rattle.ns_types.specs.declared.records.Quota.{Quota}
use Rattle.ns_types.specs.Asking.Admins.{is_full, new_tenant, with_namespace, with_pool, with_quota}
use Rattle.ns_types.specs.Settling.Making.{put_pool, put_tenant}
use Rattle.ns_types.specs.State.Names.{Name, name_cmp}
use Rattle.ns_types.proofs.Tests.{some_mapped}
use Rattle.ns_tables.specs.declared.tables.PoolRows.{PoolRows}
use Rattle.ns_tables.specs.declared.tables.QuotaRows.{QuotaRows}
use Rattle.ns_tables.specs.declared.tables.Tables.{Tables}
use Rattle.ns_tables.specs.declared.tables.TenantRows.{TenantRows}
use Rattle.ns_tables.specs.World.{pool_of, quota_of, tenant_of, world_of}
use Rattle.ns_tables.proofs.World.{pool_at, tenant_at}
use Rattle.ns_admin.specs.Viewed.{with_quota_written}
use Rattle.ns_admin.proofs.Written.{found_at, full_at, shown-remove, shown-set, shown-written}

module _ (t : Tables) (name : Name) where
  -- ---- what is found

  pub tenant_is : (x : Option TenantRows) → row_at t.tenants name ≡ x → get (world_of t).tenants name ≡ option_map tenant_of x
  tenant_is x e = tenant_at t name ∙ ap (option_map tenant_of) e

  pub pool_is : (x : Option PoolRows) → row_at t.pools name ≡ x → get (world_of t).pools name ≡ option_map pool_of x
  pool_is x e = pool_at t name ∙ ap (option_map pool_of) e

  pub quota_is : (x : Option QuotaRows) → row_at t.quotas name ≡ x → get (world_of t).quotas name ≡ option_map quota_of x
  unfolding world_of
  quota_is x e = found_at quota_of t.quotas name x e

  pub pool_there : (x : Option PoolRows) → row_at t.pools name ≡ x → contains_key (world_of t).pools name ≡ is_some x
  pool_there x e = ap is_some (pool_is x e) ∙ some_mapped pool_of x

  -- ---- whether there is room

  pub tenants_full : is_full (world_of t).tenants name ≡ is_full (rows t.tenants) name
  unfolding world_of
  tenants_full = full_at tenant_of t.tenants name

  pub pools_full : is_full (world_of t).pools name ≡ is_full (rows t.pools) name
  unfolding world_of
  pools_full = full_at pool_of t.pools name

  pub quotas_full : is_full (world_of t).quotas name ≡ is_full (rows t.quotas) name
  unfolding world_of
  quotas_full = full_at quota_of t.quotas name

  -- ---- namespaces

  -- the record of a namespace that is there, over what it has
  pub tenant_over : (n : FinMap name_cmp (Option TenantRows)) (namespace : Namespace) (x : TenantRows) → row_at t.tenants name ≡ Some x →
      n ≡ insert t.tenants name (Some (record x { namespace = namespace }))
      → world_of (record t { tenants = n }) ≡ put_tenant name (with_namespace namespace (get (world_of t).tenants name)) (world_of t)
  unfolding world_of
  tenant_over n namespace x at e = λ i. record (world_of t) {
    tenants = (shown-written tenant_of t.tenants n name (record x { namespace = namespace }) e
        ∙ ap (λ y. insert (world_of t).tenants name (with_namespace namespace y)) (sym (tenant_is (Some x) at))) i;
  }

  -- the record of a new one
  pub tenant_new : (m n : FinMap name_cmp (Option TenantRows)) (namespace : Namespace) (x : TenantRows) → row_at t.tenants name ≡ None →
      tenant_of x ≡ new_tenant namespace → m ≡ with_slot t.tenants name → n ≡ insert m name (Some x)
      → world_of (record t { tenants = n }) ≡ put_tenant name (with_namespace namespace (get (world_of t).tenants name)) (world_of t)
  unfolding world_of
  tenant_new m n namespace x at new e f = λ i. record (world_of t) {
    tenants = (shown-set tenant_of t.tenants m n name x e f
        ∙ ap (insert (world_of t).tenants name) (new ∙ ap (with_namespace namespace) (sym (tenant_is None at)))) i;
  }

  pub tenant_removed : (n : FinMap name_cmp (Option TenantRows)) → n ≡ remove t.tenants name →
      world_of (record t { tenants = n }) ≡ record (world_of t) { tenants = remove (world_of t).tenants name }
  unfolding world_of
  tenant_removed n e = λ i. record (world_of t) { tenants = shown-remove tenant_of t.tenants n name e i }

  -- ---- pools

  -- the record of a pool that is there, over what it has
  pub pool_over : (n : FinMap name_cmp (Option PoolRows)) (pool : Pool) (x : PoolRows) → row_at t.pools name ≡ Some x →
      n ≡ insert t.pools name (Some (record x { pool = pool }))
      → world_of (record t { pools = n }) ≡ put_pool name (with_pool pool (get (world_of t).pools name)) (world_of t)
  unfolding world_of
  pool_over n pool x at e = λ i. record (world_of t) {
    pools = (shown-written pool_of t.pools n name (record x { pool = pool }) e
        ∙ ap (λ y. insert (world_of t).pools name (with_pool pool y)) (sym (pool_is (Some x) at))) i;
  }

  -- the record of a new one
  pub pool_new : (m n : FinMap name_cmp (Option PoolRows)) (pool : Pool) (x : PoolRows) → row_at t.pools name ≡ None →
      pool_of x ≡ with_pool pool None → m ≡ with_slot t.pools name → n ≡ insert m name (Some x)
      → world_of (record t { pools = n }) ≡ put_pool name (with_pool pool (get (world_of t).pools name)) (world_of t)
  unfolding world_of
  pool_new m n pool x at new e f = λ i. record (world_of t) {
    pools = (shown-set pool_of t.pools m n name x e f
        ∙ ap (insert (world_of t).pools name) (new ∙ ap (with_pool pool) (sym (pool_is None at)))) i;
  }

  pub pool_removed : (n : FinMap name_cmp (Option PoolRows)) → n ≡ remove t.pools name →
      world_of (record t { pools = n }) ≡ record (world_of t) { pools = remove (world_of t).pools name }
  unfolding world_of
  pool_removed n e = λ i. record (world_of t) { pools = shown-remove pool_of t.pools n name e i }

  -- ---- quotas

  -- the record of a quota that is there, with its release number
  pub quota_over : (n : FinMap name_cmp (Option QuotaRows)) (quota : Quota) (x : QuotaRows) → row_at t.quotas name ≡ Some x →
      n ≡ insert t.quotas name (Some (record x { quota = quota }))
      → world_of (record t { quotas = n }) ≡ with_quota_written name (with_quota quota (get (world_of t).quotas name)) (world_of t)
  unfolding world_of
  quota_over n quota x at e = λ i. record (world_of t) {
    quotas = (shown-written quota_of t.quotas n name (record x { quota = quota }) e
        ∙ ap (λ y. insert (world_of t).quotas name (with_quota quota y)) (sym (quota_is (Some x) at))) i;
  }

  -- the record of a new one
  pub quota_new : (m n : FinMap name_cmp (Option QuotaRows)) (quota : Quota) → row_at t.quotas name ≡ None →
      m ≡ with_slot t.quotas name → n ≡ insert m name (Some (record { quota = quota; release = 0 }))
      → world_of (record t { quotas = n }) ≡ with_quota_written name (with_quota quota (get (world_of t).quotas name)) (world_of t)
  unfolding world_of
  quota_new m n quota at e f = λ i. record (world_of t) {
    quotas = (shown-set quota_of t.quotas m n name (record { quota = quota; release = 0 }) e f
        ∙ ap (λ y. insert (world_of t).quotas name (with_quota quota y)) (sym (quota_is None at))) i;
  }

  pub quota_removed : (n : FinMap name_cmp (Option QuotaRows)) → n ≡ remove t.quotas name →
      world_of (record t { quotas = n }) ≡ record (world_of t) { quotas = remove (world_of t).quotas name }
  unfolding world_of
  quota_removed n e = λ i. record (world_of t) { quotas = shown-remove quota_of t.quotas n name e i }
