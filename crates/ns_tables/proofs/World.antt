-- What stands in the tables.
use Rattle.std.specs.Prelude.{◌≡◌, ℕ, Option, Some, None, is_some, option_map}
use Rattle.std.proofs.Common.{refl, ap, ◌∙◌}
use Rattle.std.specs.Option.{option_and_then}
use Rattle.std.specs.FinMap.{contains_key, get}
use Rattle.keyed.specs.Table.{rows, row_at}
use Rattle.keyed.proofs.Tables.{get-rows}
use Rattle.ns_types.specs.State.Names.{Name}
use Rattle.ns_types.specs.State.Rows.{evaluation_at}
use Rattle.ns_types.proofs.Named.{names, one_name, numbers}
use Rattle.ns_types.proofs.Tables.{get-table_of}
use Rattle.ns_tables.specs.declared.tables.QuotaRows.{QuotaRows}
use Rattle.ns_tables.specs.declared.tables.Tables.{Tables}
use Rattle.ns_tables.specs.declared.tables.TenantRows.{TenantRows}
use Rattle.ns_tables.specs.World.{pool_of, quota_of, tenant_of, world_of}

module _ (t : Tables) where
  pub tenant_at : (ns : Name) → get (world_of t).tenants ns ≡ option_map tenant_of (row_at t.tenants ns)
  unfolding world_of
  tenant_at ns = get-table_of names one_name (λ _ x. tenant_of x) (rows t.tenants) ns ∙ ap (option_map tenant_of) (get-rows names t.tenants ns)

  pub evaluation_nowhere : (ns : Name) (n : ℕ) → row_at t.tenants ns ≡ None → evaluation_at (world_of t) (ns, n) ≡ None
  evaluation_nowhere ns n is = ap (option_and_then (λ t. get t.evaluations n)) (tenant_at ns ∙ ap (option_map tenant_of) is)

  pub evaluation_there : (ns : Name) (n : ℕ) (x : TenantRows) → row_at t.tenants ns ≡ Some x → evaluation_at (world_of t) (ns, n) ≡ row_at x.evaluations.slots n
  evaluation_there ns n x is = ap (option_and_then (λ t. get t.evaluations n)) (tenant_at ns ∙ ap (option_map tenant_of) is)
      ∙ get-rows numbers x.evaluations.slots n

  pub pool_at : (name : Name) → get (world_of t).pools name ≡ option_map pool_of (row_at t.pools name)
  unfolding world_of
  pool_at name = get-table_of names one_name (λ _ x. pool_of x) (rows t.pools) name ∙ ap (option_map pool_of) (get-rows names t.pools name)

  pub quota_there : (name : Name) → contains_key (world_of t).quotas name ≡ is_some (row_at t.quotas name)
  unfolding world_of
  quota_there name = ap is_some (get-table_of names one_name (λ _ x. quota_of x) (rows t.quotas) name ∙ ap (option_map quota_of) (get-rows names t.quotas name))
      ∙ by (row_at t.quotas name)
    where
      by : (r : Option QuotaRows) → is_some (option_map quota_of r) ≡ is_some r
      by None = refl
      by (Some x) = refl

pub blocked_seen : (t : Tables) → (world_of t).blocked ≡ t.blocked.items
unfolding world_of
blocked_seen t = refl
