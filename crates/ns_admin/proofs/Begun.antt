-- The opening tables hold the opening world.
use Rattle.std.specs.Prelude.{◌≡◌, []}
use Rattle.std.proofs.Common.{ap, ◌∙◌}
use Rattle.std.specs.FinMap.{empty, insert}
use Rattle.keyed.specs.Table.{rows}
use Rattle.keyed.proofs.Tables.{rows-empty}
use Rattle.ns_types.proofs.Named.{names, one_name}
use Rattle.ns_types.proofs.Tables.{table_of-empty, table_of-insert}
use Rattle.ns_types.specs.State.Names.{ByName, default_name}
use Rattle.ns_types.specs.State.Tables.{table_of}
use Rattle.ns_types.specs.Steps.{opening_pool, opening_tenant, opening_world}
use Rattle.ns_tables.specs.declared.tables.PoolRows.{PoolRows}
use Rattle.ns_tables.specs.declared.tables.Tables.{Tables}
use Rattle.ns_tables.specs.declared.tables.TenantRows.{TenantRows}
use Rattle.ns_tables.specs.World.{pool_of, quota_of, tenant_of, world_of}

-- the one row of a table
one_row : {X Y : Type 0} (f : X → Y) (m : ByName X) (x : X) (y : Y) → m ≡ insert empty default_name x → f x ≡ y →
    table_of (λ _ x. f x) m ≡ insert empty default_name y
one_row f m x y e g = ap (table_of (λ _ x. f x)) e ∙ table_of-insert names one_name (λ _ x. f x) empty default_name x
    ∙ ap (λ m. insert m default_name (f x)) (table_of-empty names one_name (λ _ x. f x)) ∙ ap (insert empty default_name) g

pub opening_tables : (t : Tables) (x : TenantRows) (p : PoolRows) → rows t.tenants ≡ insert empty default_name x → tenant_of x ≡ opening_tenant
    → rows t.pools ≡ insert empty default_name p → pool_of p ≡ opening_pool → t.quotas ≡ empty
    → t.ready.items ≡ [] → t.plans.items ≡ [] → t.blocked.items ≡ [] → world_of t ≡ opening_world
unfolding world_of
opening_tables t x p tenants tenant pools pool quotas ready plans blocked = λ i. record {
  tenants = one_row tenant_of (rows t.tenants) x opening_tenant tenants tenant i;
  pools = one_row pool_of (rows t.pools) p opening_pool pools pool i;
  quotas = (ap (λ m. table_of (λ _ q. quota_of q) (rows m)) quotas ∙ ap (table_of (λ _ q. quota_of q)) rows-empty
      ∙ table_of-empty names one_name (λ _ q. quota_of q)) i;
  ready = ready i;
  plans = plans i;
  blocked = blocked i;
}
