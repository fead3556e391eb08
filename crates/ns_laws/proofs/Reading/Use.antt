-- What allocations take together is what the rows of those that count take together.
use Rattle.std.specs.Prelude.{◌≡◌, ℕ, Bool, cond, List, filter, flat_map, sum_by}
use Rattle.std.proofs.Common.{sym, ◌∙◌}
use Rattle.std.specs.FinMap.{entries, values}
use Rattle.ns_types.specs.declared.allocation.Allocation.{Allocation}
use Rattle.ns_types.specs.declared.resources.Resources.{Resources}
use Rattle.ns_types.specs.State.Names.{Name}
use Rattle.ns_types.specs.State.Resources.{quantity, total}
use Rattle.ns_types.specs.State.Rows.{World, Tenant, is_live, is_live_on}
use Rattle.ns_types.specs.State.Sums.{names_quota, tenant_sum, quota_sum, quota_use, node_sum, node_load}
use Rattle.ns_types.proofs.Amounts.{same_of_each}
use Rattle.ns_types.proofs.Lists.{each}
use Rattle.ns_types.proofs.Sums.{sum_filter, sum_flat, sum_map, sum_same}
use Rattle.ns_laws.specs.Reads as law

module _ (amount : Resources → ℕ) where
  abbrev size_of : Allocation → ℕ
  size_of a = amount a.size

  tenant_of : (counts : Allocation → Bool) (t : Tenant) → tenant_sum counts amount t ≡ sum_by size_of (filter counts (values t.allocations))
  tenant_of counts t = sym (sum_filter size_of counts (values t.allocations)
      ∙ sum_map (λ a. cond (counts a) (amount a.size) 0) (λ (e : ℕ × Allocation). e.1) (entries t.allocations))

  tenants_of : (counts : Allocation → Bool) (ts : List (Name × Tenant)) →
      sum_by (λ t. tenant_sum counts amount t.1) ts ≡ sum_by size_of (flat_map (λ t. filter counts (values t.1.allocations)) ts)
  tenants_of counts ts = sum_same (λ t. tenant_sum counts amount t.1) (λ t. sum_by size_of (filter counts (values t.1.allocations))) ts
      (each _ (λ t. tenant_of counts t.1) ts) ∙ sym (sum_flat size_of (λ t. filter counts (values t.1.allocations)) ts)

  quota_of : (w : World) (quota : Name) → quota_sum w quota amount ≡ sum_by size_of (law.counted_in w quota)
  unfolding quota_sum
  quota_of w quota = sym (sum_filter (λ (t : Name × Tenant). tenant_sum is_live amount t.1) (λ t. names_quota quota t.1.namespace) (entries w.tenants))
      ∙ tenants_of is_live (filter (λ t. names_quota quota t.1.namespace) (entries w.tenants))

  node_of : (w : World) (pool node : Name) → node_sum w pool node amount ≡ sum_by size_of (law.running_on w pool node)
  unfolding node_sum
  node_of w pool node = tenants_of (is_live_on pool node) (entries w.tenants)

pub use_is : (w : World) (quota : Name) → quota_use w quota ≡ total (λ a. a.size) (law.counted_in w quota)
use_is w quota = same_of_each _ _ (λ r. quota_of (quantity r) w quota)

pub load_is : (w : World) (pool node : Name) → node_load w pool node ≡ total (λ a. a.size) (law.running_on w pool node)
load_is w pool node = same_of_each _ _ (λ r. node_of (quantity r) w pool node)
