-- The use of a quota and the load of a node: what their live allocations take together.
-- Nomad's page on resource quotas.
use Rattle.std.specs.Prelude.{Bool, false, cond, sum_by, ℕ}
use Rattle.std.specs.Option.{option_map_or}
use Rattle.std.specs.FinMap.{entries}
use Rattle.ns_types.specs.declared.records.Namespace.{Namespace}
use Rattle.ns_types.specs.declared.resources.Resources.{Resources}
use Rattle.ns_types.specs.declared.allocation.Allocation.{Allocation}
use Rattle.ns_types.specs.State.Names.{Name, same_name}
use Rattle.ns_types.specs.State.Resources.{each_resource, quantity}
use Rattle.ns_types.specs.State.Rows.{World, Tenant, is_live, is_live_on}

abbrev pub names_quota : Name → Namespace → Bool
names_quota quota namespace = option_map_or (same_name quota) namespace.quota false

-- the sum of an amount over those allocations of a namespace that count
abbrev pub tenant_sum : (Allocation → Bool) → (Resources → ℕ) → Tenant → ℕ
tenant_sum counts amount t = sum_by (λ e. cond (counts e.1) (amount e.1.size) 0) (entries t.allocations)

-- the use of a quota: the sum of an amount over the live allocations of all namespaces that name it
unfoldable pub quota_sum : World → Name → (Resources → ℕ) → ℕ
quota_sum w quota amount = sum_by (λ e. cond (names_quota quota e.1.namespace) (tenant_sum is_live amount e.1) 0)
    (entries w.tenants)

abbrev pub quota_use : World → Name → Resources
quota_use w quota = each_resource (λ r. quota_sum w quota (quantity r))

-- the load of a node: the sum of an amount over the live allocations on it, of all namespaces
unfoldable pub node_sum : World → Name → Name → (Resources → ℕ) → ℕ
node_sum w pool node amount = sum_by (λ e. tenant_sum (is_live_on pool node) amount e.1) (entries w.tenants)

abbrev pub node_load : World → Name → Name → Resources
node_load w pool node = each_resource (λ r. node_sum w pool node (quantity r))
