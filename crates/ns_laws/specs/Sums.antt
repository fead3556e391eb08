-- Laws of sums: what live allocations use together stays far below 2^64. Also: which fields amounts and limits have.
use Rattle.std.specs.Prelude.{◌≡◌, ℕ, sum_by}
use Rattle.std.specs.FinMap.{entries}
use Rattle.ns_types.specs.State.Resources.{Cpu, Disk, Memory, each_resource, limit_on, quantity}
use Rattle.ns_types.specs.declared.resources.Limits.{Limits}
use Rattle.ns_types.specs.declared.resources.Resources.{Resources}
use Rattle.ns_types.specs.State.Names.{Name}
use Rattle.ns_types.specs.State.Rows.{State, World, is_live}
use Rattle.ns_types.specs.State.Sums.{tenant_sum, quota_use, node_load}
use Rattle.ns_types.specs.Validity.{IsSmall, IsValid}

-- the sum of an amount over the live allocations of all namespaces
unfoldable pub live_sum : World → (Resources → ℕ) → ℕ
live_sum w amount = sum_by (λ e. tenant_sum is_live amount e.1) (entries w.tenants)

abbrev pub live_use : World → Resources
live_use w = each_resource (λ r. live_sum w (quantity r))

-- In a valid state all live allocations of the server together use less than 2^55 of each resource.
abbrev pub LiveUseIsSmall : Type 0
LiveUseIsSmall = (s : State) → IsValid s → IsSmall (live_use s.world)

-- In a valid state the use of a quota is less than 2^55 of each resource.
abbrev pub QuotaUseIsSmall : Type 0
QuotaUseIsSmall = (s : State) (quota : Name) → IsValid s → IsSmall (quota_use s.world quota)

-- In a valid state the live allocations on a node together use less than 2^55 of each resource.
abbrev pub NodeLoadIsSmall : Type 0
NodeLoadIsSmall = (s : State) (pool node : Name) → IsValid s → IsSmall (node_load s.world pool node)

-- An amount has as much of a resource as its field of that name says.
abbrev pub QuantitiesAreFields : Type 0
QuantitiesAreFields = (a : Resources) → (quantity Cpu a ≡ a.cpu) × (quantity Memory a ≡ a.memory) × (quantity Disk a ≡ a.disk)

-- A quota limits a resource as its field of that name says.
abbrev pub LimitsAreFields : Type 0
LimitsAreFields = (l : Limits) → (limit_on Cpu l ≡ l.cpu) × (limit_on Memory l ≡ l.memory) × (limit_on Disk l ≡ l.disk)
