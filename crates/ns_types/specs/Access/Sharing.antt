-- Which pools a namespace may use, and whether others may use them too.
-- Nomad's pages on namespaces and node pools.
use Rattle.std.specs.Prelude.{Bool, true, false, not, ◌&&◌, ◌||◌, List, [], ◌∷◌, Option, Some, None, is_some, option_map}
use Rattle.std.specs.Option.{option_map_or}
use Rattle.std.specs.List.{list_all, list_any}
use Rattle.std.specs.FinMap.{get}
use Rattle.ns_types.specs.declared.records.Namespace.{Namespace}
use Rattle.ns_types.specs.State.Names.{Name, same_name, has_name}
use Rattle.ns_types.specs.State.Tables.{any_row}
use Rattle.ns_types.specs.State.Rows.{World, Tenant, is_open, is_held}
use Rattle.ns_types.specs.State.Sums.{names_quota}

-- with a list of allowed pools, a namespace may use its default pool and those; else every pool that it does not deny
abbrev pub permits_by : Option (List Name) → Namespace → Name → Bool
permits_by (Some allowed) namespace pool = same_name pool namespace.default_pool || has_name allowed pool
permits_by None namespace pool = not (has_name namespace.denied pool)

abbrev pub permits : Namespace → Name → Bool
permits namespace pool = permits_by namespace.allowed namespace pool

abbrev pub namespace_at : World → Name → Option Namespace
namespace_at w ns = option_map (λ t. t.namespace) (get w.tenants ns)

-- the namespace exists and may use the pool
abbrev pub has_pool : World → Name → Name → Bool
has_pool w ns pool = option_map_or (λ namespace. permits namespace pool) (namespace_at w ns) false

-- a namespace is confined if it has a list of allowed pools
abbrev pub is_confined : Namespace → Bool
is_confined namespace = is_some namespace.allowed

-- the pools of a confined namespace
abbrev pub pools_of : Namespace → List Name
pools_of namespace = option_map_or (λ allowed. namespace.default_pool ∷ allowed) namespace.allowed []

-- the other namespace may use a pool of this confined one, or names its quota
abbrev pub overlaps : Namespace → Namespace → Bool
overlaps namespace other = list_any (permits other) (pools_of namespace)
    || option_map_or (λ quota. names_quota quota other) namespace.quota false

-- the namespace is not confined, or another namespace may use one of its pools or names its quota
abbrev pub shares_with_any : World → Name → Tenant → Bool
shares_with_any w ns t = not (is_confined t.namespace)
    || any_row (λ name other. not (same_name name ns) && overlaps t.namespace other.namespace) w.tenants

-- the namespace is not confined, shares a pool or its quota with another, or does not exist
unfoldable pub shares : World → Name → Bool
shares w ns = option_map_or (shares_with_any w ns) (get w.tenants ns) true

-- ---- a namespace that has its pools and its quotas to itself

-- the other namespace may use one of the pools, has one as its default, or names one of the quotas
abbrev pub intrudes : List Name → List Name → Namespace → Bool
intrudes pools quotas other = list_any (permits other) pools || has_name pools other.default_pool
    || option_map_or (has_name quotas) other.quota false

-- the default pool, the allowed pools and the quota of a namespace's record are all among the chosen ones
abbrev pub names_within : (Name → Bool) → (Name → Bool) → Namespace → Bool
names_within pools quotas namespace = pools namespace.default_pool
    && option_map_or (list_all pools) namespace.allowed true
    && option_map_or quotas namespace.quota true

-- an open evaluation, a worker's snapshot, or an allocation with client status `pending` or `running` names another pool
abbrev pub strays_from : List Name → Tenant → Bool
strays_from pools t = any_row (λ _ e. is_open e.status && not (has_name pools e.pool)) t.evaluations
    || any_row (λ _ worker. option_map_or (λ kept. not (has_name pools kept.pool)) worker.kept false) t.workers
    || any_row (λ _ a. is_held a.client && not (has_name pools a.pool)) t.allocations

-- the namespace is confined to these pools, names no quota but these, and has nothing in other pools
abbrev pub stays_within : List Name → List Name → Tenant → Bool
stays_within pools quotas t = is_confined t.namespace && names_within (has_name pools) (has_name quotas) t.namespace
    && not (strays_from pools t)

-- no other namespace may use these pools or names these quotas, and the namespace, if it exists, keeps to them
unfoldable pub is_apart : World → Name → List Name → List Name → Bool
is_apart w ns pools quotas =
    not (any_row (λ name other. not (same_name name ns) && intrudes pools quotas other.namespace) w.tenants)
    && option_map_or (stays_within pools quotas) (get w.tenants ns) true
