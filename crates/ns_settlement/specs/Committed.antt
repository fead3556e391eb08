-- Room for all that a settled step changes, and the rows once they are committed.
use Rattle.std.specs.Prelude.{◌≡◌, ℕ, ◌+◌, ◌<◌, ◌≤◌, ◌^◌, Bool, true, false, if◌then◌else◌, List, [], ◌∷◌, Option, Some}
use Rattle.std.specs.Prelude.{IsTrue, fold, is_some, length, option_map}
use Rattle.std.specs.declared.cmp.Ordering.{Ordering}
use Rattle.std.specs.List.{list_any}
use Rattle.std.specs.FinMap.{FinMap, insert}
use Rattle.keyed.specs.Over.{HasRoomFor}
use Rattle.keyed.specs.Queue.{CanAdd}
use Rattle.keyed.specs.Table.{has_slot, row_at}
use Rattle.ns_types.specs.declared.node.Class.{Class}
use Rattle.ns_types.specs.declared.records.Quota.{Quota}
use Rattle.ns_types.specs.State.Names.{Name, ByName, name_cmp, has_name, same_name}
use Rattle.ns_types.specs.Settling.Settle.{after_quota_release, after_release}
use Rattle.ns_types.specs.State.Rows
use Rattle.ns_types.specs.State.Tables.{map_rows}
use Rattle.ns_types.specs.Steps.{is_past_bound}
use Rattle.ns_change.specs.declared.change.PoolChange.{PoolChange}
use Rattle.ns_change.specs.declared.change.Settled.{Settled}
use Rattle.ns_change.specs.declared.change.SettledTenant.{SettledTenant}
use Rattle.ns_change.specs.declared.change.TenantChange.{TenantChange}
use Rattle.ns_change.specs.Changed.{changed_pool, changed_quota, perhaps}
use Rattle.ns_change.specs.Settled.{classes_in, settled_world}
use Rattle.ns_settlement.specs.Owners.{EachChanged}
use Rattle.ns_tables.specs.Allocations.{HasAllocationRoom}
use Rattle.ns_tables.specs.Evaluations.{HasEvaluationRoom}
use Rattle.ns_tables.specs.World.{pool_of}
use Rattle.ns_tables.specs.declared.tables.PoolRows.{PoolRows}
use Rattle.ns_tables.specs.declared.tables.QuotaRows.{QuotaRows}
use Rattle.ns_tables.specs.declared.tables.Tables.{Tables}
use Rattle.ns_tables.specs.declared.tables.TenantRows.{TenantRows}

-- ---- namespaces

-- a slot for each changed row
pub record HasRowRoom (x : TenantChange) (t : TenantRows) : Type 0 where
  pub jobs : HasRoomFor x.jobs t.jobs
  pub evaluations : HasEvaluationRoom x.evaluations t.evaluations
  pub allocations : HasAllocationRoom x.allocations t.allocations
  pub workers : HasRoomFor x.workers t.workers

-- where there are events, the index can rise
abbrev pub CanPublish : SettledTenant → TenantRows → Type 0
CanPublish x t = is_some x.events ≡ true → t.index + 1 < 2 ^ 64

-- a slot for each changed row, and an index that can rise if there are events
pub record HasTenantRoom (x : SettledTenant) (t : TenantRows) : Type 0 where
  pub rows : HasRowRoom x.rows t
  pub index : CanPublish x t

-- ---- room that is given back

-- no changed row has a vacant slot
abbrev pub IsCleared : {K X : Type 0} {R : K → K → Ordering} → FinMap R (Option X) → FinMap R (Option X) → Type 0
IsCleared {K = K} c m = (k : K) → IsTrue (has_slot c k) → IsTrue (has_slot m k) → IsTrue (is_some (row_at m k))

pub record IsTenantCleared (x : SettledTenant) (t : TenantRows) : Type 0 where
  pub jobs : IsCleared x.rows.jobs t.jobs
  pub evaluations : IsCleared x.rows.evaluations t.evaluations.slots
  pub allocations : IsCleared x.rows.allocations t.allocations.slots
  pub workers : IsCleared x.rows.workers t.workers

abbrev pub IsPoolCleared : PoolChange → PoolRows → Type 0
IsPoolCleared x pool = IsCleared x.nodes pool.nodes

-- ---- pools

-- whether a class of the pool is released
abbrev pub releases : List (Name × Class) → Name → Bool
releases rooms name = list_any (λ room. same_name name room.0) rooms

-- the pool's release number rises by one if classes of the pool are released
abbrev pub raised_pool : Bool → PoolRows → PoolRows
raised_pool released pool = if released then record pool { release = pool.release + 1 } else pool

-- the classes have the number of the pool's last release
abbrev pub with_classes : List Class → Rows.PoolRows → Rows.PoolRows
with_classes classes pool = record pool {
  classes = fold (λ known c. insert known c pool.release) pool.classes classes;
}

abbrev pub numbered_pools : List (Name × Class) → ByName Rows.PoolRows → ByName Rows.PoolRows
numbered_pools rooms m = map_rows (λ name pool. with_classes (classes_in name rooms) pool) m

abbrev pub HasNodeRoom : PoolChange → PoolRows → Type 0
HasNodeRoom x pool = HasRoomFor x.nodes pool.nodes

-- room for each released class
abbrev pub HaveClassRoom : List (Name × Class) → FinMap name_cmp (Option PoolRows) → Type 0
HaveClassRoom rooms m = (name : Name) (pool : PoolRows) → row_at m name ≡ Some pool →
    length (classes_in name rooms) ≤ pool.classes.room

-- the nodes of each pool, with their slots, stay
abbrev pub KeepsNodes : FinMap name_cmp (Option PoolRows) → FinMap name_cmp (Option PoolRows) → Type 0
KeepsNodes old new = (name : Name) →
    option_map (λ pool. pool.nodes) (row_at new name) ≡ option_map (λ pool. pool.nodes) (row_at old name)

-- the class gets the number of the pool's last release; the nodes stay, and room for one class is used at most
pub record ClassPut (class : Class) (old new : PoolRows) : Type 0 where
  pub pool : pool_of new ≡ with_classes (class ∷ []) (pool_of old)
  pub nodes : new.nodes ≡ old.nodes
  pub room : old.classes.room ≤ new.classes.room + 1

-- ---- release numbers

-- the release number of each chosen row can rise
abbrev pub CanRise : {Row : Type 0} → (Row → ℕ) → (Name → Bool) → FinMap name_cmp (Option Row) → Type 0
CanRise {Row = Row} release chosen m = (name : Name) (row : Row) → row_at m name ≡ Some row → chosen name ≡ true →
    release row + 1 < 2 ^ 64

-- ---- pools, whole

-- only room for classes was made
pub record GainsClassRoom (old new : PoolRows) : Type 0 where
  pub pool : pool_of new ≡ pool_of old
  pub nodes : new.nodes ≡ old.nodes

pub record HavePoolRoom (x : FinMap name_cmp (Option PoolChange)) (rooms : List (Name × Class))
    (m : FinMap name_cmp (Option PoolRows)) : Type 0 where
  pub nodes : EachChanged HasNodeRoom x m
  pub classes : HaveClassRoom rooms m
  pub numbers : CanRise (λ pool. pool.release) (releases rooms) m

abbrev pub settled_pools : FinMap name_cmp (Option PoolChange) → List (Name × Class) → ByName Rows.PoolRows →
    ByName Rows.PoolRows
settled_pools x rooms m = map_rows
    (λ name pool. after_release (classes_in name rooms) (perhaps changed_pool (row_at x name) pool)) m

-- ---- quotas

abbrev pub raised_quota : Bool → QuotaRows → QuotaRows
raised_quota released quota = if released then record quota { release = quota.release + 1 } else quota

abbrev pub released_quotas : List Name → ByName Rows.QuotaRows → ByName Rows.QuotaRows
released_quotas released m = map_rows (λ name quota. after_quota_release (has_name released name) quota) m

abbrev pub settled_quotas : FinMap name_cmp (Option Quota) → List Name → ByName Rows.QuotaRows → ByName Rows.QuotaRows
settled_quotas x released m = map_rows
    (λ name quota. after_quota_release (has_name released name) (perhaps changed_quota (row_at x name) quota)) m

-- ---- all of it

-- room for all rows and entries, and release numbers that can rise
pub record HasRoom (s : Settled) (t : Tables) : Type 0 where
  pub tenants : EachChanged HasTenantRoom s.tenants t.tenants
  pub pools : HavePoolRoom s.pools s.rooms t.pools
  pub quotas : CanRise (λ quota. quota.release) (has_name s.released) t.quotas
  pub ready : CanAdd s.ready.added t.ready
  pub plans : CanAdd s.plans.added t.plans
  pub blocked : CanAdd s.blocked.added t.blocked

-- no changed row of a namespace and no changed node has a vacant slot
pub record AreCleared (s : Settled) (t : Tables) : Type 0 where
  pub tenants : EachChanged IsTenantCleared s.tenants t.tenants
  pub pools : EachChanged IsPoolCleared s.pools t.pools

-- no counter is past its bound once the step has settled
abbrev pub Fits : Rows.World → Settled → Type 0
Fits w s = is_past_bound (settled_world w s) ≡ false
