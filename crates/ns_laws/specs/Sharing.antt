-- Laws of pools and quotas: which a namespace may use, and which it has to itself.
use Rattle.std.specs.Prelude.{◌≡◌, ◌≢◌, ◌↔◌, List, Some, None, IsTrue, IsFalse, ℕ, ◌⊎◌}
use Rattle.std.specs.FinMap.{get}
use Rattle.std.specs.List.{Contains}
use Rattle.ns_types.specs.declared.allocation.Allocation.{Allocation}
use Rattle.ns_types.specs.declared.evaluation.Evaluation.{Evaluation}
use Rattle.ns_types.specs.declared.records.Namespace.{Namespace}
use Rattle.ns_types.specs.declared.snapshot.Snapshot.{Snapshot}
use Rattle.ns_types.specs.Working.Worker.{Worker}
use Rattle.ns_types.specs.State.Names.{Name}
use Rattle.ns_types.specs.State.Rows.{World, Tenant, is_open, is_held}
use Rattle.ns_types.specs.Access.Sharing.{permits, has_pool, shares, is_apart}

-- A namespace with a list of allowed pools may use its default pool and the pools of the list, and no others.
abbrev pub ConfinedToItsPools : Type 0
ConfinedToItsPools = (namespace : Namespace) (allowed : List Name) (pool : Name) → namespace.allowed ≡ Some allowed
    → IsTrue (permits namespace pool) ↔ ((pool ≡ namespace.default_pool) ⊎ Contains allowed pool)

-- A namespace without a list of allowed pools may use exactly the pools that it does not deny.
abbrev pub ElseAllButDenied : Type 0
ElseAllButDenied = (namespace : Namespace) (pool : Name) → namespace.allowed ≡ None
    → IsTrue (permits namespace pool) ↔ (Contains namespace.denied pool → ⊥)

-- The server says that a namespace may use a pool exactly if the namespace exists and may use it. The pool need not exist.
abbrev pub HasPoolIfPermitted : Type 0
HasPoolIfPermitted = (w : World) (ns pool : Name) → IsTrue (has_pool w ns pool)
    ↔ ((t : Tenant) × (get w.tenants ns ≡ Some t) × IsTrue (permits t.namespace pool))

-- The namespace has a list of allowed pools, no other namespace may use a pool that it may use, and none names its quota.
pub record UsesAlone (w : World) (ns : Name) (t : Tenant) : Type 0 where
  pub confined : (allowed : List Name) × (t.namespace.allowed ≡ Some allowed)
  pub pools : (other : Name) (o : Tenant) (pool : Name) → get w.tenants other ≡ Some o → other ≢ ns →
      IsTrue (permits t.namespace pool) → IsFalse (permits o.namespace pool)
  pub quota : (other : Name) (o : Tenant) (quota : Name) → get w.tenants other ≡ Some o → other ≢ ns →
      t.namespace.quota ≡ Some quota → o.namespace.quota ≢ Some quota

-- The server says of a namespace that it does not share exactly if it uses its pools and its quota alone.
abbrev pub SharesUnlessAlone : Type 0
SharesUnlessAlone = (w : World) (ns : Name) (t : Tenant) → get w.tenants ns ≡ Some t →
    IsFalse (shares w ns) ↔ UsesAlone w ns t

-- The server says of a namespace that does not exist that it shares.
abbrev pub AbsentShares : Type 0
AbsentShares = (w : World) (ns : Name) → get w.tenants ns ≡ None → IsTrue (shares w ns)

-- A namespace that has its pools and its quotas to itself has a list of allowed pools.
abbrev pub ApartIsConfined : Type 0
ApartIsConfined = (w : World) (ns : Name) (pools quotas : List Name) (t : Tenant) → IsTrue (is_apart w ns pools quotas)
    → get w.tenants ns ≡ Some t → (allowed : List Name) × (t.namespace.allowed ≡ Some allowed)

-- A namespace that has its pools and its quotas to itself may use no other pools.
abbrev pub ApartUsesItsPools : Type 0
ApartUsesItsPools = (w : World) (ns : Name) (pools quotas : List Name) (t : Tenant) (pool : Name) →
    IsTrue (is_apart w ns pools quotas) → get w.tenants ns ≡ Some t → IsTrue (permits t.namespace pool) →
    Contains pools pool

-- No other namespace may use a pool that a namespace has to itself.
abbrev pub ApartPoolsAreItsOwn : Type 0
ApartPoolsAreItsOwn = (w : World) (ns other : Name) (pools quotas : List Name) (o : Tenant) (pool : Name) →
    IsTrue (is_apart w ns pools quotas) → get w.tenants other ≡ Some o → other ≢ ns → Contains pools pool →
    IsFalse (permits o.namespace pool)

-- If a namespace that has its pools and its quotas to itself names a quota, it is one of these quotas.
abbrev pub ApartNamesItsQuotas : Type 0
ApartNamesItsQuotas = (w : World) (ns : Name) (pools quotas : List Name) (t : Tenant) (quota : Name) →
    IsTrue (is_apart w ns pools quotas) → get w.tenants ns ≡ Some t → t.namespace.quota ≡ Some quota →
    Contains quotas quota

-- No other namespace names a quota that a namespace has to itself.
abbrev pub ApartQuotasAreItsOwn : Type 0
ApartQuotasAreItsOwn = (w : World) (ns other : Name) (pools quotas : List Name) (o : Tenant) (quota : Name) →
    IsTrue (is_apart w ns pools quotas) → get w.tenants other ≡ Some o → other ≢ ns → Contains quotas quota →
    o.namespace.quota ≢ Some quota

-- The namespace has nothing left in another pool: its open evaluations, the snapshots that workers keep for it, and its
-- allocations whose client status is `pending` or `running` all name one of these pools.
pub record KeepsToPools (pools : List Name) (t : Tenant) : Type 0 where
  pub evaluation : (n : ℕ) (e : Evaluation) → get t.evaluations n ≡ Some e → IsTrue (is_open e.status) →
      Contains pools e.pool
  pub snapshot : (n : ℕ) (worker : Worker) (kept : Snapshot) → get t.workers n ≡ Some worker → worker.kept ≡ Some kept →
      Contains pools kept.pool
  pub allocation : (n : ℕ) (a : Allocation) → get t.allocations n ≡ Some a → IsTrue (is_held a.client) →
      Contains pools a.pool

abbrev pub ApartKeepsToItsPools : Type 0
ApartKeepsToItsPools = (w : World) (ns : Name) (pools quotas : List Name) (t : Tenant) →
    IsTrue (is_apart w ns pools quotas) → get w.tenants ns ≡ Some t → KeepsToPools pools t
