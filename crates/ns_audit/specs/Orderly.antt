-- What isolation rests on, of all that holds of a valid state: rows name pools that their namespace may use and its own
-- quota, and evaluations that a worker has or that a list names are open.
use Rattle.std.specs.Prelude.{◌≡◌, ◌≢◌, ℕ, ◌≤◌, true, false, Option, Some, option_map}
use Rattle.std.specs.FinMap.{get}
use Rattle.ns_types.specs.declared.allocation.Allocation.{Allocation}
use Rattle.ns_types.specs.declared.evaluation.Evaluation.{Evaluation}
use Rattle.ns_types.specs.declared.evaluation.Status.TheVariants as Status
use Rattle.ns_types.specs.declared.job.Job.{Job}
use Rattle.ns_types.specs.declared.records.Namespace.{Namespace}
use Rattle.ns_types.specs.declared.snapshot.Snapshot.{Snapshot}
use Rattle.ns_types.specs.Working.Worker.{Worker}
use Rattle.ns_types.specs.State.Names.{Name, has_key}
use Rattle.ns_types.specs.State.Rows.{State, World, Tenant, is_open, is_live}
use Rattle.ns_types.specs.Access.Sharing.{permits}
use Rattle.ns_types.specs.Steps.{is_past_bound}

-- a pool that the namespace may use, and its own quota if there is one
pub record IsAllowedTo (namespace : Namespace) (pool : Name) (quota : Option Name) : Type 0 where
  pub permitted : permits namespace pool ≡ true
  pub its_quota : (q : Name) → quota ≡ Some q → namespace.quota ≡ Some q

-- a kept snapshot is of its namespace
pub record IsKeptBy (ns : Name) (t : Tenant) (kept : Snapshot) : Type 0 where
  pub namespace : kept.namespace ≡ ns
  pub allowed : IsAllowedTo t.namespace kept.pool (option_map (λ q. q.name) kept.quota)

-- the evaluation with the number n exists and is pending
pub record IsPendingIn (t : Tenant) (n : ℕ) : Type 0 where
  pub row : Evaluation
  pub is_row : get t.evaluations n ≡ Some row
  pub is_pending : row.status ≡ Status.Pending

pub record IsOrderlyTenant (ns : Name) (t : Tenant) : Type 0 where
  pub job : (id : Name) (j : Job) → get t.jobs id ≡ Some j → permits t.namespace j.document.pool ≡ true
  pub evaluation : (n : ℕ) (e : Evaluation) → get t.evaluations n ≡ Some e → is_open e.status ≡ true →
      IsAllowedTo t.namespace e.pool e.quota
  pub allocation : (n : ℕ) (a : Allocation) → get t.allocations n ≡ Some a → is_live a ≡ true →
      permits t.namespace a.pool ≡ true
  pub snapshot : (n : ℕ) (worker : Worker) (kept : Snapshot) → get t.workers n ≡ Some worker → worker.kept ≡ Some kept →
      IsKeptBy ns t kept
  pub held : (n : ℕ) (worker : Worker) → get t.workers n ≡ Some worker → IsPendingIn t worker.evaluation
  -- no two workers have the same evaluation
  pub one_each : (m n : ℕ) (v x : Worker) → get t.workers m ≡ Some v → get t.workers n ≡ Some x →
      v.evaluation ≡ x.evaluation → m ≡ n
  pub numbers : (n : ℕ) (e : Evaluation) → get t.evaluations n ≡ Some e → n ≤ t.evaluation_number

-- an evaluation in `ready` is pending, and no worker has it
pub record IsReadyIn (t : Tenant) (n : ℕ) : Type 0 where
  pub pending : IsPendingIn t n
  pub free : (m : ℕ) (worker : Worker) → get t.workers m ≡ Some worker → worker.evaluation ≢ n

-- an evaluation in `blocked` has the status `Blocked`
pub record IsBlockedIn (t : Tenant) (n : ℕ) : Type 0 where
  pub row : Evaluation
  pub is_row : get t.evaluations n ≡ Some row
  pub is_blocked : row.status ≡ Status.Blocked

-- an entry of a list names a namespace that exists, and its evaluation is in the condition P there
pub record IsListed (w : World) (P : Tenant → ℕ → Type 0) (ns : Name) (n : ℕ) : Type 0 where
  pub tenant : Tenant
  pub is_tenant : get w.tenants ns ≡ Some tenant
  pub entry : P tenant n

pub record IsOrderly (w : World) : Type 0 where
  pub tenant : (ns : Name) (t : Tenant) → get w.tenants ns ≡ Some t → IsOrderlyTenant ns t
  pub ready : (ns : Name) (n : ℕ) → has_key w.ready (ns, n) ≡ true → IsListed w IsReadyIn ns n
  pub blocked : (ns : Name) (n : ℕ) → has_key w.blocked (ns, n) ≡ true → IsListed w IsBlockedIn ns n

-- orderly, and no counter has passed its bound
pub record IsSteady (s : State) : Type 0 where
  pub orderly : IsOrderly s.world
  pub within : is_past_bound s.world ≡ false
