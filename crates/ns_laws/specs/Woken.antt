-- Laws of blocked evaluations that wake: each had a reason, and is pending afterwards.
use Rattle.std.specs.Prelude.{◌≡◌, ◌≢◌, ◌⊎◌, ℕ, Some, None, Ok, IsTrue, IsFalse}
use Rattle.std.specs.FinMap.{get}
use Rattle.ns_types.specs.declared.allocation.Allocation.{Allocation}
use Rattle.ns_types.specs.declared.evaluation.Evaluation.{Evaluation}
use Rattle.ns_types.specs.declared.evaluation.Status.{Status}
use Rattle.ns_types.specs.declared.node.Node.{Node}
use Rattle.ns_types.specs.declared.reply.Reply.{Reply}
use Rattle.ns_types.specs.declared.step.Step.{Step}
use Rattle.ns_types.specs.State.Names.{Key, Name, has_key}
use Rattle.ns_types.specs.State.Resources.{limits_in}
use Rattle.ns_types.specs.State.Rows.{State, World, Tenant, QuotaRows, class_of, evaluation_at, is_live, node_at}
use Rattle.ns_types.specs.Steps.{after, said}
use Rattle.ns_types.specs.Validity.{IsLiveAt}
use Rattle.ns_types.specs.Working.Worker.{Worker}
use Rattle.ns_laws.specs.Waking.{IsOpen, MayUse, StillLives}

-- An evaluation wakes in a step: the step is made, and the evaluation is in the list of blocked ones before it and not
-- after it. A worker's `Finish` is left out: it takes an evaluation from that list to cancel it.
pub record Wakes (step : Step) (s t : State) (key : Key) : Type 0 where
  pub reply : Reply
  pub made : after step s ≡ said (Ok reply) t
  pub other : (worker : ℕ) (ns : Name) → step ≢ Step.Finish worker ns
  pub was : IsTrue (has_key s.world.blocked key)
  pub leaves : IsFalse (has_key t.world.blocked key)

-- ---- why it wakes

-- the node got room in the step: it is new, it was not ready and eligible before, its offer is another one, or a live
-- allocation on it ended
pub data GotRoom (w x : World) (pool name : Name) (row : Node) : Type 0 where
  is_new : node_at w pool name ≡ None → GotRoom w x pool name row
  opened : (old : Node) → node_at w pool name ≡ Some old → (IsOpen old → ⊥) → GotRoom w x pool name row
  offers : (old : Node) → node_at w pool name ≡ Some old → old.offer ≢ row.offer → GotRoom w x pool name row
  freed : (key : Key) (a : Allocation) → IsLiveAt w key a → a.pool ≡ pool → a.node ≡ name → (StillLives x key → ⊥) →
      GotRoom w x pool name row

-- a node of the evaluation's pool got room, and it is ready and eligible, and of a class that the evaluation may use
pub record HasRoom (w x : World) (e : Evaluation) : Type 0 where
  pub name : Name
  pub row : Node
  pub there : node_at x e.pool name ≡ Some row
  pub opens : IsOpen row
  pub usable : MayUse e (class_of row)
  pub got : GotRoom w x e.pool name row

-- the quota got room in the step: its limits are others, or a live allocation of a namespace that named it ended
pub data GotQuota (w x : World) (quota : Name) : Type 0 where
  limits : (old new : QuotaRows) → get w.quotas quota ≡ Some old → get x.quotas quota ≡ Some new →
      limits_in old.quota.limits ≢ limits_in new.quota.limits → GotQuota w x quota
  freed : (ns : Name) (t : Tenant) (n : ℕ) (a : Allocation) → get w.tenants ns ≡ Some t →
      t.namespace.quota ≡ Some quota → get t.allocations n ≡ Some a → IsTrue (is_live a) →
      (StillLives x (ns, n) → ⊥) → GotQuota w x quota

-- An evaluation that no quota limits wakes only where a node of its pool got room in the step, of a class that it may
-- use.
abbrev pub WokenHadRoom : Type 0
WokenHadRoom = (step : Step) (s t : State) (key : Key) (e : Evaluation) → Wakes step s t key →
    evaluation_at s.world key ≡ Some e → e.quota ≡ None → HasRoom s.world t.world e

-- An evaluation that a quota limits wakes only where that quota got room in the step.
abbrev pub WokenHadQuota : Type 0
WokenHadQuota = (step : Step) (s t : State) (key : Key) (e : Evaluation) (quota : Name) → Wakes step s t key →
    evaluation_at s.world key ≡ Some e → e.quota ≡ Some quota → GotQuota s.world t.world quota

-- ---- what becomes of it

-- an evaluation of that job is in the list of ready ones, or a worker has it
pub data IsTaken (w : World) (ns job : Name) : Type 0 where
  by_ready : (n : ℕ) (e : Evaluation) → IsTrue (has_key w.ready (ns, n)) → evaluation_at w (ns, n) ≡ Some e →
      e.job ≡ job → IsTaken w ns job
  by_worker : (t : Tenant) (number : ℕ) (worker : Worker) (e : Evaluation) → get w.tenants ns ≡ Some t →
      get t.workers number ≡ Some worker → get t.evaluations worker.evaluation ≡ Some e → e.job ≡ job → IsTaken w ns job

-- An evaluation that wakes is pending after the step. It is ready, or it waits behind another evaluation of its job
-- that is ready or with a worker.
abbrev pub WokenIsPending : Type 0
WokenIsPending = (step : Step) (s t : State) (key : Key) (e : Evaluation) → Wakes step s t key →
    evaluation_at t.world key ≡ Some e →
    (e.status ≡ Status.Pending) × (IsTrue (has_key t.world.ready key) ⊎ IsTaken t.world key.0 e.job)
