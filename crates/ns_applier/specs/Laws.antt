-- The state after an Apply of a plan that stands, row by row. Here t is the snapshot's namespace, as the state has it.
use Rattle.std.specs.Prelude.{◌≡◌, ℕ, ◌+◌, true, if◌then◌else◌, false, List, ◌++◌, Some, is_some, length, option_map}
use Rattle.std.specs.Prelude.{slice_get, take}
use Rattle.std.specs.FinMap.{get}
use Rattle.ns_types.specs.declared.allocation.Allocation.{Allocation}
use Rattle.ns_types.specs.declared.evaluation.Evaluation.{Evaluation}
use Rattle.ns_types.specs.declared.evaluation.Status.TheVariants as Status
use Rattle.ns_types.specs.declared.evaluation.Trigger.{Trigger}
use Rattle.ns_types.specs.declared.evaluation.Trigger.TheVariants as triggers
use Rattle.ns_types.specs.declared.job.Job.{Job}
use Rattle.ns_types.specs.declared.node.Node.{Node}
use Rattle.ns_types.specs.declared.plan.Eviction.{Eviction}
use Rattle.ns_types.specs.declared.plan.Placement.{Placement}
use Rattle.ns_types.specs.declared.plan.Plan.{Plan}
use Rattle.ns_types.specs.declared.snapshot.Snapshot.{Snapshot}
use Rattle.ns_types.specs.Placing.Plan.{plan}
use Rattle.ns_types.specs.Settling.Making.{evaluation_for}
use Rattle.ns_types.specs.State.Names.{Key, Name, has_key, has_number, same_key, same_name}
use Rattle.ns_types.specs.State.Rows.{Tenant, World, allocation_at, evaluation_at, node_at}
use Rattle.ns_types.specs.State.Tables.{map_rows}
use Rattle.ns_types.specs.Working.Commit.{Applied, Victim, applied_worker, counts, done, least_of_job, new_allocation, node_name, victim_key}
use Rattle.ns_types.specs.Working.Work.{with_worker, without_key}
use Rattle.ns_types.specs.Working.Worker.{Worker}
use Rattle.ns_applier.specs.HeadroomApplying.{places_on}
use Rattle.ns_applier.specs.Raising.{with_places}
use Rattle.ns_types.specs.Working.Parts.{lives_at}
use Rattle.ns_applier.specs.Releasing.{ends_at}
use Rattle.ns_applier.specs.Parts.{IsForJob, IsNew, IsOutside, applied_world, counted_rows, ended, evicted, left_row, losers_in, placed}
use Rattle.ns_applier.specs.Parts.{placed_in, standing, stops, victims}

-- ---- plans

-- the plan of a snapshot without a job places nothing
abbrev pub PlanIsForJob : Type 0
PlanIsForJob = (kept : Snapshot) → IsForJob kept (plan kept)

-- ---- namespaces

-- the namespaces stay, and each keeps its record, index, jobs, workers and events
abbrev pub NamespacesStay : Type 0
NamespacesStay = (kept : Snapshot) (p : Plan) (w : World) (t : Tenant) (ns : Name) →
    option_map standing (get (done kept p w t).world.tenants ns) ≡ option_map standing (get w.tenants ns)

-- each placement takes one number for an allocation, and each job of the namespace that loses one takes a number for an
-- evaluation
abbrev pub NumbersGoOn : Type 0
NumbersGoOn = (kept : Snapshot) (p : Plan) (w : World) (t : Tenant) → IsForJob kept p →
    (ns : Name) (u v : Tenant) → get w.tenants ns ≡ Some u → get (done kept p w t).world.tenants ns ≡ Some v →
    (v.allocation_number ≡ u.allocation_number + placed_in kept p w t ns)
    × (v.evaluation_number ≡ u.evaluation_number + length (losers_in kept p w t ns))

-- ---- allocations

-- an allocation that was there is stopped or evicted, or stays as it was
abbrev pub AllocationsStay : Type 0
AllocationsStay = (kept : Snapshot) (p : Plan) (w : World) (t : Tenant) → IsForJob kept p →
    (ns : Name) (u : Tenant) → get w.tenants ns ≡ Some u →
    (n : ℕ) → IsOutside u.allocation_number (placed_in kept p w t ns) n →
    allocation_at (done kept p w t).world (ns, n)
    ≡ option_map (left_row (stops kept p w t) (victims kept p w t) (ns, n)) (allocation_at w (ns, n))

-- each placement makes a new allocation, in the order of the plan, with the next place of its node
abbrev pub AllocationsMade : Type 0
AllocationsMade = (kept : Snapshot) (p : Plan) (w : World) (t : Tenant) → get w.tenants kept.namespace ≡ Some t →
    (job : Job) → kept.job ≡ Some job → (i : ℕ) (q : Placement) → slice_get (placed kept p w t) i ≡ Some q →
    (node : Node) → node_at w kept.pool (node_name kept q.node) ≡ Some node →
    allocation_at (done kept p w t).world (kept.namespace, t.allocation_number + (i + 1))
    ≡ Some (new_allocation kept job q
    (with_places (places_on kept (take i (placed kept p w t)) kept.pool (node_name kept q.node)) node))

-- ---- allocations that end

-- the stops and the victims were live
abbrev pub EndedWereLive : Type 0
EndedWereLive = (kept : Snapshot) (p : Plan) (w : World) (t : Tenant) → get w.tenants kept.namespace ≡ Some t →
    (key : Key) → has_key (ended kept p w t) key ≡ true → lives_at w key ≡ true

-- of the allocations that were there, the stops and the victims end, and no other
abbrev pub AllocationsEnd : Type 0
AllocationsEnd = (kept : Snapshot) (p : Plan) (w : World) (t : Tenant) → get w.tenants kept.namespace ≡ Some t →
    IsForJob kept p → (ns : Name) (u : Tenant) → get w.tenants ns ≡ Some u →
    (n : ℕ) → IsOutside u.allocation_number (placed_in kept p w t ns) n →
    has_key (ended kept p w t) (ns, n) ≡ ends_at w (done kept p w t).world (ns, n)

-- no allocation is both stopped and evicted
abbrev pub NoVictimIsStopped : Type 0
NoVictimIsStopped = (kept : Snapshot) (p : Plan) (w : World) (t : Tenant) (key : Key) →
    has_key (victims kept p w t) key ≡ true → has_key (stops kept p w t) key ≡ false

-- evictions that count on nodes of different names are of different allocations
abbrev pub VictimsApart : Type 0
VictimsApart = (w : World) (pool a b : Name) (e f : Eviction) → same_name a b ≡ false →
    counts w pool a e ≡ true → counts w pool b f ≡ true → same_key (victim_key e) (victim_key f) ≡ false

-- ---- evaluations

-- an evaluation that was there stays as it was
abbrev pub EvaluationsStay : Type 0
EvaluationsStay = (kept : Snapshot) (p : Plan) (w : World) (t : Tenant) (ns : Name) (u : Tenant) →
    get w.tenants ns ≡ Some u → (n : ℕ) → IsOutside u.evaluation_number (length (losers_in kept p w t ns)) n →
    evaluation_at (done kept p w t).world (ns, n) ≡ evaluation_at w (ns, n)

-- each job that loses an allocation gets a new evaluation, in the order of the plan
abbrev pub EvaluationsMade : Type 0
EvaluationsMade = (kept : Snapshot) (p : Plan) (w : World) (t : Tenant) (ns : Name) (u : Tenant) →
    get w.tenants ns ≡ Some u → (i : ℕ) (v : Victim) → slice_get (losers_in kept p w t ns) i ≡ Some v →
    evaluation_at (done kept p w t).world (ns, u.evaluation_number + (i + 1))
    ≡ Some (evaluation_for u (least_of_job (evicted kept p w t) v) triggers.Preemption)

-- such an evaluation is pending, and has no index yet
abbrev pub MadeIsPending : Type 0
MadeIsPending = (t : Tenant) (a : Allocation) (trigger : Trigger) → let e = evaluation_for t a trigger in
    (e.status ≡ Status.Pending) × (e.create_index ≡ 0) × (e.modify_index ≡ 0)

-- ---- pools and lists

-- the committed nodes exist
abbrev pub CommittedAreThere : Type 0
CommittedAreThere = (kept : Snapshot) (p : Plan) (w : World) (t : Tenant) (k : ℕ) →
    has_number (done kept p w t).checked.committed k ≡ true → is_some (node_at w kept.pool (node_name kept k)) ≡ true

-- each node has counted the placements on it, and nothing else of a pool is changed
abbrev pub PlacesCounted : Type 0
PlacesCounted = (kept : Snapshot) (p : Plan) (w : World) (t : Tenant) → IsForJob kept p →
    (done kept p w t).world.pools ≡ map_rows (counted_rows kept (placed kept p w t)) w.pools

-- the quotas and the lists stay, except that new evaluations may follow the others in the ready list
pub record IsRestKept (count : Name → ℕ) (w x : World) : Type 0 where
  pub quotas : x.quotas ≡ w.quotas
  pub plans : x.plans ≡ w.plans
  pub blocked : x.blocked ≡ w.blocked
  pub more : List Key
  pub ready : x.ready ≡ w.ready ++ more
  pub new : (key : Key) → has_key more key ≡ true → IsNew (count key.0) (get w.tenants key.0) key.1

abbrev pub RestStays : Type 0
RestStays = (kept : Snapshot) (p : Plan) (w : World) (t : Tenant) →
    IsRestKept (λ ns. length (losers_in kept p w t ns)) w (done kept p w t).world

-- ---- the worker

-- x is y, except that it has another row of the worker, and the worker's plan is out of the list
pub record IsMarked (number : ℕ) (ns : Name) (worker row : Worker) (y x : World) : Type 0 where
  pub tenants : (q : Name) →
      get x.tenants q ≡ option_map (λ u. if same_name q ns then with_worker number row u else u) (get y.tenants q)
  pub pools : x.pools ≡ y.pools
  pub quotas : x.quotas ≡ y.quotas
  pub ready : x.ready ≡ y.ready
  pub plans : x.plans ≡ without_key (ns, worker.evaluation) y.plans
  pub blocked : x.blocked ≡ y.blocked

-- at its end the step writes the worker's row, and takes its plan out of the list
abbrev pub AppliedIsMarked : Type 0
AppliedIsMarked = (number : ℕ) (ns : Name) (worker : Worker) (e : Evaluation) (a : Applied) →
    IsMarked number ns worker (applied_worker a worker e) a.world (applied_world number ns worker e a)
