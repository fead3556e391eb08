-- Laws of the life of an allocation: how it comes, what it keeps, which steps end it, and when it is gone. Also: which
-- evaluations a step adds.
use Rattle.std.specs.Prelude.{◌≡◌, ◌⊎◌, ◌<◌, ℕ, Bool, true, false, Option, Some, None, Ok}
use Rattle.std.specs.FinMap.{get}
use Rattle.std.specs.List.{Contains}
use Rattle.std.specs.Option.{option_and_then}
use Rattle.ns_types.specs.declared.allocation.Allocation.{Allocation}
use Rattle.ns_types.specs.declared.allocation.ClientStatus.{ClientStatus}
use Rattle.ns_types.specs.declared.allocation.ClientStatus.TheVariants as ClientStatuses
use Rattle.ns_types.specs.declared.allocation.DesiredStatus.TheVariants as DesiredStatus
use Rattle.ns_types.specs.declared.evaluation.Evaluation.{Evaluation}
use Rattle.ns_types.specs.declared.evaluation.Status.TheVariants as Status
use Rattle.ns_types.specs.declared.evaluation.Trigger.{Trigger}
use Rattle.ns_types.specs.declared.job.Job.{Job}
use Rattle.ns_types.specs.declared.job.Registration.{Registration}
use Rattle.ns_types.specs.declared.node.Node.{Node}
use Rattle.ns_types.specs.declared.node.NodeStatus.TheVariants as NodeStatus
use Rattle.ns_types.specs.declared.plan.Eviction.{Eviction}
use Rattle.ns_types.specs.declared.plan.Placement.{Placement}
use Rattle.ns_types.specs.declared.reply.Reply.{Reply}
use Rattle.ns_types.specs.declared.snapshot.Snapshot.{Snapshot}
use Rattle.ns_types.specs.declared.step.AdminCommand.TheVariants as AdminCommand
use Rattle.ns_types.specs.declared.step.AskCommand.TheVariants as AskCommand
use Rattle.ns_types.specs.declared.step.NodeCommand.TheVariants as NodeCommand
use Rattle.ns_types.specs.declared.step.Step.{Step}
use Rattle.ns_types.specs.Placing.Plan.{plan}
use Rattle.ns_types.specs.State.Names.{Key, Name}
use Rattle.ns_types.specs.State.Rows.{State, World, Tenant, is_held, is_live, allocation_at, evaluation_at, node_at}
use Rattle.ns_types.specs.Steps.{Answer, said, after}
use Rattle.ns_types.specs.Validity.{IsLiveAt, IsValid}
use Rattle.ns_types.specs.Working.Commit.{node_name, group_name}
use Rattle.ns_types.specs.Working.Looks.{worker_at}
use Rattle.ns_types.specs.Working.Worker.{Worker}
use Rattle.ns_laws.specs.Effects.{IsOfAllocation}

-- ---- the steps that may change an allocation

-- a request in its namespace stops the allocation
abbrev pub IsStopRequest : Step → Key → Type 0
IsStopRequest step key = (secret : Option Name) × (step ≡ Step.Ask key.0 secret (AskCommand.StopAllocation key.1))

-- the client on the allocation's node reports this status of it
abbrev pub IsReportOf : Step → Key → Allocation → ClientStatus → Type 0
IsReportOf step key a client = (secret : Option Name) × (step ≡ Step.Node a.pool secret
    (NodeCommand.Report a.node (record { namespace = key.0; number = key.1; client = client })))

-- the allocation's node is set down
abbrev pub IsNodeDown : Step → Allocation → Type 0
IsNodeDown step a = (secret : Option Name) ×
    (step ≡ Step.Node a.pool secret (NodeCommand.SetStatus a.node NodeStatus.Down))

-- an administrator's request deletes the namespace
abbrev pub IsDeletionOf : Step → Name → Type 0
IsDeletionOf step ns = (secret : Option Name) × (step ≡ Step.Admin secret (AdminCommand.DeleteNamespace ns))

-- the job, if there is one, is stopped
abbrev pub HasEnded : Option Job → Type 0
HasEnded o = (job : Job) → o ≡ Some job → job.stop ≡ true

-- The job is as it was in the snapshot: it is to run, and was to run there with the same modify index; or it is gone or
-- stopped, and was gone or stopped there.
pub data IsUnchangedJob (planned present : Option Job) : Type 0 where
  runs : (old now : Job) → planned ≡ Some old → present ≡ Some now → old.stop ≡ false → now.stop ≡ false →
      old.modify_index ≡ now.modify_index → IsUnchangedJob planned present
  ended : HasEnded planned → HasEnded present → IsUnchangedJob planned present

-- the namespace's job with that id
abbrev pub job_at : World → Name → Name → Option Job
job_at w ns id = option_and_then (λ t. get t.jobs id) (get w.tenants ns)

-- a worker of the namespace applies the plan of the snapshot that it keeps, and the job is as it was in that snapshot
pub record AppliesPlan (w : World) (step : Step) (ns : Name) (kept : Snapshot) : Type 0 where
  pub number : ℕ
  pub is_apply : step ≡ Step.Apply number ns
  pub worker : Worker
  pub is_worker : worker_at w number ns ≡ Some worker
  pub is_kept : worker.kept ≡ Some kept
  pub is_current : IsUnchangedJob kept.job (job_at w ns kept.evaluation.job)

-- a plan of the allocation's own namespace is applied, and the allocation is one of its stops
pub record IsPlannedStop (w : World) (step : Step) (key : Key) : Type 0 where
  pub kept : Snapshot
  pub applies : AppliesPlan w step key.0 kept
  pub is_stop : Contains (plan kept).stops key.1

-- A plan of some namespace is applied, and one of its placements is on the allocation's node and evicts the
-- allocation, with the priority that the allocation has.
pub record IsPlannedEviction (w : World) (step : Step) (key : Key) (a : Allocation) : Type 0 where
  pub ns : Name
  pub kept : Snapshot
  pub applies : AppliesPlan w step ns kept
  pub placement : Placement
  pub is_planned : Contains (plan kept).placing.placements placement
  pub pool : a.pool ≡ kept.pool
  pub node : a.node ≡ node_name kept placement.node
  pub eviction : Eviction
  pub is_evicted : Contains placement.evictions eviction
  pub namespace : eviction.namespace ≡ key.0
  pub number : eviction.number ≡ key.1
  pub priority : eviction.priority ≡ a.priority

-- ---- how an allocation ends

-- the client's part of the allocation has completed or failed
abbrev pub HasStopped : ClientStatus → Type 0
HasStopped client = (client ≡ ClientStatuses.Complete) ⊎ (client ≡ ClientStatuses.Failed)

-- how the live allocation a becomes b, which is not live
pub data Ends (w : World) (step : Step) (key : Key) (a b : Allocation) : Type 0 where
  requested : IsStopRequest step key → b.desired ≡ DesiredStatus.Stop → b.client ≡ a.client → Ends w step key a b
  planned : IsPlannedStop w step key → b.desired ≡ DesiredStatus.Stop → b.client ≡ a.client → Ends w step key a b
  evicted : IsPlannedEviction w step key a → b.desired ≡ DesiredStatus.Evict → b.client ≡ a.client →
      Ends w step key a b
  reported : IsReportOf step key a b.client → b.desired ≡ a.desired → HasStopped b.client → Ends w step key a b
  lost : IsNodeDown step a → b.desired ≡ a.desired → b.client ≡ ClientStatuses.Lost → Ends w step key a b

-- From a valid state, a live allocation is still there after any step. If it is not live any more, the step is one of
-- five: a request in its namespace to stop it; an Apply of a plan of its namespace that stops it; an Apply of a plan
-- that evicts it; a report by the client on its node that it has completed or failed; or its node is set down. A plan
-- ends it only while the job that the plan is for is as it was in the plan's snapshot.
abbrev pub EndsOnlySo : Type 0
EndsOnlySo = (s s' : State) (step : Step) (answer : Answer) (key : Key) (a : Allocation) → IsValid s →
    after step s ≡ said answer s' → IsLiveAt s.world key a →
    (b : Allocation) × (allocation_at s'.world key ≡ Some b) × ((is_live b ≡ true) ⊎ Ends s.world step key a b)

-- what may become of the client status of an allocation that is not live: it stays, or the client reports a new one
pub data LateClient (step : Step) (key : Key) (a b : Allocation) : Type 0 where
  quiet : b.client ≡ a.client → LateClient step key a b
  reports_late : is_held a.client ≡ true → IsReportOf step key a b.client → LateClient step key a b

-- From a valid state, no step makes an allocation live again once it is not, and its desired status stays what it is.
-- Its client status changes only by a report of the client on its node, and only while it is `pending` or `running`.
abbrev pub EndedStaysEnded : Type 0
EndedStaysEnded = (s s' : State) (step : Step) (answer : Answer) (key : Key) (a b : Allocation) → IsValid s →
    after step s ≡ said answer s' → allocation_at s.world key ≡ Some a → is_live a ≡ false →
    allocation_at s'.world key ≡ Some b →
    (is_live b ≡ false) × (b.desired ≡ a.desired) × LateClient step key a b

-- ---- what an allocation keeps

-- all is the same but the two statuses and the modify index
pub record IsSameAllocation (a b : Allocation) : Type 0 where
  pub job : b.job ≡ a.job
  pub group : b.group ≡ a.group
  pub evaluation : b.evaluation ≡ a.evaluation
  pub pool : b.pool ≡ a.pool
  pub node : b.node ≡ a.node
  pub place : b.place ≡ a.place
  pub size : b.size ≡ a.size
  pub priority : b.priority ≡ a.priority
  pub job_modify_index : b.job_modify_index ≡ a.job_modify_index
  pub create_index : b.create_index ≡ a.create_index

-- From a valid state, an allocation keeps in any step its job, group and evaluation, its pool, node and place, its
-- size and priority, the version of its job, and its create index.
abbrev pub AllocationIsFixed : Type 0
AllocationIsFixed = (s s' : State) (step : Step) (answer : Answer) (key : Key) (a b : Allocation) → IsValid s →
    after step s ≡ said answer s' → allocation_at s.world key ≡ Some a →
    allocation_at s'.world key ≡ Some b → IsSameAllocation a b

-- ---- how an allocation comes

-- A plan of its namespace is applied, and it is one of the plan's placements: of the evaluation's job, on the
-- placement's node, with the placement's size. Its number is above all that the namespace has given to allocations.
pub record IsPlacedBy (w : World) (step : Step) (key : Key) (b : Allocation) : Type 0 where
  pub before : Tenant
  pub was_there : get w.tenants key.0 ≡ Some before
  pub is_new : before.allocation_number < key.1
  pub kept : Snapshot
  pub applies : AppliesPlan w step key.0 kept
  pub placement : Placement
  pub is_planned : Contains (plan kept).placing.placements placement
  pub planned : Job
  pub is_in_snapshot : kept.job ≡ Some planned
  pub is_of_job : b.job ≡ kept.evaluation.job
  pub group : b.group ≡ group_name planned placement.group
  pub evaluation : b.evaluation ≡ kept.number
  pub pool : b.pool ≡ kept.pool
  pub node : b.node ≡ node_name kept placement.node
  pub size : b.size ≡ placement.size
  pub priority : b.priority ≡ planned.document.priority
  pub is_to_run : b.desired ≡ DesiredStatus.Run
  pub is_pending : b.client ≡ ClientStatuses.Pending
  -- the job is there, it is not stopped, and the allocation is of its present version
  pub job : Job
  pub is_job : get before.jobs b.job ≡ Some job
  pub is_not_stopped : job.stop ≡ false
  pub version : b.job_modify_index ≡ job.modify_index
  -- the node is there, ready and eligible
  pub row : Node
  pub is_row : node_at w b.pool b.node ≡ Some row
  pub is_ready : row.status ≡ NodeStatus.Ready
  pub is_eligible : row.eligible ≡ true

-- From a valid state, a new allocation comes only by an Apply of a plan of its own namespace that places it. It is to
-- run, and its client status is `pending`. Its job is there, is not stopped and has not changed since the plan's
-- snapshot, and its node is there, ready and eligible.
abbrev pub ComesOnlyByPlan : Type 0
ComesOnlyByPlan = (s s' : State) (step : Step) (answer : Answer) (key : Key) (b : Allocation) → IsValid s →
    after step s ≡ said answer s' → allocation_at s.world key ≡ None → allocation_at s'.world key ≡ Some b →
    IsPlacedBy s.world step key b

-- ---- the jobs that lose an allocation

-- A new evaluation of the allocation's job is pending in that namespace, and this is why it was made. It has the type, the
-- priority and the pool of the job. If the job is gone, it has the type `service`, the allocation's pool, and the priority of
-- an allocation of the job that was live in that pool.
pub record IsEvaluatedAnew (ns : Name) (a : Allocation) (trigger : Trigger) (s s' : State) : Type 0 where
  pub before : Tenant
  pub now : Tenant
  pub was_there : get s.world.tenants ns ≡ Some before
  pub is_there : get s'.world.tenants ns ≡ Some now
  pub number : ℕ
  pub is_new : before.evaluation_number < number
  pub row : Evaluation
  pub is_row : get now.evaluations number ≡ Some row
  pub is_of_job : row.job ≡ a.job
  pub is_pending : row.status ≡ Status.Pending
  pub is_why : row.trigger ≡ trigger
  pub origin_number : ℕ
  pub origin : Allocation
  pub was_live : IsLiveAt s.world (ns, origin_number) origin
  pub same_job : origin.job ≡ a.job
  pub same_pool : origin.pool ≡ a.pool
  pub is_of : IsOfAllocation (get before.jobs a.job) origin row

-- Once a node is set down, each job that had a live allocation there, of whichever namespace, has a new evaluation,
-- which is pending in the job's namespace. It has the type, the priority and the pool of the job. If the job is gone,
-- it has the type `service`, the pool of the lost allocation, and the priority of an allocation of the job that was
-- live in that pool.
abbrev pub LostIsEvaluated : Type 0
LostIsEvaluated = (pool : Name) (secret : Option Name) (node : Name) (s s' : State) (reply : Reply) (key : Key)
    (a : Allocation) →
    after (Step.Node pool secret (NodeCommand.SetStatus node NodeStatus.Down)) s ≡ said (Ok reply) s' →
    IsLiveAt s.world key a → a.pool ≡ pool → a.node ≡ node → IsEvaluatedAnew key.0 a Trigger.NodeUpdate s s'

-- From a valid state, once a plan is applied, each job that had an allocation evicted by it, of whichever namespace,
-- has a new evaluation, which is pending in the job's namespace. It has the type, the priority and the pool of the job.
-- If the job is gone, it has the type `service`, the pool of the evicted allocation, and the priority of an allocation
-- of the job that was live in that pool.
abbrev pub EvictedIsEvaluated : Type 0
EvictedIsEvaluated = (number : ℕ) (ns : Name) (s s' : State) (reply : Reply) (key : Key) (a b : Allocation) →
    IsValid s → after (Step.Apply number ns) s ≡ said (Ok reply) s' → IsLiveAt s.world key a →
    allocation_at s'.world key ≡ Some b → b.desired ≡ DesiredStatus.Evict →
    IsEvaluatedAnew key.0 a Trigger.Preemption s s'

-- ---- the evaluations that a step adds

-- no evaluation had the key before the step, and this one has it after it
abbrev pub IsAdded : World → World → Key → Evaluation → Type 0
IsAdded w x key e = (evaluation_at w key ≡ None) × (evaluation_at x key ≡ Some e)

-- From a valid state, a step adds at most one evaluation of a job of a namespace, however many allocations the job
-- loses.
abbrev pub OneIsAdded : Type 0
OneIsAdded = (s s' : State) (step : Step) (answer : Answer) (ns : Name) (m n : ℕ) (d e : Evaluation) → IsValid s →
    after step s ≡ said answer s' → IsAdded s.world s'.world (ns, m) d → IsAdded s.world s'.world (ns, n) e →
    d.job ≡ e.job → m ≡ n

-- the triggers of evaluations for jobs that lose an allocation
abbrev pub is_for_loss : Trigger → Bool
is_for_loss Trigger.NodeUpdate = true
is_for_loss Trigger.AllocStop = true
is_for_loss Trigger.AllocFailure = true
is_for_loss Trigger.Preemption = true
is_for_loss _ = false

-- an allocation of the job was live before the step, and is not live after it
pub record HasLost (w x : World) (ns job : Name) : Type 0 where
  pub number : ℕ
  pub before : Allocation
  pub was_live : IsLiveAt w (ns, number) before
  pub of_job : before.job ≡ job
  pub later : Allocation
  pub is_there : allocation_at x (ns, number) ≡ Some later
  pub has_ended : is_live later ≡ false

-- Why the evaluation e is added: its job is registered or deregistered; a worker finishes an evaluation of its job, and
-- it is the follower; or its job loses an allocation.
pub data AddedFor (w x : World) (step : Step) (ns : Name) (e : Evaluation) : Type 0 where
  registers : (secret : Option Name) (r : Registration) → step ≡ Step.Ask ns secret (AskCommand.Register r) →
      e.job ≡ r.id → e.trigger ≡ Trigger.JobRegister → AddedFor w x step ns e
  deregisters : (secret : Option Name) (id : Name) (purge : Bool) →
      step ≡ Step.Ask ns secret (AskCommand.Deregister id purge) → e.job ≡ id → e.trigger ≡ Trigger.JobDeregister →
      AddedFor w x step ns e
  follows : (number : ℕ) (worker : Worker) (a : Evaluation) → step ≡ Step.Finish number ns →
      worker_at w number ns ≡ Some worker → evaluation_at w (ns, worker.evaluation) ≡ Some a → e.job ≡ a.job →
      e.previous ≡ Some worker.evaluation → AddedFor w x step ns e
  for_loss : is_for_loss e.trigger ≡ true → HasLost w x ns e.job → AddedFor w x step ns e

-- From a valid state, a step adds an evaluation only of a job that the step registers or deregisters, of one of which a
-- worker finishes an evaluation, as its follower, or of one that had a live allocation before the step which is not
-- live after it. So a step of a node, or an Apply, adds none of a job that loses no allocation.
abbrev pub AddedOnlySo : Type 0
AddedOnlySo = (s s' : State) (step : Step) (answer : Answer) (ns : Name) (n : ℕ) (e : Evaluation) → IsValid s →
    after step s ≡ said answer s' → IsAdded s.world s'.world (ns, n) e → AddedFor s.world s'.world step ns e

-- ---- when an allocation is gone

-- From a valid state, an allocation is gone only once it is not live, and only with its namespace, which is deleted.
abbrev pub GoneWithNamespace : Type 0
GoneWithNamespace = (s s' : State) (step : Step) (answer : Answer) (key : Key) (a : Allocation) → IsValid s →
    after step s ≡ said answer s' → allocation_at s.world key ≡ Some a → allocation_at s'.world key ≡ None →
    (is_live a ≡ false) × IsDeletionOf step key.0
