-- Laws of workers: what each step of a worker changes, and what it leaves as it was.
use Rattle.std.specs.Prelude.{◌≡◌, ◌≢◌, ◌⊎◌, ℕ, ◌+◌, ◌-◌, ◌<◌, ◌≤◌, Bool, true, false, List, [], ◌∷◌, ◌++◌, Option, ◌↔◌}
use Rattle.std.specs.Prelude.{Some, None}
use Rattle.std.specs.FinMap.{get}
use Rattle.std.specs.List.{AllPairs, Contains}
use Rattle.std.specs.Option.{option_map_or, option_or}
use Rattle.ns_types.specs.declared.allocation.Allocation.{Allocation}
use Rattle.ns_types.specs.declared.evaluation.Evaluation.{Evaluation}
use Rattle.ns_types.specs.declared.evaluation.Status.{Status}
use Rattle.ns_types.specs.declared.evaluation.Trigger.{Trigger}
use Rattle.ns_types.specs.declared.job.Constraint.{Constraint}
use Rattle.ns_types.specs.declared.job.Job.{Job}
use Rattle.ns_types.specs.declared.job.JobKind.{JobKind}
use Rattle.ns_types.specs.declared.job.Target.{Target}
use Rattle.ns_types.specs.declared.node.Class.{Class}
use Rattle.ns_types.specs.declared.reply.Content.{Content}
use Rattle.ns_types.specs.declared.reply.Reply.{Reply}
use Rattle.ns_types.specs.declared.snapshot.LiveAllocation.{LiveAllocation}
use Rattle.ns_types.specs.declared.snapshot.OwnAllocation.{OwnAllocation}
use Rattle.ns_types.specs.declared.snapshot.PoolNode.{PoolNode}
use Rattle.ns_types.specs.declared.snapshot.QuotaSeen.{QuotaSeen}
use Rattle.ns_types.specs.declared.snapshot.Snapshot.{Snapshot}
use Rattle.ns_types.specs.declared.step.Step.{Step}
use Rattle.ns_types.specs.declared.worker.Phase.{Phase}
use Rattle.ns_types.specs.Placing.Plan.{plan, does_nothing, is_short}
use Rattle.ns_types.specs.State.Lists.{Each}
use Rattle.ns_types.specs.State.Names.{Key, Name, has_key}
use Rattle.ns_types.specs.State.Resources.{limits_in, total}
use Rattle.ns_types.specs.State.Rows.{State, World, Tenant, PoolRows, QuotaRows, allocation_at, is_done, is_live}
use Rattle.ns_types.specs.State.Rows.{class_of, is_live_on, is_unique, node_at}
use Rattle.ns_types.specs.Validity.{IsValid}
use Rattle.ns_types.specs.Working.Looks.{worker_at}
use Rattle.ns_types.specs.Working.Worker.{Worker}
use Rattle.ns_laws.specs.Effects.{IsMade}
use Rattle.ns_laws.specs.Ending.{IsUnchangedJob}
use Rattle.ns_laws.specs.Planning.{Meets}
use Rattle.ns_laws.specs.Queue.{IsFirstOfGreatest}
use Rattle.ns_laws.specs.Reads.{counted_in}
use Rattle.ns_laws.specs.Sublist.{IsSublist}
use Rattle.ns_laws.specs.Turns.{IsIdle}
use Rattle.ns_laws.specs.Waking.{MayUse}
use Rattle.ns_laws.specs.Woken.{IsTaken}

-- ---- where a worker's step changes something

-- The namespace has these rows before the step, and those after it. Each other namespace has exactly the rows that it
-- had, and access lists, pools and quotas are as they were.
pub record StaysIn (ns : Name) (s s' : State) (before now : Tenant) : Type 0 where
  pub was_there : get s.world.tenants ns ≡ Some before
  pub is_there : get s'.world.tenants ns ≡ Some now
  pub others : (other : Name) → other ≢ ns → get s'.world.tenants other ≡ get s.world.tenants other
  pub acl : s'.acl ≡ s.acl
  pub pools : s'.world.pools ≡ s.world.pools
  pub quotas : s'.world.quotas ≡ s.world.quotas

-- of the workers in the namespace, each but this one has the row that it had
abbrev pub KeepsOtherWorkers : ℕ → Tenant → Tenant → Type 0
KeepsOtherWorkers number before now =
    (other : ℕ) → other ≢ number → get now.workers other ≡ get before.workers other

-- In the namespace nothing changed but the row of this worker. The index is as it was, and there is no new event.
pub record ChangesWorker (number : ℕ) (before now : Tenant) : Type 0 where
  pub rest : now ≡ record before { workers = now.workers }
  pub other_workers : KeepsOtherWorkers number before now

-- the evaluation is not in the list any more, and the others that are there are those that were there, in their order
pub record IsTakenOut (key : Key) (was is : List Key) : Type 0 where
  pub gone : has_key is key ≡ false
  pub others : (other : Key) → other ≢ key → has_key is other ≡ has_key was other
  pub in_order : IsSublist is was

-- ---- Dequeue

-- an evaluation of a service job has five tries, and one of a batch job has two
abbrev pub HasTries : JobKind → ℕ → Type 0
HasTries JobKind.Service tries = tries ≡ 5
HasTries JobKind.Batch tries = tries ≡ 2

-- the worker has the evaluation with the number n, it has all the tries of the job's type, and it has no snapshot yet
pub record HasTaken (rows : Tenant) (number n : ℕ) : Type 0 where
  pub row : Evaluation
  pub is_row : get rows.evaluations n ≡ Some row
  pub worker : Worker
  pub is_worker : get rows.workers number ≡ Some worker
  pub evaluation : worker.evaluation ≡ n
  pub phase : worker.phase ≡ Phase.Took
  pub tries : HasTries row.kind worker.tries
  pub no_snapshot : worker.kept ≡ None

pub record IsDequeued (number : ℕ) (ns : Name) (n : ℕ) (reply : Reply) (s s' : State) : Type 0 where
  pub before : Tenant
  pub now : Tenant
  pub stays : StaysIn ns s s' before now
  pub replied : reply.content ≡ Content.Took n
  pub was_idle : IsIdle s.world number
  pub was_next : IsFirstOfGreatest s.world s.world.ready (ns, n)
  pub taken : HasTaken now number n
  pub only_worker : ChangesWorker number before now
  pub ready : IsTakenOut (ns, n) s.world.ready s'.world.ready
  pub plans : s'.world.plans ≡ s.world.plans
  pub blocked : s'.world.blocked ≡ s.world.blocked

-- Once an evaluation is dequeued, the worker, which was idle in every namespace, has it. The evaluation was the next
-- of those ready, and is not ready any more. It has five tries if its job is a service job, and two if it is a batch
-- job. Nothing else changes.
abbrev pub DequeuedIsTaken : Type 0
DequeuedIsTaken = (number : ℕ) (ns : Name) (n : ℕ) (s s' : State) (reply : Reply) →
    IsMade (Step.Dequeue number ns n) s reply s' → IsDequeued number ns n reply s s'

-- ---- Snap

-- the allocation is live, or it completed for the present version of a batch job
pub data Counts (job : Option Job) (a : Allocation) : Type 0 where
  lives : is_live a ≡ true → Counts job a
  completed : (row : Job) → job ≡ Some row → row.document.kind ≡ JobKind.Batch →
      a.job_modify_index ≡ row.modify_index → is_done a ≡ true → Counts job a

-- the allocation is there, it is the job's, and it counts
pub record IsOwn (rows : Tenant) (id : Name) (own : OwnAllocation) : Type 0 where
  pub is_row : get rows.allocations own.number ≡ Some own.row
  pub is_its : own.row.job ≡ id
  pub counts : Counts (get rows.jobs id) own.row

-- what the snapshot has of the job's own allocations are exactly those that are there and count
pub record SeesOwn (rows : Tenant) (id : Name) (seen : List OwnAllocation) : Type 0 where
  pub no_other : Each (IsOwn rows id) seen
  pub all : (own : OwnAllocation) → IsOwn rows id own → Contains seen own

-- the allocation, of whichever namespace, is there and live on the node
pub record IsLiveThere (w : World) (pool node : Name) (live : LiveAllocation) : Type 0 where
  pub row : Allocation
  pub is_row : allocation_at w (live.namespace, live.number) ≡ Some row
  pub lives : is_live_on pool node row ≡ true
  pub priority : live.priority ≡ row.priority
  pub size : live.size ≡ row.size

-- the allocation as a snapshot shows it
abbrev pub shown_live : Key → Allocation → LiveAllocation
shown_live key a = record { namespace = key.0; number = key.1; priority = a.priority; size = a.size }

-- of two allocations that are there, the first was placed before the second: its row has the lower place
abbrev pub IsPlacedBefore : World → LiveAllocation → LiveAllocation → Type 0
IsPlacedBefore w a b = (first second : Allocation) → allocation_at w (a.namespace, a.number) ≡ Some first →
    allocation_at w (b.namespace, b.number) ≡ Some second → first.place < second.place

-- the node is there with that row, and the allocations are exactly those that are live on it, in the order in which
-- they were placed
pub record IsNodeThere (w : World) (pool : Name) (node : PoolNode) : Type 0 where
  pub is_row : node_at w pool node.name ≡ Some node.row
  pub no_other : Each (IsLiveThere w pool node.name) node.live
  pub all : (key : Key) (a : Allocation) → allocation_at w key ≡ Some a → is_live_on pool node.name a ≡ true →
      Contains node.live (shown_live key a)
  pub in_order : AllPairs (IsPlacedBefore w) node.live

-- the nodes are exactly those of the pool
pub record SeesNodes (w : World) (pool : Name) (seen : List PoolNode) : Type 0 where
  pub no_other : Each (IsNodeThere w pool) seen
  pub all : (name : Name) → node_at w pool name ≢ None → (node : PoolNode) × Contains seen node × (node.name ≡ name)

-- the namespace is there, and its record names the quota
abbrev pub NamesQuota : World → Name → Name → Type 0
NamesQuota w quota ns = (t : Tenant) × (get w.tenants ns ≡ Some t) × (t.namespace.quota ≡ Some quota)

-- the quota's limits, its last release, what the live allocations of all namespaces that name it take together, and
-- the namespaces, which are exactly those that name it
pub record SeesQuota (w : World) (quota : Name) (seen : QuotaSeen) : Type 0 where
  pub name : seen.name ≡ quota
  pub row : QuotaRows
  pub is_row : get w.quotas quota ≡ Some row
  pub limits : seen.limits ≡ limits_in row.quota.limits
  pub release : seen.release ≡ row.release
  pub used : seen.used ≡ total (λ a. a.size) (counted_in w quota)
  pub no_other : Each (NamesQuota w quota) seen.namespaces
  pub all : (ns : Name) → NamesQuota w quota ns → Contains seen.namespaces ns

-- the pool of a job that is there is the job's, and that of an evaluation whose job is gone is the evaluation's
abbrev pub HasPool : Option Job → Evaluation → Name → Type 0
HasPool None e pool = pool ≡ e.pool
HasPool (Some job) e pool = pool ≡ job.document.pool

-- the snapshot is of that evaluation, and shows what is there
pub record IsTrueOf (w : World) (ns : Name) (rows : Tenant) (n : ℕ) (kept : Snapshot) : Type 0 where
  pub namespace : kept.namespace ≡ ns
  pub number : kept.number ≡ n
  pub evaluation : get rows.evaluations n ≡ Some kept.evaluation
  pub job : kept.job ≡ get rows.jobs kept.evaluation.job
  pub own : SeesOwn rows kept.evaluation.job kept.own
  pub pool : HasPool kept.job kept.evaluation kept.pool
  pub nodes : SeesNodes w kept.pool kept.nodes
  pub release : (pool : PoolRows) → get w.pools kept.pool ≡ Some pool → kept.release ≡ pool.release
  pub quota : (seen : QuotaSeen) → kept.quota ≡ Some seen →
      (quota : Name) × (rows.namespace.quota ≡ Some quota) × SeesQuota w quota seen
  pub quota_seen : (quota : Name) → rows.namespace.quota ≡ Some quota → get w.quotas quota ≢ None → kept.quota ≢ None

pub record IsSnapped (number : ℕ) (ns : Name) (reply : Reply) (s s' : State) : Type 0 where
  pub before : Tenant
  pub now : Tenant
  pub stays : StaysIn ns s s' before now
  pub old : Worker
  pub was_worker : get before.workers number ≡ Some old
  pub worker : Worker
  pub is_worker : get now.workers number ≡ Some worker
  pub evaluation : worker.evaluation ≡ old.evaluation
  pub tries : worker.tries ≡ old.tries
  pub phase : worker.phase ≡ Phase.Snapped
  -- it has taken none, or something of its last plan was dropped and it has a try left
  pub was_in : (old.phase ≡ Phase.Took) ⊎ ((old.phase ≡ Phase.Dropped) × (old.tries ≢ 0))
  pub kept : Snapshot
  pub is_kept : worker.kept ≡ Some kept
  pub is_true : IsTrueOf s.world ns before old.evaluation kept
  pub replied : reply.content ≡ Content.Snapped old.evaluation
  pub only_worker : ChangesWorker number before now
  pub ready : s'.world.ready ≡ s.world.ready
  pub plans : s'.world.plans ≡ s.world.plans
  pub blocked : s'.world.blocked ≡ s.world.blocked

-- In a valid state, once a worker has taken a snapshot, it keeps the snapshot, and the snapshot shows exactly what is
-- there: the evaluation, the job or none, the job's own allocations, the nodes of the pool with what is live on them,
-- the limits and the use of the quota, the namespaces that name it, and the last releases. The live allocations of a
-- node stand in the order in which they were placed. Nothing else changes.
abbrev pub SnapshotIsTrue : Type 0
SnapshotIsTrue = (number : ℕ) (ns : Name) (s s' : State) (reply : Reply) → IsValid s →
    IsMade (Step.Snap number ns) s reply s' → IsSnapped number ns reply s s'

-- ---- Submit

pub record IsSubmitted (number : ℕ) (ns : Name) (reply : Reply) (s s' : State) : Type 0 where
  pub before : Tenant
  pub now : Tenant
  pub stays : StaysIn ns s s' before now
  pub old : Worker
  pub was_worker : get before.workers number ≡ Some old
  pub was_in : old.phase ≡ Phase.Snapped
  pub kept : Snapshot
  pub was_kept : old.kept ≡ Some kept
  pub does_something : does_nothing (plan kept) ≡ false
  pub is_worker : get now.workers number ≡ Some (record old { phase = Phase.Submitted })
  pub replied : reply.content ≡ Content.Queued old.evaluation
  pub only_worker : ChangesWorker number before now
  pub plans : s'.world.plans ≡ s.world.plans ++ (ns, old.evaluation) ∷ []
  pub ready : s'.world.ready ≡ s.world.ready
  pub blocked : s'.world.blocked ≡ s.world.blocked

-- Once a worker has submitted its plan, the plan is the last of those that wait to be applied. It is the plan of the
-- snapshot that the worker took last and still keeps, and it stops or places something. Nothing else changes.
abbrev pub SubmittedWaitsLast : Type 0
SubmittedWaitsLast = (number : ℕ) (ns : Name) (s s' : State) (reply : Reply) →
    IsMade (Step.Submit number ns) s reply s' → IsSubmitted number ns reply s s'

-- ---- Apply

-- the plan of the snapshot still stands: the job is as it was in the snapshot
abbrev pub Stands : Snapshot → Tenant → Type 0
Stands kept rows = IsUnchangedJob kept.job (get rows.jobs kept.evaluation.job)

-- the plan still stands, and one of the allocations that it stops is live
pub record StopsLive (kept : Snapshot) (rows : Tenant) : Type 0 where
  pub stands : Stands kept rows
  pub number : ℕ
  pub is_stop : Contains (plan kept).stops number
  pub row : Allocation
  pub is_row : get rows.allocations number ≡ Some row
  pub live : is_live row ≡ true

-- an allocation was made, or a live one was stopped
abbrev pub HasCommitted : Snapshot → Tenant → List ℕ → Type 0
HasCommitted kept before made = (made ≢ []) ⊎ StopsLive kept before

-- the reply names a node whose placements are not done, or the plan no longer stands
abbrev pub HasDropped : Snapshot → Tenant → List Name → Type 0
HasDropped kept before dropped = (dropped ≢ []) ⊎ (Stands kept before → ⊥)

-- the phase says whether something was dropped
pub data PhaseSays (Dropped : Type 0) (phase : Phase) : Type 0 where
  some_dropped : Dropped → phase ≡ Phase.Dropped → PhaseSays Dropped phase
  none_dropped : (Dropped → ⊥) → phase ≡ Phase.Applied → PhaseSays Dropped phase

-- all tries of the job's type if something was committed; else one less if something was dropped; else as many as
-- before
pub data CountsTries (kind : JobKind) (Committed Dropped : Type 0) (was is : ℕ) : Type 0 where
  all_again : Committed → HasTries kind is → CountsTries kind Committed Dropped was is
  one_less : (Committed → ⊥) → Dropped → is ≡ was - 1 → CountsTries kind Committed Dropped was is
  as_many : (Committed → ⊥) → (Dropped → ⊥) → is ≡ was → CountsTries kind Committed Dropped was is

pub record IsApplied (number : ℕ) (ns : Name) (reply : Reply) (s s' : State) : Type 0 where
  pub before : Tenant
  pub was_there : get s.world.tenants ns ≡ Some before
  pub old : Worker
  pub was_worker : get before.workers number ≡ Some old
  pub was_in : old.phase ≡ Phase.Submitted
  pub kept : Snapshot
  pub was_kept : old.kept ≡ Some kept
  pub row : Evaluation
  pub is_row : get before.evaluations old.evaluation ≡ Some row
  -- the numbers of the allocations that were made, and the names of the nodes whose placements are not done
  pub made : List ℕ
  pub dropped : List Name
  pub replied : reply.content ≡ Content.Applied made dropped
  pub now : Tenant
  pub is_there : get s'.world.tenants ns ≡ Some now
  pub worker : Worker
  pub is_worker : get now.workers number ≡ Some worker
  pub same_evaluation : worker.evaluation ≡ old.evaluation
  pub same_snapshot : worker.kept ≡ old.kept
  pub phase : PhaseSays (HasDropped kept before dropped) worker.phase
  pub tries : CountsTries row.kind (HasCommitted kept before made) (HasDropped kept before dropped) old.tries
      worker.tries
  pub plans : IsTakenOut (ns, old.evaluation) s.world.plans s'.world.plans

-- Once a plan is applied, the worker whose plan it was has the same evaluation and keeps the same snapshot. Its plan
-- does not wait any more, and the others wait in their order. The worker's phase is Dropped if the reply names a node,
-- or if the plan no longer stood, as its job had changed since the snapshot; otherwise it is Applied. If an allocation
-- was made or a live one was stopped, the worker has all tries again: five for a service job, and two for a batch job.
-- If not, it has one try less if its phase is Dropped, and as many as before if it is Applied.
abbrev pub AppliedCountsTries : Type 0
AppliedCountsTries = (number : ℕ) (ns : Name) (s s' : State) (reply : Reply) →
    IsMade (Step.Apply number ns) s reply s' → IsApplied number ns reply s s'

-- ---- Nack

-- the evaluation is this one, its indexes apart
pub record HasEvaluation (rows : Tenant) (n : ℕ) (e : Evaluation) : Type 0 where
  pub created : ℕ
  pub modified : ℕ
  pub is_row : get rows.evaluations n ≡ Some (record e { create_index = created; modify_index = modified })

-- the worker has no evaluation of the namespace any more, and of its rows nothing changed but those of evaluations, the
-- index and the events
pub record GivesUp (number : ℕ) (before now : Tenant) : Type 0 where
  pub idle : get now.workers number ≡ None
  pub other_workers : KeepsOtherWorkers number before now
  pub namespace : now.namespace ≡ before.namespace
  pub jobs : now.jobs ≡ before.jobs
  pub allocations : now.allocations ≡ before.allocations
  pub allocation_number : now.allocation_number ≡ before.allocation_number

-- One more evaluation of the job became ready, a pending one, as the last one; or none did, as none of the job is
-- pending, or one of the job is ready or with a worker
pub data MayPromote (ns job : Name) (x : World) (now : Tenant) (was : List Key) : Type 0 where
  next : (n : ℕ) (row : Evaluation) → get now.evaluations n ≡ Some row → row.job ≡ job → row.status ≡ Status.Pending →
      x.ready ≡ was ++ (ns, n) ∷ [] → MayPromote ns job x now was
  none_pending : ((n : ℕ) (row : Evaluation) → get now.evaluations n ≡ Some row → row.job ≡ job →
      row.status ≢ Status.Pending) → x.ready ≡ was → MayPromote ns job x now was
  one_taken : IsTaken x ns job → x.ready ≡ was → MayPromote ns job x now was

-- below three nacks the evaluation is ready again, as the last one. At the third it fails, and another evaluation of
-- its job may become ready
pub data NackLeads (ns : Name) (n : ℕ) (row : Evaluation) (content : Content) (x : World) (now : Tenant)
    (was : List Key) : Type 0 where
  again : row.nacks + 1 < 3 → content ≡ Content.Nacked Status.Pending →
      HasEvaluation now n (record row { nacks = row.nacks + 1 }) → x.ready ≡ was ++ (ns, n) ∷ [] →
      NackLeads ns n row content x now was
  fails : 3 ≤ row.nacks + 1 → content ≡ Content.Nacked Status.Failed →
      HasEvaluation now n (record row { nacks = row.nacks + 1; status = Status.Failed }) →
      MayPromote ns row.job x now was → NackLeads ns n row content x now was

pub record IsNacked (number : ℕ) (ns : Name) (reply : Reply) (s s' : State) : Type 0 where
  pub before : Tenant
  pub now : Tenant
  pub stays : StaysIn ns s s' before now
  pub worker : Worker
  pub was_worker : get before.workers number ≡ Some worker
  pub not_submitted : worker.phase ≢ Phase.Submitted
  pub row : Evaluation
  pub was_row : get before.evaluations worker.evaluation ≡ Some row
  pub leads : NackLeads ns worker.evaluation row reply.content s'.world now s.world.ready
  pub gives_up : GivesUp number before now
  pub other_evaluations : (m : ℕ) → m ≢ worker.evaluation → get now.evaluations m ≡ get before.evaluations m
  pub evaluation_number : now.evaluation_number ≡ before.evaluation_number
  pub plans : s'.world.plans ≡ s.world.plans
  pub blocked : s'.world.blocked ≡ s.world.blocked

-- Once a worker has nacked its evaluation, whose plan does not wait to be applied, the worker has it no more. Up to
-- its second nack the evaluation is ready again, as the last one. At its third it has failed, and another evaluation
-- of the job becomes ready if one is pending and none of the job is ready or with a worker. Other evaluations, jobs
-- and allocations are as they were.
abbrev pub NackedIsGivenBack : Type 0
NackedIsGivenBack = (number : ℕ) (ns : Name) (s s' : State) (reply : Reply) →
    IsMade (Step.Nack number ns) s reply s' → IsNacked number ns reply s s'

-- ---- Finish

-- the plan of the worker's snapshot does nothing, nothing of the worker's plan was dropped, or something was and it has
-- no try left
pub data MayEnd (worker : Worker) (kept : Snapshot) : Type 0 where
  nothing_to_do : worker.phase ≡ Phase.Snapped → does_nothing (plan kept) ≡ true → MayEnd worker kept
  all_done : worker.phase ≡ Phase.Applied → MayEnd worker kept
  no_try_left : worker.phase ≡ Phase.Dropped → worker.tries ≡ 0 → MayEnd worker kept

-- without a try left the evaluation has failed, and its follower is there for that. Else it is complete, and a follower
-- is there for the allocations that were not placed
pub data EndsAs (tries : ℕ) (status : Status) (trigger : Trigger) : Type 0 where
  is_failed : tries ≡ 0 → status ≡ Status.Failed → trigger ≡ Trigger.MaxPlanAttempts → EndsAs tries status trigger
  is_complete : tries ≢ 0 → status ≡ Status.Complete → trigger ≡ Trigger.QueuedAllocs → EndsAs tries status trigger

-- a constraint on this target escapes classes: the target is a node's name, or an attribute that is unique to a node
abbrev pub EscapesClasses : Target → Type 0
EscapesClasses Target.NodeClass = ⊥
EscapesClasses Target.NodeName = Unit {0}
EscapesClasses (Target.Attribute key) = is_unique key ≡ true

-- the constraint is one of the snapshot's job
abbrev pub HasConstraint : Snapshot → Constraint → Type 0
HasConstraint kept c = (job : Job) × (kept.job ≡ Some job) × Contains job.document.constraints c

-- some constraint of the snapshot's job escapes classes
abbrev pub SomeEscapes : Snapshot → Type 0
SomeEscapes kept = (c : Constraint) × HasConstraint kept c × EscapesClasses c.target

-- a node of the snapshot has that class, and does not meet a constraint of the job that does not escape classes
pub record IsRuledOut (kept : Snapshot) (class : Class) : Type 0 where
  pub node : PoolNode
  pub is_node : Contains kept.nodes node
  pub of_class : class_of node.row ≡ class
  pub constraint : Constraint
  pub is_constraint : HasConstraint kept constraint
  pub by_class : EscapesClasses constraint.target → ⊥
  pub fails : Meets node.name node.row constraint.operand constraint.target constraint.value → ⊥

-- after a failure no quota limits the follower; otherwise the snapshot's does, exactly if the plan reports it as its
-- limit
pub data LimitedBy (tries : ℕ) (kept : Snapshot) : Option Name → Type 0 where
  failed : tries ≡ 0 → LimitedBy tries kept None
  by_quota : tries ≢ 0 → (plan kept).placing.quota_limited ≡ true → (seen : QuotaSeen) → kept.quota ≡ Some seen →
      LimitedBy tries kept (Some seen.name)
  by_none : tries ≢ 0 → (plan kept).placing.quota_limited ≡ false → LimitedBy tries kept None

-- what the follower waits for: it escapes classes after a failure, or if some constraint of the job does; and its
-- infeasible classes are exactly those that a constraint of the job rules out
pub record WaitsFor (tries : ℕ) (kept : Snapshot) (f : Evaluation) : Type 0 where
  pub quota : LimitedBy tries kept f.quota
  pub escapes : (f.escapes ≡ true) ↔ ((tries ≡ 0) ⊎ SomeEscapes kept)
  pub infeasible : (class : Class) → Contains f.infeasible class ↔ IsRuledOut kept class

-- the follower is for the job of the evaluation and for the pool of the snapshot, and it names the evaluation. It has
-- no nacks, and no follower of its own
pub record IsFollower (worker : Worker) (row : Evaluation) (kept : Snapshot) (trigger : Trigger)
    (f : Evaluation) : Type 0 where
  pub job : f.job ≡ row.job
  pub kind : f.kind ≡ row.kind
  pub priority : f.priority ≡ row.priority
  pub pool : f.pool ≡ kept.pool
  pub previous : f.previous ≡ Some worker.evaluation
  pub why : f.trigger ≡ trigger
  pub no_nacks : f.nacks ≡ 0
  pub no_follower : f.follower ≡ None
  pub waits : WaitsFor worker.tries kept f

-- no try is left, or the plan is short: it did not place each allocation that was missing
abbrev pub NeedsFollower : Worker → Snapshot → Type 0
NeedsFollower worker kept = (worker.tries ≡ 0) ⊎ (is_short (plan kept) ≡ true)

-- after the snapshot something was released that the evaluation can use: the quota that limits it or, if none does, a
-- class of its pool
pub data MissedRelease (w : World) (kept : Snapshot) (e : Evaluation) : Type 0 where
  of_class : e.quota ≡ None → (pool : PoolRows) (class : Class) (number : ℕ) → get w.pools e.pool ≡ Some pool →
      get pool.classes class ≡ Some number → kept.release < number → MayUse e class → MissedRelease w kept e
  of_quota : (quota : Name) (rows : QuotaRows) → e.quota ≡ Some quota → get w.quotas quota ≡ Some rows →
      option_map_or (λ q. q.release) kept.quota 0 < rows.release → MissedRelease w kept e

-- There is no follower, as none is needed; or one is needed, and it is new. It is blocked, and the last of those
-- blocked; or it is pending, as something was released after the snapshot
pub data FollowerLeads (w : World) (ns : Name) (worker : Worker) (kept : Snapshot) (row : Evaluation)
    (trigger : Trigger) (before now : Tenant) (rest is : List Key) : Option ℕ → Type 0 where
  none_needed : worker.tries ≢ 0 → is_short (plan kept) ≡ false → is ≡ rest →
      now.evaluation_number ≡ before.evaluation_number →
      FollowerLeads w ns worker kept row trigger before now rest is None
  follower_blocked : NeedsFollower worker kept → (f : Evaluation) → IsFollower worker row kept trigger f →
      f.status ≡ Status.Blocked → HasEvaluation now (before.evaluation_number + 1) f →
      is ≡ rest ++ (ns, before.evaluation_number + 1) ∷ [] →
      now.evaluation_number ≡ before.evaluation_number + 1 →
      FollowerLeads w ns worker kept row trigger before now rest is (Some (before.evaluation_number + 1))
  follower_pending : NeedsFollower worker kept → (f : Evaluation) → IsFollower worker row kept trigger f →
      f.status ≡ Status.Pending → MissedRelease w kept f → HasEvaluation now (before.evaluation_number + 1) f →
      is ≡ rest →
      now.evaluation_number ≡ before.evaluation_number + 1 →
      FollowerLeads w ns worker kept row trigger before now rest is (Some (before.evaluation_number + 1))

-- no evaluation of the job is blocked, or one was, which is canceled and not in the list of blocked ones any more
pub data Cancels (ns job : Name) (before now : Tenant) (was rest : List Key) : Type 0 where
  none_there : ((m : ℕ) (d : Evaluation) → get before.evaluations m ≡ Some d → d.job ≡ job →
      d.status ≢ Status.Blocked) → rest ≡ was → Cancels ns job before now was rest
  one_there : (m : ℕ) (d : Evaluation) → get before.evaluations m ≡ Some d → d.job ≡ job → d.status ≡ Status.Blocked →
      HasEvaluation now m (record d { status = Status.Canceled }) → IsTakenOut (ns, m) was rest →
      Cancels ns job before now was rest

pub record IsFinished (number : ℕ) (ns : Name) (reply : Reply) (s s' : State) : Type 0 where
  pub before : Tenant
  pub now : Tenant
  pub stays : StaysIn ns s s' before now
  pub worker : Worker
  pub was_worker : get before.workers number ≡ Some worker
  pub kept : Snapshot
  pub was_kept : worker.kept ≡ Some kept
  pub may_end : MayEnd worker kept
  pub row : Evaluation
  pub was_row : get before.evaluations worker.evaluation ≡ Some row
  pub status : Status
  pub trigger : Trigger
  pub ends_as : EndsAs worker.tries status trigger
  pub follower : Option ℕ
  pub replied : reply.content ≡ Content.Finished status follower
  pub ended : HasEvaluation now worker.evaluation
      (record row { status = status; follower = option_or follower row.follower })
  -- the blocked evaluations, without that of the job
  pub rest : List Key
  pub cancels : Cancels ns row.job before now s.world.blocked rest
  pub leads : FollowerLeads s.world ns worker kept row trigger before now rest s'.world.blocked follower
  pub promotes : MayPromote ns row.job s'.world now s.world.ready
  pub gives_up : GivesUp number before now
  pub other_evaluations : (m : ℕ) (d : Evaluation) → get before.evaluations m ≡ Some d → m ≢ worker.evaluation →
      (d.job ≡ row.job → d.status ≢ Status.Blocked) → get now.evaluations m ≡ Some d
  pub plans : s'.world.plans ≡ s.world.plans

-- In a valid state, once a worker has finished its evaluation, the worker is idle. The evaluation is complete, or has
-- failed if no try is left. The job's blocked evaluation, if there was one, is canceled. A follower is there exactly if
-- the evaluation failed or its plan did not place each allocation that was missing: it is the last of those blocked, or
-- it is pending, as it missed a release after the snapshot. After a failure no quota limits the follower, and it
-- escapes classes. Otherwise the snapshot's quota limits it exactly if the plan reports the quota as its limit, and it
-- escapes classes exactly if some constraint of the job does: one on the node's name, or on an attribute that is unique
-- to a node. Its infeasible classes are exactly the classes of those nodes of the snapshot that do not meet some other
-- constraint of the job. Another evaluation of the job becomes ready if one is pending and none of the job is ready or
-- with a worker. Other evaluations, jobs and allocations are as they were.
abbrev pub FinishedIsEnded : Type 0
FinishedIsEnded = (number : ℕ) (ns : Name) (s s' : State) (reply : Reply) → IsValid s →
    IsMade (Step.Finish number ns) s reply s' → IsFinished number ns reply s s'

-- In a valid state, a worker that has finished or nacked its evaluation is idle in every namespace.
abbrev pub EndedIsIdle : Type 0
EndedIsIdle = (step : Step) (number : ℕ) (ns : Name) (s s' : State) (reply : Reply) → IsValid s →
    (step ≡ Step.Finish number ns) ⊎ (step ≡ Step.Nack number ns) → IsMade step s reply s' → IsIdle s'.world number

-- ---- all steps of workers

-- the step is one of a worker
abbrev pub is_work : Step → Bool
is_work (Step.Ask ns secret command) = false
is_work (Step.Admin secret command) = false
is_work (Step.Node pool secret command) = false
is_work _ = true

-- No step of a worker, Apply included, changes the record or a job of any namespace.
abbrev pub WorkKeepsJobs : Type 0
WorkKeepsJobs = (step : Step) (ns : Name) (s s' : State) (reply : Reply) (before : Tenant) → is_work step ≡ true →
    IsMade step s reply s' → get s.world.tenants ns ≡ Some before →
    (now : Tenant) × (get s'.world.tenants ns ≡ Some now) × (now.namespace ≡ before.namespace)
    × (now.jobs ≡ before.jobs)

-- the namespace of a worker's step, Apply left out
abbrev pub works_in : Step → Option Name
works_in (Step.Dequeue worker ns n) = Some ns
works_in (Step.Snap worker ns) = Some ns
works_in (Step.Submit worker ns) = Some ns
works_in (Step.Finish worker ns) = Some ns
works_in (Step.Nack worker ns) = Some ns
works_in _ = None

-- In a valid state, a step of a worker other than Apply changes nothing but the rows of its namespace and the lists of
-- evaluations: no row of another namespace, no access list, no pool and no quota.
abbrev pub WorkStaysInside : Type 0
WorkStaysInside = (step : Step) (ns : Name) (s s' : State) (reply : Reply) → IsValid s → works_in step ≡ Some ns →
    IsMade step s reply s' → (before : Tenant) × (now : Tenant) × StaysIn ns s s' before now

-- Apply changes the row of the worker whose plan is applied, and no row of another worker, in whichever namespace.
abbrev pub ApplyKeepsOtherWorkers : Type 0
ApplyKeepsOtherWorkers = (number : ℕ) (ns : Name) (s s' : State) (reply : Reply) →
    IsMade (Step.Apply number ns) s reply s' → (other : Name) (m : ℕ) → (other ≡ ns → m ≢ number) →
    worker_at s'.world m other ≡ worker_at s.world m other
