-- Laws of what requests do: once a request is answered by a reply, what it asked for is there.
use Rattle.std.specs.Prelude.{◌≡◌, ◌≢◌, ◌⊎◌, ℕ, ◌+◌, Bool, IsTrue, true, false, Option, Some, None, Ok, unwrap_or, option_map}
use Rattle.std.specs.FinMap.{get}
use Rattle.ns_types.specs.declared.allocation.Allocation.{Allocation}
use Rattle.ns_types.specs.declared.allocation.ClientStatus.{ClientStatus}
use Rattle.ns_types.specs.declared.allocation.DesiredStatus.TheVariants as DesiredStatus
use Rattle.ns_types.specs.declared.evaluation.Evaluation.{Evaluation}
use Rattle.ns_types.specs.declared.evaluation.Status.TheVariants as Status
use Rattle.ns_types.specs.declared.evaluation.Trigger.{Trigger}
use Rattle.ns_types.specs.declared.job.Document.{Document}
use Rattle.ns_types.specs.declared.job.Job.{Job}
use Rattle.ns_types.specs.declared.job.JobKind.TheVariants as JobKind
use Rattle.ns_types.specs.declared.job.Registration.{Registration}
use Rattle.ns_types.specs.declared.node.Node.{Node}
use Rattle.ns_types.specs.declared.node.NodeStatus.{NodeStatus}
use Rattle.ns_types.specs.declared.node.Offer.{Offer}
use Rattle.ns_types.specs.declared.records.Namespace.{Namespace}
use Rattle.ns_types.specs.declared.records.Pool.{Pool}
use Rattle.ns_types.specs.declared.records.Quota.{Quota}
use Rattle.ns_types.specs.declared.reply.Content.{Content}
use Rattle.ns_types.specs.declared.reply.Reply.{Reply}
use Rattle.ns_types.specs.declared.step.AdminCommand.TheVariants as AdminCommand
use Rattle.ns_types.specs.declared.step.AskCommand.{AskCommand}
use Rattle.ns_types.specs.declared.step.NodeCommand.TheVariants as NodeCommand
use Rattle.ns_types.specs.declared.step.Report.{Report}
use Rattle.ns_types.specs.declared.step.Step.{Step}
use Rattle.ns_types.specs.State.Names.{Name, Key}
use Rattle.ns_types.specs.State.Rows.{State, Tenant, is_live, is_live_on, allocation_at, node_at}
use Rattle.ns_types.specs.Steps.{after, said}
use Rattle.ns_audit.specs.Orderly.{IsSteady}

-- the step leads from s to s', and is answered by that reply
abbrev pub IsMade : Step → State → Reply → State → Type 0
IsMade step s reply s' = after step s ≡ said (Ok reply) s'

-- the namespace is there before and after, and this holds of its rows before and of its rows now
pub record HasRows (ns : Name) (s s' : State) (Holds : Tenant → Tenant → Type 0) : Type 0 where
  pub before : Tenant
  pub now : Tenant
  pub was_there : get s.world.tenants ns ≡ Some before
  pub is_there : get s'.world.tenants ns ≡ Some now
  pub holds : Holds before now

-- the evaluation has the type, the priority and the pool of the document
pub record IsOfDocument (document : Document) (row : Evaluation) : Type 0 where
  pub kind : row.kind ≡ document.kind
  pub priority : row.priority ≡ document.priority
  pub pool : row.pool ≡ document.pool

-- The evaluation has those of the job's document. If the job is gone, it has the type `service`, and the priority and the
-- pool of the allocation.
abbrev pub IsOfAllocation : Option Job → Allocation → Evaluation → Type 0
IsOfAllocation (Some job) a row = IsOfDocument job.document row
IsOfAllocation None a row = (row.kind ≡ JobKind.Service) × (row.priority ≡ a.priority) × (row.pool ≡ a.pool)

-- the evaluation with the number n is as it was or, as one does that wakes, it has become pending
pub data KeepsEvaluation (n : ℕ) (before now : Tenant) : Type 0 where
  stays : get now.evaluations n ≡ get before.evaluations n → KeepsEvaluation n before now
  wakes : (row : Evaluation) (index : ℕ) → get before.evaluations n ≡ Some row →
      get now.evaluations n ≡ Some (record row { status = Status.Pending; modify_index = index }) →
      KeepsEvaluation n before now

-- The evaluation with the number n is new: it has the namespace's next number, which is now the last. It is of the job, with
-- this type, priority and pool, it is pending, and this is why it was made. No other evaluation is made.
pub record IsEvaluated (job : Name) (IsOf : Evaluation → Type 0) (trigger : Trigger) (n : ℕ) (before now : Tenant) : Type 0 where
  pub next : n ≡ before.evaluation_number + 1
  pub last : now.evaluation_number ≡ n
  pub row : Evaluation
  pub is_row : get now.evaluations n ≡ Some row
  pub is_of_job : row.job ≡ job
  pub is_of : IsOf row
  pub is_pending : row.status ≡ Status.Pending
  pub is_why : row.trigger ≡ trigger
  pub others : (m : ℕ) → m ≢ n → KeepsEvaluation m before now

-- every job but this one is as it was
abbrev pub KeepsOtherJobs : Name → Tenant → Tenant → Type 0
KeepsOtherJobs id before now = (other : Name) → other ≢ id → get now.jobs other ≡ get before.jobs other

-- every evaluation but this one is as it was
abbrev pub KeepsOtherEvaluations : ℕ → Tenant → Tenant → Type 0
KeepsOtherEvaluations n before now = (m : ℕ) → m ≢ n → get now.evaluations m ≡ get before.evaluations m

-- every allocation but this one is as it was
abbrev pub KeepsOtherAllocations : ℕ → Tenant → Tenant → Type 0
KeepsOtherAllocations n before now = (m : ℕ) → m ≢ n → get now.allocations m ≡ get before.allocations m

-- ---- registration

-- the document is the registered one. A registration that names no pool has its namespace's default
pub record IsDocumentOf (r : Registration) (default_pool : Name) (document : Document) : Type 0 where
  pub kind : document.kind ≡ r.kind
  pub priority : document.priority ≡ r.priority
  pub pool : document.pool ≡ unwrap_or r.pool default_pool
  pub constraints : document.constraints ≡ r.constraints
  pub groups : document.groups ≡ r.groups

-- the job has the registered document, and it is not stopped
abbrev pub IsAsRegistered : Registration → Name → Job → Type 0
IsAsRegistered r default_pool job = (job.stop ≡ false) × IsDocumentOf r default_pool job.document

-- A new job has version 0. One that was there as it is registered is just as it was. Any other one that was there has a
-- version greater by one.
abbrev pub HasVersion : Registration → Name → Option Job → Job → Type 0
HasVersion r default_pool None job = job.version ≡ 0
HasVersion r default_pool (Some old) job = (IsAsRegistered r default_pool old → job ≡ old)
    × ((IsAsRegistered r default_pool old → ⊥) → job.version ≡ old.version + 1)

pub record IsRegistered (r : Registration) (reply : Reply) (before now : Tenant) : Type 0 where
  pub job : Job
  pub is_job : get now.jobs r.id ≡ Some job
  pub is_to_run : job.stop ≡ false
  pub document : IsDocumentOf r before.namespace.default_pool job.document
  pub version : HasVersion r before.namespace.default_pool (get before.jobs r.id) job
  -- the reply has the evaluation's number and index, and the job's modify index
  pub number : ℕ
  pub index : ℕ
  pub replied : reply.content ≡ Content.Registered number index job.modify_index
  pub index_shown : reply.index ≡ Some now.index
  pub evaluated : IsEvaluated r.id (IsOfDocument job.document) Trigger.JobRegister number before now
  pub other_evaluations : KeepsOtherEvaluations number before now
  pub other_jobs : KeepsOtherJobs r.id before now
  pub allocations : now.allocations ≡ before.allocations

-- Once a registration is made, the job is there with the document that was registered, and it is not stopped. A new job
-- has version 0. A job that was there with this document, and was not stopped, is just as it was; any other one that was
-- there has a version greater by one. A new evaluation of the job, with its type, priority and pool, is pending, and the
-- reply has its number. Other evaluations, other jobs and all allocations are as they were.
abbrev pub RegisteredIsThere : Type 0
RegisteredIsThere = (ns : Name) (secret : Option Name) (r : Registration) (s s' : State) (reply : Reply) →
    IsMade (Step.Ask ns secret (AskCommand.Register r)) s reply s' → HasRows ns s s' (IsRegistered r reply)

-- ---- deregistration

pub record IsDeregistered (id : Name) (reply : Reply) (before now : Tenant) : Type 0 where
  pub old : Job
  pub was_there : get before.jobs id ≡ Some old
  pub job : Job
  pub is_job : get now.jobs id ≡ Some job
  pub is_stopped : job.stop ≡ true
  pub document : job.document ≡ old.document
  pub version : job.version ≡ old.version
  pub number : ℕ
  pub index : ℕ
  pub replied : reply.content ≡ Content.Registered number index job.modify_index
  pub index_shown : reply.index ≡ Some now.index
  pub evaluated : IsEvaluated id (IsOfDocument old.document) Trigger.JobDeregister number before now
  pub other_evaluations : KeepsOtherEvaluations number before now
  pub other_jobs : KeepsOtherJobs id before now
  pub allocations : now.allocations ≡ before.allocations

-- Once a job is deregistered without purge, it is still there with its document and its version, and it is stopped. A new
-- evaluation of it, with its type, priority and pool, is pending, and the reply has its number. Other evaluations, other jobs
-- and all allocations are as they were.
abbrev pub DeregisteredIsStopped : Type 0
DeregisteredIsStopped = (ns : Name) (secret : Option Name) (id : Name) (s s' : State) (reply : Reply) →
    IsMade (Step.Ask ns secret (AskCommand.Deregister id false)) s reply s' → HasRows ns s s' (IsDeregistered id reply)

pub record IsPurged (id : Name) (reply : Reply) (before now : Tenant) : Type 0 where
  pub old : Job
  pub was_there : get before.jobs id ≡ Some old
  pub is_gone : get now.jobs id ≡ None
  -- in the place of the job's index the reply has the evaluation's again
  pub number : ℕ
  pub index : ℕ
  pub replied : reply.content ≡ Content.Registered number index index
  pub index_shown : reply.index ≡ Some now.index
  pub evaluated : IsEvaluated id (IsOfDocument old.document) Trigger.JobDeregister number before now
  pub other_evaluations : KeepsOtherEvaluations number before now
  pub other_jobs : KeepsOtherJobs id before now
  pub allocations : now.allocations ≡ before.allocations

-- Once a job is deregistered with purge, it is gone. A new evaluation of it, with the type, the priority and the pool that it
-- had, is pending, and the reply has its number. Other evaluations, other jobs and all allocations are as they were.
abbrev pub PurgedIsGone : Type 0
PurgedIsGone = (ns : Name) (secret : Option Name) (id : Name) (s s' : State) (reply : Reply) →
    IsMade (Step.Ask ns secret (AskCommand.Deregister id true)) s reply s' → HasRows ns s s' (IsPurged id reply)

-- ---- an allocation is stopped

pub record IsStopped (n : ℕ) (reply : Reply) (before now : Tenant) : Type 0 where
  pub old : Allocation
  pub was_there : get before.allocations n ≡ Some old
  pub was_live : is_live old ≡ true
  pub row : Allocation
  pub is_row : get now.allocations n ≡ Some row
  pub is_to_stop : row.desired ≡ DesiredStatus.Stop
  -- its client has not said anything yet
  pub client : row.client ≡ old.client
  pub job : row.job ≡ old.job
  pub pool : row.pool ≡ old.pool
  pub node : row.node ≡ old.node
  pub number : ℕ
  pub index : ℕ
  pub replied : reply.content ≡ Content.Stopped number index
  pub index_shown : reply.index ≡ Some now.index
  pub evaluated : IsEvaluated old.job (IsOfAllocation (get before.jobs old.job) old) Trigger.AllocStop number before now
  pub other_allocations : KeepsOtherAllocations n before now
  pub jobs : now.jobs ≡ before.jobs

-- Once a request to stop an allocation is made, the desired status of the allocation, which was live, is to stop. A new
-- evaluation of its job is pending, and the reply has its number. It has the type, the priority and the pool of the job or,
-- if that is gone, the type `service` and the allocation's priority and pool. Other evaluations are as they were or have
-- woken. Other allocations and all jobs are as they were.
abbrev pub StoppedAllocation : Type 0
StoppedAllocation = (ns : Name) (secret : Option Name) (n : ℕ) (s s' : State) (reply : Reply) →
    IsMade (Step.Ask ns secret (AskCommand.StopAllocation n)) s reply s' → HasRows ns s s' (IsStopped n reply)

-- ---- the index in the reply

-- the number and the index of a new evaluation, if the reply has them
abbrev pub evaluation_in_reply : Content → Option (ℕ × ℕ)
evaluation_in_reply (Content.Registered number index job_index) = Some (number, index)
evaluation_in_reply (Content.Stopped number index) = Some (number, index)
evaluation_in_reply _ = None

pub record IsDated (number index : ℕ) (before now : Tenant) : Type 0 where
  pub next : index ≡ before.index + 1
  pub is_now : index ≡ now.index
  pub row : Evaluation
  pub is_row : get now.evaluations number ≡ Some row
  pub is_created : row.create_index ≡ index
  pub is_modified : row.modify_index ≡ index

-- In a state that has what isolation rests on, take a made request in a namespace whose reply has the number and the index
-- of a new evaluation. The index is the namespace's index after the request, which is its next one, and the evaluation was
-- created and last modified at it.
abbrev pub IndexInReplyIsNew : Type 0
IndexInReplyIsNew = (ns : Name) (secret : Option Name) (command : AskCommand) (s s' : State) (reply : Reply) (number index : ℕ) →
    IsSteady s → IsMade (Step.Ask ns secret command) s reply s' → evaluation_in_reply reply.content ≡ Some (number, index) →
    HasRows ns s s' (IsDated number index)

-- ---- reports

-- the job is there, and it is a batch job; one that is gone counts as a service job
abbrev pub IsBatch : Option Job → Type 0
IsBatch (Some job) = job.document.kind ≡ JobKind.Batch
IsBatch None = ⊥

-- the status is new, the allocation is to run, and it has failed, or it has completed and is not of a batch job
pub record CallsForEvaluation (old : Allocation) (client : ClientStatus) (job : Option Job) : Type 0 where
  pub is_new : old.client ≢ client
  pub is_to_run : old.desired ≡ DesiredStatus.Run
  pub has_ended : (client ≡ ClientStatus.Failed) ⊎ ((client ≡ ClientStatus.Complete) × (IsBatch job → ⊥))

-- no evaluation is made: no number is given to one, and each is as it was or has woken
pub record MakesNone (before now : Tenant) : Type 0 where
  pub number : now.evaluation_number ≡ before.evaluation_number
  pub evaluations : (n : ℕ) → KeepsEvaluation n before now

pub record IsReported (pool node : Name) (report : Report) (before now : Tenant) : Type 0 where
  pub old : Allocation
  pub was_there : get before.allocations report.number ≡ Some old
  pub was_in_pool : old.pool ≡ pool
  pub was_on_node : old.node ≡ node
  pub row : Allocation
  pub is_row : get now.allocations report.number ≡ Some row
  pub client : row.client ≡ report.client
  pub desired : row.desired ≡ old.desired
  pub job : row.job ≡ old.job
  pub pool_kept : row.pool ≡ old.pool
  pub node_kept : row.node ≡ old.node
  -- its job is evaluated if the report calls for it, and only then
  pub evaluated : CallsForEvaluation old report.client (get before.jobs old.job) →
      IsEvaluated old.job (IsOfAllocation (get before.jobs old.job) old) Trigger.AllocFailure
      (before.evaluation_number + 1) before now
  pub quiet : (CallsForEvaluation old report.client (get before.jobs old.job) → ⊥) → MakesNone before now
  -- unless the report ends the allocation, and that was live, each evaluation is as it was
  pub resting : (is_live old ≡ true → is_live row ≡ true) → now.evaluations ≡ before.evaluations
  pub other_allocations : KeepsOtherAllocations report.number before now
  pub jobs : now.jobs ≡ before.jobs

-- Once a client's report is made, the allocation, which is on that node, has the reported client status. Its desired status
-- is what it was. A new evaluation of its job is pending exactly if the status is new, the allocation is to run, and it has
-- failed, or has completed and is not of a batch job; a job that is gone counts as a service job. The evaluation has the
-- type, the priority and the pool of the job or, if that is gone, the type `service` and the allocation's priority and
-- pool. Other evaluations are as they were or, if the report ends a live allocation, may have woken. Other allocations and
-- all jobs are as they were.
abbrev pub ReportedIsThere : Type 0
ReportedIsThere = (pool : Name) (secret : Option Name) (node : Name) (report : Report) (s s' : State) (reply : Reply) →
    IsMade (Step.Node pool secret (NodeCommand.Report node report)) s reply s' →
    HasRows report.namespace s s' (IsReported pool node report)

-- ---- nodes

-- every node but this one, in whichever pool, is as it was
abbrev pub KeepsOtherNodes : Name → Name → State → State → Type 0
KeepsOtherNodes pool name s s' = (other_pool other : Name) → (other_pool ≡ pool → other ≡ name → ⊥) →
    node_at s'.world other_pool other ≡ node_at s.world other_pool other

-- a new node is ready and eligible; one that was there keeps its status and its eligibility
abbrev pub HasFormer : Option Node → Node → Type 0
HasFormer None node = (node.status ≡ NodeStatus.Ready) × (node.eligible ≡ true)
HasFormer (Some old) node = (node.status ≡ old.status) × (node.eligible ≡ old.eligible)

pub record HasOffer (pool name : Name) (offer : Offer) (s s' : State) : Type 0 where
  pub node : Node
  pub is_node : node_at s'.world pool name ≡ Some node
  pub is_offered : node.offer ≡ offer
  pub former : HasFormer (node_at s.world pool name) node
  pub other_nodes : KeepsOtherNodes pool name s s'

-- Once a node is put, it is there with that offer. A new node is ready and eligible, and one that was there keeps its status
-- and its eligibility. Other nodes are as they were.
abbrev pub PutNodeIsThere : Type 0
PutNodeIsThere = (pool : Name) (secret : Option Name) (name : Name) (offer : Offer) (s s' : State) (reply : Reply) →
    IsMade (Step.Node pool secret (NodeCommand.PutNode name offer)) s reply s' → HasOffer pool name offer s s'

-- Once a node is deleted, it is gone. Other nodes are as they were.
abbrev pub DeletedNodeIsGone : Type 0
DeletedNodeIsGone = (pool : Name) (secret : Option Name) (name : Name) (s s' : State) (reply : Reply) →
    IsMade (Step.Node pool secret (NodeCommand.DeleteNode name)) s reply s' →
    (node_at s'.world pool name ≡ None) × KeepsOtherNodes pool name s s'

-- the node was there, and it is there now with that status and that eligibility, and with its offer
pub record HasNode (pool name : Name) (Status : Node → Node → Type 0) (s s' : State) : Type 0 where
  pub old : Node
  pub was_there : node_at s.world pool name ≡ Some old
  pub node : Node
  pub is_node : node_at s'.world pool name ≡ Some node
  pub holds : Status old node
  pub offer : node.offer ≡ old.offer
  pub other_nodes : KeepsOtherNodes pool name s s'

-- Once a node's status is set, the node has that status. Its eligibility, its offer and the other nodes are as they were.
abbrev pub SetStatusIsThere : Type 0
SetStatusIsThere = (pool : Name) (secret : Option Name) (name : Name) (status : NodeStatus) (s s' : State) (reply : Reply) →
    IsMade (Step.Node pool secret (NodeCommand.SetStatus name status)) s reply s' →
    HasNode pool name (λ old node. (node.status ≡ status) × (node.eligible ≡ old.eligible)) s s'

-- Once a node's eligibility is set, the node has it. Its status, its offer and the other nodes are as they were.
abbrev pub SetEligibleIsThere : Type 0
SetEligibleIsThere = (pool : Name) (secret : Option Name) (name : Name) (eligible : Bool) (s s' : State) (reply : Reply) →
    IsMade (Step.Node pool secret (NodeCommand.SetEligible name eligible)) s reply s' →
    HasNode pool name (λ old node. (node.eligible ≡ eligible) × (node.status ≡ old.status)) s s'

-- the allocation is lost, and its desired status is what it was
pub record IsLost (a : Allocation) (key : Key) (s' : State) : Type 0 where
  pub row : Allocation
  pub is_row : allocation_at s'.world key ≡ Some row
  pub client : row.client ≡ ClientStatus.Lost
  pub desired : row.desired ≡ a.desired

-- Once a node is set down, each allocation that was live on it, of whichever namespace, has the client status `lost`.
abbrev pub DownIsLost : Type 0
DownIsLost = (pool : Name) (secret : Option Name) (name : Name) (s s' : State) (reply : Reply) →
    IsMade (Step.Node pool secret (NodeCommand.SetStatus name NodeStatus.Down)) s reply s' →
    (key : Key) (a : Allocation) → allocation_at s.world key ≡ Some a → IsTrue (is_live_on pool name a) → IsLost a key s'

-- ---- what administrators put and delete

-- of every namespace but this one the record is as it was
abbrev pub KeepsOtherNamespaces : Name → State → State → Type 0
KeepsOtherNamespaces name s s' = (other : Name) → other ≢ name →
    option_map (λ t. t.namespace) (get s'.world.tenants other) ≡ option_map (λ t. t.namespace) (get s.world.tenants other)

-- The namespace is there with this record. If it was there before, it has the jobs and the allocations that it had. The
-- records of other namespaces are as they were.
pub record HasNamespace (name : Name) (namespace : Namespace) (s s' : State) : Type 0 where
  pub rows : Tenant
  pub is_there : get s'.world.tenants name ≡ Some rows
  pub is_put : rows.namespace ≡ namespace
  pub jobs : (old : Tenant) → get s.world.tenants name ≡ Some old → rows.jobs ≡ old.jobs
  pub allocations : (old : Tenant) → get s.world.tenants name ≡ Some old → rows.allocations ≡ old.allocations
  pub others : KeepsOtherNamespaces name s s'

-- Once a namespace is put, it is there with that record. If it was there before, it keeps its jobs and its allocations.
-- The records of other namespaces are as they were.
abbrev pub PutNamespaceIsThere : Type 0
PutNamespaceIsThere = (secret : Option Name) (name : Name) (namespace : Namespace) (s s' : State) (reply : Reply) →
    IsMade (Step.Admin secret (AdminCommand.PutNamespace name namespace)) s reply s' → HasNamespace name namespace s s'

-- Once a namespace is deleted, it is gone. The records of other namespaces are as they were.
abbrev pub DeletedNamespaceIsGone : Type 0
DeletedNamespaceIsGone = (secret : Option Name) (name : Name) (s s' : State) (reply : Reply) →
    IsMade (Step.Admin secret (AdminCommand.DeleteNamespace name)) s reply s' →
    (get s'.world.tenants name ≡ None) × KeepsOtherNamespaces name s s'

-- the record of the quota, if it is there
abbrev pub quota_at : State → Name → Option Quota
quota_at s name = option_map (λ q. q.quota) (get s.world.quotas name)

abbrev pub KeepsOtherQuotas : Name → State → State → Type 0
KeepsOtherQuotas name s s' = (other : Name) → other ≢ name → quota_at s' other ≡ quota_at s other

-- Once a quota is put, it is there with that record. Other quotas are as they were.
abbrev pub PutQuotaIsThere : Type 0
PutQuotaIsThere = (secret : Option Name) (name : Name) (quota : Quota) (s s' : State) (reply : Reply) →
    IsMade (Step.Admin secret (AdminCommand.PutQuota name quota)) s reply s' →
    (quota_at s' name ≡ Some quota) × KeepsOtherQuotas name s s'

-- Once a quota is deleted, it is gone. Other quotas are as they were.
abbrev pub DeletedQuotaIsGone : Type 0
DeletedQuotaIsGone = (secret : Option Name) (name : Name) (s s' : State) (reply : Reply) →
    IsMade (Step.Admin secret (AdminCommand.DeleteQuota name)) s reply s' →
    (quota_at s' name ≡ None) × KeepsOtherQuotas name s s'

-- the record of the pool, if it is there
abbrev pub pool_at : State → Name → Option Pool
pool_at s name = option_map (λ p. p.pool) (get s.world.pools name)

abbrev pub KeepsOtherPools : Name → State → State → Type 0
KeepsOtherPools name s s' = (other : Name) → other ≢ name → pool_at s' other ≡ pool_at s other

-- each node of each pool is as it was
abbrev pub KeepsNodes : State → State → Type 0
KeepsNodes s s' = (pool node : Name) → node_at s'.world pool node ≡ node_at s.world pool node

-- Once a pool is put, it is there with that record. Other pools and all nodes are as they were.
abbrev pub PutPoolIsThere : Type 0
PutPoolIsThere = (secret : Option Name) (name : Name) (pool : Pool) (s s' : State) (reply : Reply) →
    IsMade (Step.Admin secret (AdminCommand.PutPool name pool)) s reply s' →
    (pool_at s' name ≡ Some pool) × KeepsOtherPools name s s' × KeepsNodes s s'

-- Once a pool is deleted, it is gone. Other pools are as they were.
abbrev pub DeletedPoolIsGone : Type 0
DeletedPoolIsGone = (secret : Option Name) (name : Name) (s s' : State) (reply : Reply) →
    IsMade (Step.Admin secret (AdminCommand.DeletePool name)) s reply s' →
    (pool_at s' name ≡ None) × KeepsOtherPools name s s'
