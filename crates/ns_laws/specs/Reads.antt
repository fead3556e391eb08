-- Laws of reads: a read changes nothing, it is answered where what it names is there, and it shows exactly what is
-- there.
use Rattle.std.specs.Prelude.{◌≡◌, ◌↔◌, ℕ, ◌≤◌, Bool, true, false, List, [], ◌∷◌, ◌++◌, Option, Some, Err, filter}
use Rattle.std.specs.Prelude.{IsTrue, IsFalse, flat_map, is_some}
use Rattle.std.specs.FinMap.{FinMap, get, contains_key, entries, values}
use Rattle.std.specs.List.{Contains}
use Rattle.std.specs.Option.{option_and_then, option_map_or}
use Rattle.std.specs.declared.cmp.Ordering.{Ordering}
use Rattle.std.specs.declared.cmp.Ordering.TheVariants.{Less}
use Rattle.ns_types.specs.declared.allocation.Allocation.{Allocation}
use Rattle.ns_types.specs.declared.evaluation.Evaluation.{Evaluation}
use Rattle.ns_types.specs.declared.event.Event.{Event}
use Rattle.ns_types.specs.declared.id.IdKind.TheVariants as IdKind
use Rattle.ns_types.specs.declared.job.Job.{Job}
use Rattle.ns_types.specs.declared.node.Node.{Node}
use Rattle.ns_types.specs.declared.refusal.Refusal.TheVariants as Refusal
use Rattle.ns_types.specs.declared.reply.AllocationShown.{AllocationShown}
use Rattle.ns_types.specs.declared.reply.Content.{Content}
use Rattle.ns_types.specs.declared.reply.EvaluationShown.{EvaluationShown}
use Rattle.ns_types.specs.declared.reply.JobShown.{JobShown}
use Rattle.ns_types.specs.declared.reply.JobStatus.{JobStatus}
use Rattle.ns_types.specs.declared.reply.NamespaceShown.{NamespaceShown}
use Rattle.ns_types.specs.declared.reply.NodeShown.{NodeShown}
use Rattle.ns_types.specs.declared.reply.PolicyShown.{PolicyShown}
use Rattle.ns_types.specs.declared.reply.PoolShown.{PoolShown}
use Rattle.ns_types.specs.declared.reply.QuotaShown.{QuotaShown}
use Rattle.ns_types.specs.declared.reply.Reply.{Reply}
use Rattle.ns_types.specs.declared.step.AdminCommand.{AdminCommand}
use Rattle.ns_types.specs.declared.step.AskCommand.{AskCommand}
use Rattle.ns_types.specs.declared.step.NodeCommand.{NodeCommand}
use Rattle.ns_types.specs.declared.step.Step.{Step}
use Rattle.ns_types.specs.State.Id.{id_text}
use Rattle.ns_types.specs.State.Lists.{Each}
use Rattle.ns_types.specs.State.Names.{Name}
use Rattle.ns_types.specs.State.Resources.{total}
use Rattle.ns_types.specs.State.Rows.{State, World, Tenant, PoolRows, is_live, is_live_on, evaluation_at}
use Rattle.ns_types.specs.State.Rows.{allocation_at}
use Rattle.ns_types.specs.State.Sums.{names_quota}
use Rattle.ns_types.specs.Steps.{Answer, after, said, is_allowed}
use Rattle.ns_types.specs.Validity.{IsValid}
use Rattle.ns_laws.specs.Effects.{IsMade}
use Rattle.ns_laws.specs.Sublist.{IsSublist}

-- ---- a read changes nothing, and is answered where what it names is there

-- the step reads: it is a request in a namespace, of an administrator or about a pool that asks for what is there
abbrev pub is_read : Step → Bool
is_read (Step.Ask ns secret (AskCommand.Register r)) = false
is_read (Step.Ask ns secret (AskCommand.Deregister id purge)) = false
is_read (Step.Ask ns secret (AskCommand.StopAllocation n)) = false
is_read (Step.Ask ns secret command) = true
is_read (Step.Admin secret AdminCommand.ListNamespaces) = true
is_read (Step.Admin secret AdminCommand.ListQuotas) = true
is_read (Step.Admin secret (AdminCommand.ReadQuota name)) = true
is_read (Step.Admin secret AdminCommand.ListPools) = true
is_read (Step.Admin secret (AdminCommand.ReadPolicy name)) = true
is_read (Step.Node pool secret NodeCommand.ReadPool) = true
is_read (Step.Node pool secret NodeCommand.ListNodes) = true
is_read _ = false

-- A read changes nothing, whatever its answer is.
abbrev pub ReadsChangeNothing : Type 0
ReadsChangeNothing = (step : Step) (s t : State) (answer : Answer) → IsTrue (is_read step) →
    after step s ≡ said answer t → t ≡ s

abbrev pub job_at : World → Name → Name → Option Job
job_at w ns id = option_and_then (λ t. get t.jobs id) (get w.tenants ns)

-- What the read names is there: the job, the evaluation, the allocation, the quota, the policy or the pool. For the
-- usage of a quota it is a namespace that names the quota, and for other reads in a namespace the namespace.
abbrev pub is_there : Step → State → Bool
is_there (Step.Ask ns secret (AskCommand.ReadJob id)) s = is_some (job_at s.world ns id)
is_there (Step.Ask ns secret (AskCommand.ReadEvaluation n)) s = is_some (evaluation_at s.world (ns, n))
is_there (Step.Ask ns secret (AskCommand.ReadAllocation n)) s = is_some (allocation_at s.world (ns, n))
is_there (Step.Ask ns secret (AskCommand.QuotaUsage quota)) s =
    option_map_or (λ t. names_quota quota t.namespace) (get s.world.tenants ns) false
is_there (Step.Ask ns secret command) s = contains_key s.world.tenants ns
is_there (Step.Admin secret (AdminCommand.ReadQuota name)) s = contains_key s.world.quotas name
is_there (Step.Admin secret (AdminCommand.ReadPolicy name)) s = contains_key s.acl.policies name
is_there (Step.Node pool secret command) s = contains_key s.world.pools pool
is_there _ s = true

-- A read is refused with `NotFound` exactly where the request is allowed and what it names is not there.
abbrev pub NotFoundWhereMissing : Type 0
NotFoundWhereMissing = (step : Step) (s : State) → IsTrue (is_read step) →
    after step s ≡ said (Err Refusal.NotFound) s ↔ (IsTrue (is_allowed step s.acl) × IsFalse (is_there step s))

-- In a valid state a read that is allowed is answered by a reply where what it names is there.
abbrev pub ReadsAreAnswered : Type 0
ReadsAreAnswered = (step : Step) (s : State) → IsValid s → IsTrue (is_read step) → IsTrue (is_allowed step s.acl) →
    IsTrue (is_there step s) → (reply : Reply) × IsMade step s reply s

-- ---- what a reply shows

-- the namespace is there, the reply has its index, and this is shown of its rows
pub record ShowsOf (ns : Name) (s : State) (reply : Reply) (Shows : Tenant → Content → Type 0) : Type 0 where
  pub rows : Tenant
  pub is_there : get s.world.tenants ns ≡ Some rows
  pub index : reply.index ≡ Some rows.index
  pub shows : Shows rows reply.content

-- the content is one row: the row that the table has at the key, shown with that key
pub record ShowsOne {K X Y : Type 0} {R : K → K → Ordering} (table : FinMap R X) (key : K) (key_of : Y → K)
    (Shows : X → Y → Type 0) (content_of : Y → Content) (content : Content) : Type 0 where
  pub shown : Y
  pub answered : content ≡ content_of shown
  pub row : X
  pub is_row : get table key ≡ Some row
  pub at_key : key_of shown ≡ key
  pub shows : Shows row shown

-- what is shown is a row that the table has at its key, and the row passes
pub record ShowsRow {K X Y : Type 0} {R : K → K → Ordering} (table : FinMap R X) (Passes : K → X → Type 0)
    (key_of : Y → K) (Shows : X → Y → Type 0) (shown : Y) : Type 0 where
  pub row : X
  pub is_row : get table (key_of shown) ≡ Some row
  pub passes : Passes (key_of shown) row
  pub shows : Shows row shown

-- each key comes before every later one
abbrev pub Rises : {K Y : Type 0} → (K → K → Ordering) → (Y → K) → List Y → Type 0
Rises R key_of [] = Unit {0}
Rises R key_of (y ∷ ys) = Each (λ z. R (key_of y) (key_of z) ≡ Less) ys × Rises R key_of ys

-- the content is a list of exactly those rows of the table that pass, in the order of their keys, each once
pub record ShowsRows {K X Y : Type 0} {R : K → K → Ordering} (table : FinMap R X) (Passes : K → X → Type 0)
    (key_of : Y → K) (Shows : X → Y → Type 0) (content_of : List Y → Content) (content : Content) : Type 0 where
  pub shown : List Y
  pub answered : content ≡ content_of shown
  pub no_other : Each (ShowsRow table Passes key_of Shows) shown
  pub all : (key : K) (row : X) → get table key ≡ Some row → Passes key row →
      (y : Y) × Contains shown y × (key_of y ≡ key)
  pub in_order : Rises R key_of shown

abbrev pub All : {K X : Type 0} → K → X → Type 0
All key row = Unit {0}

-- the text is the prefix, with or without more after it
abbrev pub BeginsWith : Name → Name → Type 0
BeginsWith prefix text = (rest : Name) × (text ≡ prefix ++ rest)

-- ---- jobs

-- the job has a live allocation
pub record HasLive (rows : Tenant) (id : Name) : Type 0 where
  pub number : ℕ
  pub row : Allocation
  pub is_row : get rows.allocations number ≡ Some row
  pub is_its : row.job ≡ id
  pub lives : IsTrue (is_live row)

-- a stopped job is dead; any other is running if it has a live allocation, and pending if it has none
abbrev pub HasJobStatus : Tenant → Name → Job → JobStatus → Type 0
HasJobStatus rows id job JobStatus.Dead = job.stop ≡ true
HasJobStatus rows id job JobStatus.Running = (job.stop ≡ false) × HasLive rows id
HasJobStatus rows id job JobStatus.Pending = (job.stop ≡ false) × (HasLive rows id → ⊥)

-- the job is shown as it is, with its namespace and its status
pub record ShowsJob (ns : Name) (rows : Tenant) (job : Job) (shown : JobShown) : Type 0 where
  pub namespace : shown.namespace ≡ ns
  pub row : shown.row ≡ job
  pub status : HasJobStatus rows shown.id job shown.status

-- A reply to the read of a job shows the job that is there, as it is, and its status: a stopped job is dead, and any
-- other is running if it has a live allocation and pending if it has none. The reply has the namespace's index.
abbrev pub JobIsShown : Type 0
JobIsShown = (ns : Name) (secret : Option Name) (id : Name) (s s' : State) (reply : Reply) →
    IsMade (Step.Ask ns secret (AskCommand.ReadJob id)) s reply s' →
    ShowsOf ns s reply (λ t. ShowsOne t.jobs id (λ shown. shown.id) (ShowsJob ns t) Content.Job)

-- A reply to the list of jobs shows exactly the jobs of the namespace whose ids begin with the prefix, as they are and
-- with their statuses, by id, each once.
abbrev pub JobsAreListed : Type 0
JobsAreListed = (ns : Name) (secret : Option Name) (prefix : Name) (s s' : State) (reply : Reply) →
    IsMade (Step.Ask ns secret (AskCommand.ListJobs prefix)) s reply s' →
    ShowsOf ns s reply
    (λ t. ShowsRows t.jobs (λ id _. BeginsWith prefix id) (λ shown. shown.id) (ShowsJob ns t) Content.Jobs)

-- ---- evaluations

-- the evaluation is shown as it is, with its namespace
pub record ShowsEvaluation (ns : Name) (e : Evaluation) (shown : EvaluationShown) : Type 0 where
  pub namespace : shown.namespace ≡ ns
  pub row : shown.row ≡ e

-- A reply to the read of an evaluation shows the evaluation that is there, as it is. The reply has the namespace's
-- index.
abbrev pub EvaluationIsShown : Type 0
EvaluationIsShown = (ns : Name) (secret : Option Name) (n : ℕ) (s s' : State) (reply : Reply) →
    IsMade (Step.Ask ns secret (AskCommand.ReadEvaluation n)) s reply s' →
    ShowsOf ns s reply
    (λ t. ShowsOne t.evaluations n (λ shown. shown.number) (ShowsEvaluation ns) Content.Evaluation)

-- the content is a list of exactly the evaluations of the namespace that pass
abbrev pub ListsEvaluations : Name → (ℕ → Evaluation → Type 0) → Tenant → Content → Type 0
ListsEvaluations ns Passes t =
    ShowsRows t.evaluations Passes (λ shown. shown.number) (ShowsEvaluation ns) Content.Evaluations

-- A reply to the list of evaluations shows exactly the evaluations of the namespace whose ids begin with the prefix, as
-- they are, by number, each once.
abbrev pub EvaluationsAreListed : Type 0
EvaluationsAreListed = (ns : Name) (secret : Option Name) (prefix : Name) (s s' : State) (reply : Reply) →
    IsMade (Step.Ask ns secret (AskCommand.ListEvaluations prefix)) s reply s' →
    ShowsOf ns s reply (ListsEvaluations ns (λ n _. BeginsWith prefix (id_text IdKind.Evaluation n)))

-- A reply to the list of a job's evaluations shows exactly the evaluations of the namespace that are of the job, as
-- they are, by number, each once.
abbrev pub JobEvaluationsAreListed : Type 0
JobEvaluationsAreListed = (ns : Name) (secret : Option Name) (id : Name) (s s' : State) (reply : Reply) →
    IsMade (Step.Ask ns secret (AskCommand.JobEvaluations id)) s reply s' →
    ShowsOf ns s reply (ListsEvaluations ns (λ _ e. e.job ≡ id))

-- ---- allocations

-- the allocation is shown as it is, with its namespace
pub record ShowsAllocation (ns : Name) (a : Allocation) (shown : AllocationShown) : Type 0 where
  pub namespace : shown.namespace ≡ ns
  pub row : shown.row ≡ a

-- A reply to the read of an allocation shows the allocation that is there, as it is. The reply has the namespace's
-- index.
abbrev pub AllocationIsShown : Type 0
AllocationIsShown = (ns : Name) (secret : Option Name) (n : ℕ) (s s' : State) (reply : Reply) →
    IsMade (Step.Ask ns secret (AskCommand.ReadAllocation n)) s reply s' →
    ShowsOf ns s reply
    (λ t. ShowsOne t.allocations n (λ shown. shown.number) (ShowsAllocation ns) Content.Allocation)

-- the content is a list of exactly the allocations of the namespace that pass
abbrev pub ListsAllocations : Name → (ℕ → Allocation → Type 0) → Tenant → Content → Type 0
ListsAllocations ns Passes t =
    ShowsRows t.allocations Passes (λ shown. shown.number) (ShowsAllocation ns) Content.Allocations

-- A reply to the list of allocations shows exactly the allocations of the namespace whose ids begin with the prefix, as
-- they are, by number, each once.
abbrev pub AllocationsAreListed : Type 0
AllocationsAreListed = (ns : Name) (secret : Option Name) (prefix : Name) (s s' : State) (reply : Reply) →
    IsMade (Step.Ask ns secret (AskCommand.ListAllocations prefix)) s reply s' →
    ShowsOf ns s reply (ListsAllocations ns (λ n _. BeginsWith prefix (id_text IdKind.Allocation n)))

-- A reply to the list of a job's allocations shows exactly the allocations of the namespace that are of the job, live
-- or not, as they are, by number, each once.
abbrev pub JobAllocationsAreListed : Type 0
JobAllocationsAreListed = (ns : Name) (secret : Option Name) (id : Name) (s s' : State) (reply : Reply) →
    IsMade (Step.Ask ns secret (AskCommand.JobAllocations id)) s reply s' →
    ShowsOf ns s reply (ListsAllocations ns (λ _ a. a.job ≡ id))

-- ---- namespaces, and their events

-- A reply to the read of a namespace shows its name and its record as it is. The reply has the namespace's index.
abbrev pub NamespaceIsShown : Type 0
NamespaceIsShown = (ns : Name) (secret : Option Name) (s s' : State) (reply : Reply) →
    IsMade (Step.Ask ns secret AskCommand.ReadNamespace) s reply s' →
    ShowsOf ns s reply (λ t content. content ≡ Content.Namespace (record { name = ns; row = t.namespace }))

-- the content is the list of exactly the namespace's events from that index on, in their order
pub record ShowsEvents (ns : Name) (index : ℕ) (rows : Tenant) (content : Content) : Type 0 where
  pub shown : List Event
  pub answered : content ≡ Content.Events ns shown
  pub in_order : IsSublist shown rows.events
  pub no_older : Each (λ event. index ≤ event.index) shown
  pub all : (event : Event) → Contains rows.events event → index ≤ event.index → Contains shown event

-- A reply to the read of events shows exactly the kept events of the namespace whose index is at least the one that the
-- request names, in their order.
abbrev pub EventsAreListed : Type 0
EventsAreListed = (ns : Name) (secret : Option Name) (index : ℕ) (s s' : State) (reply : Reply) →
    IsMade (Step.Ask ns secret (AskCommand.Events index)) s reply s' → ShowsOf ns s reply (ShowsEvents ns index)

-- A reply to the list of namespaces shows exactly the records of those namespaces whose record the same secret may
-- read, by name, each once.
abbrev pub NamespacesAreListed : Type 0
NamespacesAreListed = (secret : Option Name) (s s' : State) (reply : Reply) →
    IsMade (Step.Admin secret AdminCommand.ListNamespaces) s reply s' →
    ShowsRows s.world.tenants (λ ns _. IsTrue (is_allowed (Step.Ask ns secret AskCommand.ReadNamespace) s.acl))
    (λ shown. shown.name) (λ t (shown : NamespaceShown). shown.row ≡ t.namespace) Content.Namespaces reply.content

-- ---- quotas

-- the live allocations of all namespaces that name the quota
abbrev pub counted_in : World → Name → List Allocation
counted_in w quota = flat_map (λ t. filter is_live (values t.1.allocations))
    (filter (λ t. names_quota quota t.1.namespace) (entries w.tenants))

-- A reply to the read of a quota's usage is about a quota that the namespace names. It shows what the live allocations
-- of all namespaces that name the quota take together.
abbrev pub UsageIsOfLive : Type 0
UsageIsOfLive = (ns : Name) (secret : Option Name) (quota : Name) (s s' : State) (reply : Reply) →
    IsMade (Step.Ask ns secret (AskCommand.QuotaUsage quota)) s reply s' →
    ShowsOf ns s reply (λ t content. (t.namespace.quota ≡ Some quota)
    × (content ≡ Content.Usage quota (total (λ a. a.size) (counted_in s.world quota))))

-- A reply to the read of a quota shows the record of the quota that is there, as it is.
abbrev pub QuotaIsShown : Type 0
QuotaIsShown = (secret : Option Name) (name : Name) (s s' : State) (reply : Reply) →
    IsMade (Step.Admin secret (AdminCommand.ReadQuota name)) s reply s' →
    ShowsOne s.world.quotas name (λ shown. shown.name) (λ q (shown : QuotaShown). shown.row ≡ q.quota) Content.Quota
    reply.content

-- A reply to the list of quotas shows exactly the quotas that are there, as they are, by name, each once.
abbrev pub QuotasAreListed : Type 0
QuotasAreListed = (secret : Option Name) (s s' : State) (reply : Reply) →
    IsMade (Step.Admin secret AdminCommand.ListQuotas) s reply s' →
    ShowsRows s.world.quotas All (λ shown. shown.name) (λ q (shown : QuotaShown). shown.row ≡ q.quota) Content.Quotas
    reply.content

-- ---- policies

-- A reply to the read of a policy shows the policy that is there, as it is.
abbrev pub PolicyIsShown : Type 0
PolicyIsShown = (secret : Option Name) (name : Name) (s s' : State) (reply : Reply) →
    IsMade (Step.Admin secret (AdminCommand.ReadPolicy name)) s reply s' →
    ShowsOne s.acl.policies name (λ shown. shown.name) (λ policy (shown : PolicyShown). shown.row ≡ policy)
    Content.Policy reply.content

-- ---- pools and nodes

-- A reply to the read of a pool shows the record of the pool that is there, as it is.
abbrev pub PoolIsShown : Type 0
PoolIsShown = (pool : Name) (secret : Option Name) (s s' : State) (reply : Reply) →
    IsMade (Step.Node pool secret NodeCommand.ReadPool) s reply s' →
    ShowsOne s.world.pools pool (λ shown. shown.name) (λ p (shown : PoolShown). shown.row ≡ p.pool) Content.Pool
    reply.content

-- A reply to the list of pools shows exactly the records of those pools whose record the same secret may read, by name,
-- each once.
abbrev pub PoolsAreListed : Type 0
PoolsAreListed = (secret : Option Name) (s s' : State) (reply : Reply) →
    IsMade (Step.Admin secret AdminCommand.ListPools) s reply s' →
    ShowsRows s.world.pools (λ pool _. IsTrue (is_allowed (Step.Node pool secret NodeCommand.ReadPool) s.acl))
    (λ shown. shown.name) (λ p (shown : PoolShown). shown.row ≡ p.pool) Content.Pools reply.content

-- the live allocations of all namespaces on the node
abbrev pub running_on : World → Name → Name → List Allocation
running_on w pool node = flat_map (λ t. filter (is_live_on pool node) (values t.1.allocations)) (entries w.tenants)

-- the node is shown as it is, with its pool, and with what the live allocations on it take together
pub record ShowsNode (w : World) (pool : Name) (node : Node) (shown : NodeShown) : Type 0 where
  pub in_pool : shown.pool ≡ pool
  pub row : shown.row ≡ node
  pub used : shown.used ≡ total (λ a. a.size) (running_on w pool shown.name)

-- A reply to the list of a pool's nodes shows exactly the nodes of the pool that is there, as they are, by name, each
-- once. Of each it shows what the live allocations of all namespaces on the node take together.
abbrev pub NodesAreListed : Type 0
NodesAreListed = (pool : Name) (secret : Option Name) (s s' : State) (reply : Reply) →
    IsMade (Step.Node pool secret NodeCommand.ListNodes) s reply s' →
    (rows : PoolRows) × (get s.world.pools pool ≡ Some rows)
    × ShowsRows rows.nodes All (λ shown. shown.name) (ShowsNode s.world pool) Content.Nodes reply.content
