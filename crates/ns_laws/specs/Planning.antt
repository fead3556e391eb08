-- Laws of plans: what the plan of a snapshot stops, places and evicts, and what Apply does of it.
use Rattle.std.specs.Prelude.{◌≡◌, ◌≢◌, ◌⊎◌, ◌↔◌, ℕ, ◌+◌, ◌-◌, ◌<◌, ◌≤◌, ◌==◌, ◌&&◌, Bool, true, false, List}
use Rattle.std.specs.Prelude.{[], ◌∷◌, ◌++◌, Some, None, Ok, IsFalse, IsTrue, count_by, filter, length, map, not}
use Rattle.std.specs.Prelude.{slice_get, sum_by}
use Rattle.std.specs.FinMap.{get}
use Rattle.std.specs.List.{AllPairs, Contains}
use Rattle.std.specs.Str.{bytes_eq}
use Rattle.ns_types.specs.declared.allocation.Allocation.{Allocation}
use Rattle.ns_types.specs.declared.allocation.ClientStatus.TheVariants as ClientStatus
use Rattle.ns_types.specs.declared.allocation.DesiredStatus.TheVariants as DesiredStatus
use Rattle.ns_types.specs.declared.evaluation.Evaluation.{Evaluation}
use Rattle.ns_types.specs.declared.job.Group.{Group}
use Rattle.ns_types.specs.declared.job.Job.{Job}
use Rattle.ns_types.specs.declared.job.JobKind.{JobKind}
use Rattle.ns_types.specs.declared.job.Operand.{Operand}
use Rattle.ns_types.specs.declared.job.Target.{Target}
use Rattle.ns_types.specs.declared.name.NameKind.TheVariants as NameKind
use Rattle.ns_types.specs.declared.node.Node.{Node}
use Rattle.ns_types.specs.declared.node.NodeStatus.{NodeStatus}
use Rattle.ns_types.specs.declared.plan.Eviction.{Eviction}
use Rattle.ns_types.specs.declared.plan.Placement.{Placement}
use Rattle.ns_types.specs.declared.reply.Content.TheVariants as Content
use Rattle.ns_types.specs.declared.reply.Reply.{Reply}
use Rattle.ns_types.specs.declared.resources.Limit.{Limit}
use Rattle.ns_types.specs.declared.resources.Limit.TheVariants.{Unlimited, AtMost, Nothing}
use Rattle.ns_types.specs.declared.resources.Resources.{Resources}
use Rattle.ns_types.specs.declared.snapshot.LiveAllocation.{LiveAllocation}
use Rattle.ns_types.specs.declared.snapshot.OwnAllocation.{OwnAllocation}
use Rattle.ns_types.specs.declared.snapshot.PoolNode.{PoolNode}
use Rattle.ns_types.specs.declared.snapshot.QuotaSeen.{QuotaSeen}
use Rattle.ns_types.specs.declared.snapshot.Snapshot.{Snapshot}
use Rattle.ns_types.specs.declared.step.Step.{Step}
use Rattle.ns_types.specs.Placing.Constraint.{attribute_of}
use Rattle.ns_types.specs.Placing.Placement.{Candidate, fits}
use Rattle.ns_types.specs.Placing.Plan.{plan}
use Rattle.ns_types.specs.Placing.Planning.{Choice}
use Rattle.ns_types.specs.Placing.Preemption.{evictable, victims}
use Rattle.ns_types.specs.State.Lists.{Each}
use Rattle.ns_types.specs.State.Name.{is_name}
use Rattle.ns_types.specs.State.Names.{Key, Name, has_name, has_number}
use Rattle.ns_types.specs.State.Resources.{Resource, limit_on, limits_in, quantity}
use Rattle.ns_types.specs.State.Rows.{State, Tenant, World, node_at, QuotaRows, is_live, is_done, allocation_at}
use Rattle.ns_types.specs.State.Rows.{evaluation_at}
use Rattle.ns_types.specs.State.Sums.{quota_use}
use Rattle.ns_types.specs.Steps.{Answer, Run, after, opening, said}
use Rattle.ns_types.specs.Validity.{IsLiveAt, IsValid}
use Rattle.ns_types.specs.Within.{IsGoodStep}
use Rattle.ns_types.specs.Working.Looks.{worker_at}
use Rattle.ns_types.specs.Working.Worker.{Worker}
use Rattle.ns_laws.specs.Ending.{IsPlannedEviction, IsSameAllocation}
use Rattle.ns_laws.specs.Placement.{IsChoice}

-- ---- where a plan places, and what

-- the node with that name has this value for the target of a constraint: its class, its name, or the value of an
-- attribute
abbrev pub HasValue : Name → Node → Target → Name → Type 0
HasValue name node Target.NodeClass value = node.offer.class ≡ value
HasValue name node Target.NodeName value = name ≡ value
HasValue name node (Target.Attribute key) value = attribute_of node key ≡ Some value

-- the node has the value that a constraint names, or does not have it, as the operand says
abbrev pub Meets : Name → Node → Operand → Target → Name → Type 0
Meets name node Operand.Equal target value = HasValue name node target value
Meets name node Operand.NotEqual target value = HasValue name node target value → ⊥

-- the node is ready and eligible, and meets every constraint of the job
pub record IsFit (job : Job) (name : Name) (node : Node) : Type 0 where
  pub ready : node.status ≡ NodeStatus.Ready
  pub eligible : node.eligible ≡ true
  pub constraints : Each (λ c. Meets name node c.operand c.target c.value) job.document.constraints

-- the placement is of a task group of the job. It has that group's size: the CPU and the memory of its tasks
-- together, and the group's disk once
pub record IsOfGroup (job : Job) (p : Placement) : Type 0 where
  pub group : Group
  pub is_group : slice_get job.document.groups p.group ≡ Some group
  pub cpu : p.size.cpu ≡ sum_by (λ t. t.resources.cpu) group.tasks
  pub memory : p.size.memory ≡ sum_by (λ t. t.resources.memory) group.tasks
  pub disk : p.size.disk ≡ group.disk

-- the placement is on a node of the snapshot that is ready and eligible and meets every constraint of the job
pub record IsOnFitNode (s : Snapshot) (job : Job) (p : Placement) : Type 0 where
  pub node : PoolNode
  pub is_node : slice_get s.nodes p.node ≡ Some node
  pub fit : IsFit job node.name node.row

-- the job of the snapshot is not stopped, and this holds of it
pub record OfRunningJob (s : Snapshot) (Holds : Job → Type 0) : Type 0 where
  pub job : Job
  pub is_job : s.job ≡ Some job
  pub to_run : job.stop ≡ false
  pub holds : Holds job

-- Each placement of a plan is of a task group of the job, which is not stopped, and has that group's size.
abbrev pub PlacesGroups : Type 0
PlacesGroups = (s : Snapshot) → Each (λ p. OfRunningJob s (λ job. IsOfGroup job p)) (plan s).placing.placements

-- Each placement of a plan is on a node of the snapshot that is ready and eligible and meets every constraint of the
-- job.
abbrev pub PlacesOnFitNodes : Type 0
PlacesOnFitNodes = (s : Snapshot) →
    Each (λ p. OfRunningJob s (λ job. IsOnFitNode s job p)) (plan s).placing.placements

-- ---- how much a plan places

-- the allocation is of that group, and was made for the present version of the job
abbrev pub is_of_group : Job → Group → OwnAllocation → Bool
is_of_group job group a = a.row.job_modify_index == job.modify_index && bytes_eq a.row.group group.name

-- how many allocations of the group are live, of those made for the present version of the job
abbrev pub running : Job → Group → List OwnAllocation → ℕ
running job group own = count_by (λ a. is_live a.row && is_of_group job group a) own

-- how many allocations of the group completed and are not placed again: those of a batch job, made for its present
-- version. A service job places completed ones again
abbrev pub completed : JobKind → Job → Group → List OwnAllocation → ℕ
completed JobKind.Service job group own = 0
completed JobKind.Batch job group own = count_by (λ a. is_done a.row && is_of_group job group a) own

-- how many placements of the plan are of the group at that place in the job
abbrev pub placed_of : Snapshot → ℕ → ℕ
placed_of s place = count_by (λ p. p.group == place) (plan s).placing.placements

-- those that run, those that completed and those that the plan places come to at most the group's count if the plan
-- places any; and to at least the count if the plan reports no limit
pub record FillsUp (s : Snapshot) (count present placed : ℕ) : Type 0 where
  pub at_most : 0 < placed → present + placed ≤ count
  pub at_least : (plan s).placing.quota_limited ≡ false → (plan s).placing.class_limited ≡ false →
      count ≤ present + placed

-- A plan for a job that is not stopped brings no task group above its count. Unless the plan reports a limit, the
-- quota or that no node could take an allocation, each group has its count: the allocations that run, those of a
-- batch job that completed, and those that the plan places.
abbrev pub FillsGroups : Type 0
FillsGroups = (s : Snapshot) (job : Job) (place : ℕ) (group : Group) → s.job ≡ Some job → job.stop ≡ false →
    slice_get job.document.groups place ≡ Some group →
    FillsUp s group.count (running job group s.own + completed job.document.kind job group s.own) (placed_of s place)

-- the job is not stopped, and a task group of it stays below its count
pub record StaysShort (s : Snapshot) : Type 0 where
  pub job : Job
  pub is_job : s.job ≡ Some job
  pub to_run : job.stop ≡ false
  pub place : ℕ
  pub group : Group
  pub is_group : slice_get job.document.groups place ≡ Some group
  pub short : running job group s.own + completed job.document.kind job group s.own + placed_of s place < group.count

-- what a plan reports as its limit
pub record HasRealLimit (s : Snapshot) : Type 0 where
  pub one : (plan s).placing.quota_limited ≡ true → (plan s).placing.class_limited ≡ false
  pub quota : (plan s).placing.quota_limited ≡ true → s.quota ≢ None
  pub short : ((plan s).placing.quota_limited ≡ true) ⊎ ((plan s).placing.class_limited ≡ true) → StaysShort s

-- A plan reports at most one limit: the quota, which the snapshot has then, or that no node could take an allocation.
-- It reports a limit only if some task group of the job stays below its count.
abbrev pub LimitsAreReal : Type 0
LimitsAreReal = (s : Snapshot) → HasRealLimit s

-- ---- on which nodes a plan places, and in which order

-- The placements of a plan come in the order of the job's task groups.
abbrev pub PlacesInOrder : Type 0
PlacesInOrder = (s : Snapshot) → AllPairs (λ p q. p.group ≤ q.group) (plan s).placing.placements

-- the plan stops the allocation: it is of the snapshot's namespace, and its number is among the stops
abbrev pub is_stopped : Snapshot → LiveAllocation → Bool
is_stopped s a = bytes_eq a.namespace s.namespace && has_number (plan s).stops a.number

-- The node as the plan begins, without the allocations that the plan stops. The job may use it exactly if it is fit.
-- What is left is its capacity without what its live allocations take. Some of these may be evicted.
pub record IsNodeAtFirst (s : Snapshot) (job : Job) (node : PoolNode) (c : Candidate) : Type 0 where
  pub name : c.name ≡ node.name
  pub fit : (c.feasible ≡ true) ↔ IsFit job node.name node.row
  pub left : (r : Resource) → quantity r c.left ≡ quantity r node.row.offer.capacity
      - sum_by (λ a. quantity r a.size) (filter (λ a. not (is_stopped s a)) node.live)
  pub evictable : c.evictable ≡ filter (λ a. not (is_stopped s a)) (evictable job.document.priority node.live)

-- they are the nodes of the snapshot, each at its place, as the plan begins
pub record AreNodesAtFirst (s : Snapshot) (job : Job) (nodes : List Candidate) : Type 0 where
  pub count : length nodes ≡ length s.nodes
  pub each : (k : ℕ) (node : PoolNode) (c : Candidate) → slice_get s.nodes k ≡ Some node →
      slice_get nodes k ≡ Some c → IsNodeAtFirst s job node c

-- the node once these victims, the first that may be evicted there, are gone, and the size is taken
pub record TakesSize (size : Resources) (victims : List LiveAllocation) (was is : Candidate) : Type 0 where
  pub name : is.name ≡ was.name
  pub feasible : is.feasible ≡ was.feasible
  pub left : (r : Resource) → quantity r is.left + quantity r size
      ≡ quantity r was.left + sum_by (λ a. quantity r a.size) victims
  pub evictable : was.evictable ≡ victims ++ is.evictable

-- the eviction of a victim
abbrev pub eviction_of : LiveAllocation → Eviction
eviction_of a = record { namespace = a.namespace; number = a.number; priority = a.priority }

-- of the nodes only the chosen one changes
pub record LeavesNodes (size : Resources) (chosen : Choice) (nodes next : List Candidate) : Type 0 where
  pub was : Candidate
  pub was_there : slice_get nodes chosen.node ≡ Some was
  pub is : Candidate
  pub is_there : slice_get next chosen.node ≡ Some is
  pub takes : TakesSize size chosen.victims was is
  pub others : (k : ℕ) → k ≢ chosen.node → slice_get next k ≡ slice_get nodes k

-- an allocation of some task group of the job has that size
pub record IsGroupSize (job : Job) (size : Resources) : Type 0 where
  pub place : ℕ
  pub group : Group
  pub is_group : slice_get job.document.groups place ≡ Some group
  pub cpu : size.cpu ≡ sum_by (λ t. t.resources.cpu) group.tasks
  pub memory : size.memory ≡ sum_by (λ t. t.resources.memory) group.tasks
  pub disk : size.disk ≡ group.disk

-- The placements come one after another, from the nodes as they are. Each is by the choice on the nodes, and leaves
-- them for the next. An allocation is left out where no node has room for it and no node has victims. The last of the
-- arguments says whether one is left out.
pub data PlacesInTurn (job : Job) : List Candidate → List Placement → Bool → Type 0 where
  ends : (nodes : List Candidate) → PlacesInTurn job nodes [] false
  leaves_out : (nodes : List Candidate) (placements : List Placement) (left_out : Bool) (size : Resources) →
      IsGroupSize job size → Each (λ node. IsFalse (fits size node) × (victims size node ≡ None)) nodes →
      PlacesInTurn job nodes placements left_out → PlacesInTurn job nodes placements true
  places : (nodes next : List Candidate) (p : Placement) (placements : List Placement) (left_out : Bool)
      (chosen : Choice) → IsChoice p.size nodes chosen → p.node ≡ chosen.node →
      p.evictions ≡ map eviction_of chosen.victims → LeavesNodes p.size chosen nodes next →
      PlacesInTurn job next placements left_out → PlacesInTurn job nodes (p ∷ placements) left_out

pub record IsPlacedByChoice (s : Snapshot) (job : Job) : Type 0 where
  pub nodes : List Candidate
  pub at_first : AreNodesAtFirst s job nodes
  pub left_out : Bool
  pub in_turn : PlacesInTurn job nodes (plan s).placing.placements left_out
  pub reported : (plan s).placing.quota_limited ≡ false → (plan s).placing.class_limited ≡ left_out

-- A plan for a job that is not stopped places one allocation after another. Each goes to the best node with room. If no
-- node has room, it goes to the node whose victims cost least, and evicts these, as the laws of placement say. For the
-- first placement, what is left of a node is its capacity without what its live allocations take that the plan does not
-- stop. Each placement takes its size from its node, and its victims are gone there. A plan that does not report the
-- quota as its limit reports that no node could take an allocation exactly if it leaves one out: when its turn came, no
-- node had room for it, and no node had victims.
abbrev pub PlacesByChoice : Type 0
PlacesByChoice = (s : Snapshot) (job : Job) → s.job ≡ Some job → job.stop ≡ false → IsPlacedByChoice s job

-- ---- what a plan stops

-- the allocation was made for an earlier version of the job, or it is of a group with more allocations than its count
pub data IsNotWanted (s : Snapshot) (job : Job) (a : OwnAllocation) : Type 0 where
  outdated : a.row.job_modify_index ≢ job.modify_index → IsNotWanted s job a
  surplus : (place : ℕ) (group : Group) → slice_get job.document.groups place ≡ Some group → a.row.group ≡ group.name →
      group.count < running job group s.own + completed job.document.kind job group s.own → IsNotWanted s job a

-- a live allocation of the job has that number, and a job that is not stopped does not want it
pub record IsToStop (s : Snapshot) (n : ℕ) : Type 0 where
  pub place : ℕ
  pub row : OwnAllocation
  pub is_row : slice_get s.own place ≡ Some row
  pub number : row.number ≡ n
  pub live : IsTrue (is_live row.row)
  pub not_wanted : (job : Job) → s.job ≡ Some job → job.stop ≡ false → IsNotWanted s job row

-- A plan stops only live allocations of its job. If the job is not stopped, each of them was made for an earlier
-- version of the job, or is of a task group that has more allocations than its count.
abbrev pub StopsNotWanted : Type 0
StopsNotWanted = (s : Snapshot) → Each (IsToStop s) (plan s).stops

-- A plan for a job that is not stopped stops every live allocation that was made for an earlier version of the job.
abbrev pub StopsOutdated : Type 0
StopsOutdated = (s : Snapshot) (job : Job) → s.job ≡ Some job → job.stop ≡ false →
    Each (λ a. is_live a.row ≡ true → a.row.job_modify_index ≢ job.modify_index →
    has_number (plan s).stops a.number ≡ true) s.own

-- A plan for a job that is gone or stopped places nothing, and stops all live allocations of the job.
abbrev pub EndedJobStops : Type 0
EndedJobStops = (s : Snapshot) → ((job : Job) → s.job ≡ Some job → job.stop ≡ true) →
    ((plan s).placing.placements ≡ []) × ((plan s).stops ≡ map (λ a. a.number) (filter (λ a. is_live a.row) s.own))

-- ---- what a plan evicts

-- the eviction is of an allocation that is live on the node, has a priority lower than the job's by 10 or more, and
-- is none that the plan stops
pub record IsOutranked (s : Snapshot) (job : Job) (node : PoolNode) (e : Eviction) : Type 0 where
  pub place : ℕ
  pub row : LiveAllocation
  pub is_row : slice_get node.live place ≡ Some row
  pub namespace : e.namespace ≡ row.namespace
  pub number : e.number ≡ row.number
  pub priority : e.priority ≡ row.priority
  pub lower : e.priority + 10 ≤ job.document.priority
  pub not_stopped : e.namespace ≡ s.namespace → Each (λ n. n ≢ e.number) (plan s).stops

-- what the placement evicts
pub record EvictsOutranked (s : Snapshot) (job : Job) (p : Placement) : Type 0 where
  pub node : PoolNode
  pub is_node : slice_get s.nodes p.node ≡ Some node
  pub evicted : Each (IsOutranked s job node) p.evictions

-- Each allocation that a plan evicts is live on the node of the placement that evicts it, and its priority is lower
-- than the job's by 10 or more. The plan does not stop it as well.
abbrev pub EvictsLowerOnly : Type 0
EvictsLowerOnly = (s : Snapshot) →
    Each (λ p. OfRunningJob s (λ job. EvictsOutranked s job p)) (plan s).placing.placements

-- ---- how much room a plan takes

-- the placements of the plan on the node at that place in the snapshot
abbrev pub placed_at : Snapshot → ℕ → List Placement
placed_at s place = filter (λ p. p.node == place) (plan s).placing.placements

-- Take a node of the snapshot that has room for its live allocations, and from which the plan evicts nothing. It has
-- room for those that the plan does not stop together with those that the plan places there, in each resource.
abbrev pub PlansWithinCapacity : Type 0
PlansWithinCapacity = (s : Snapshot) (place : ℕ) (node : PoolNode) (r : Resource) →
    slice_get s.nodes place ≡ Some node →
    sum_by (λ a. quantity r a.size) node.live ≤ quantity r node.row.offer.capacity →
    Each (λ p. p.evictions ≡ []) (placed_at s place) →
    sum_by (λ a. quantity r a.size) (filter (λ a. not (is_stopped s a)) node.live)
    + sum_by (λ p. quantity r p.size) (placed_at s place) ≤ quantity r node.row.offer.capacity

-- the limit allows the amount
abbrev pub Allows : Limit → ℕ → Type 0
Allows Unlimited amount = Unit {0}
Allows (AtMost most) amount = amount ≤ most
Allows Nothing amount = ⊥

-- A plan places something, and stops and evicts nothing. Then the limits of the quota that the snapshot has allow
-- what was in use together with what the plan places, in each resource.
abbrev pub PlansWithinQuota : Type 0
PlansWithinQuota = (s : Snapshot) (quota : QuotaSeen) (r : Resource) → s.quota ≡ Some quota →
    (plan s).placing.placements ≢ [] → (plan s).stops ≡ [] → Each (λ p. p.evictions ≡ []) (plan s).placing.placements →
    Allows (limit_on r quota.limits)
    (quantity r quota.used + sum_by (λ p. quantity r p.size) (plan s).placing.placements)

-- an allocation of some task group is over the quota: the limits do not allow, in some resource, what was in use
-- together with what the plan places and with that allocation
pub record IsOverQuota (s : Snapshot) (quota : QuotaSeen) : Type 0 where
  pub job : Job
  pub is_job : s.job ≡ Some job
  pub size : Resources
  pub is_size : IsGroupSize job size
  pub resource : Resource
  pub over : Allows (limit_on resource quota.limits) (quantity resource quota.used
      + sum_by (λ p. quantity resource p.size) (plan s).placing.placements + quantity resource size) → ⊥

-- A plan reports the quota as its limit, and stops and evicts nothing. Then an allocation of some task group of the job
-- is over the quota: the limits that the snapshot has do not allow, in some resource, what was in use together with
-- what the plan places and with that allocation.
abbrev pub QuotaEndsPlan : Type 0
QuotaEndsPlan = (s : Snapshot) (quota : QuotaSeen) → s.quota ≡ Some quota → (plan s).placing.quota_limited ≡ true →
    (plan s).stops ≡ [] → Each (λ p. p.evictions ≡ []) (plan s).placing.placements → IsOverQuota s quota

-- ---- what Apply does

-- In a valid state, Apply places an allocation for a namespace that names a quota. After the step, the limits of the
-- quota allow what it has in use, in each resource: what the live allocations of all namespaces that name it take
-- together.
abbrev pub KeepsToQuota : Type 0
KeepsToQuota = (s t : State) (number : ℕ) (ns : Name) (reply : Reply) (made : List ℕ) (dropped : List Name)
    (owner : Tenant) (quota : Name) (rows : QuotaRows) → IsValid s →
    after (Step.Apply number ns) s ≡ said (Ok reply) t → reply.content ≡ Content.Applied made dropped → made ≢ [] →
    get s.world.tenants ns ≡ Some owner → owner.namespace.quota ≡ Some quota → get s.world.quotas quota ≡ Some rows →
    (r : Resource) → Allows (limit_on r (limits_in rows.quota.limits)) (quantity r (quota_use t.world quota))

-- The allocation with the number n is new, and was made for the placement: it is of the placement's task group of the
-- job in the snapshot, on the placement's node, and has the placement's size. It is to run, and it is pending.
pub record IsMadeFor (kept : Snapshot) (p : Placement) (n : ℕ) (before now : Tenant) : Type 0 where
  pub is_new : get before.allocations n ≡ None
  pub row : Allocation
  pub is_row : get now.allocations n ≡ Some row
  pub job : Job
  pub is_job : kept.job ≡ Some job
  pub of_job : row.job ≡ kept.evaluation.job
  pub version : row.job_modify_index ≡ job.modify_index
  pub priority : row.priority ≡ job.document.priority
  pub group : Group
  pub is_group : slice_get job.document.groups p.group ≡ Some group
  pub of_group : row.group ≡ group.name
  pub node : PoolNode
  pub is_node : slice_get kept.nodes p.node ≡ Some node
  pub on_node : row.node ≡ node.name
  pub in_pool : row.pool ≡ kept.pool
  pub size : row.size ≡ p.size
  pub to_run : row.desired ≡ DesiredStatus.Run
  pub pending : row.client ≡ ClientStatus.Pending

-- the node at that place in the snapshot is there in the state s, and the job of the snapshot may use it as it is
-- there
pub record IsFitNow (s : State) (kept : Snapshot) (place : ℕ) : Type 0 where
  pub seen : PoolNode
  pub is_seen : slice_get kept.nodes place ≡ Some seen
  pub node : Node
  pub is_there : node_at s.world kept.pool seen.name ≡ Some node
  pub fit : (job : Job) → kept.job ≡ Some job → IsFit job seen.name node

-- all placements of the plan on a node are done, or none of them
pub record IsDoneByNode (s : State) (kept : Snapshot) (made : List ℕ) (dropped : List Name)
    (before now : Tenant) : Type 0 where
  -- whether the placements on the node at that place in the snapshot are done
  pub does : ℕ → Bool
  pub fit : Each (λ p. does p.node ≡ true → IsFitNow s kept p.node) (plan kept).placing.placements
  pub count : length made ≡ length (filter (λ p. does p.node) (plan kept).placing.placements)
  pub each_made : (i : ℕ) (p : Placement) →
      slice_get (filter (λ p. does p.node) (plan kept).placing.placements) i ≡ Some p →
      (n : ℕ) × (slice_get made i ≡ Some n) × IsMadeFor kept p n before now
  pub last : now.allocation_number ≡ before.allocation_number + length made
  -- the reply names each node whose placements are not done
  pub others_named : Each (λ p. does p.node ≡ false → (seen : PoolNode) → slice_get kept.nodes p.node ≡ Some seen →
      has_name dropped seen.name ≡ true) (plan kept).placing.placements

-- In a valid state, Apply does, for each node of the snapshot, all placements of the plan there or none of them. It
-- does them only if the node is still ready and eligible and meets every constraint of the job. The placements that it
-- does become new allocations, in the order of the plan. The reply has the numbers of these, and no other number is
-- given out. It also has the names of the nodes whose placements are not done.
abbrev pub AppliesByNode : Type 0
AppliesByNode = (s t : State) (number : ℕ) (ns : Name) (worker : Worker) (kept : Snapshot) (reply : Reply)
    (made : List ℕ) (dropped : List Name) (before now : Tenant) → IsValid s →
    after (Step.Apply number ns) s ≡ said (Ok reply) t → reply.content ≡ Content.Applied made dropped →
    get s.world.tenants ns ≡ Some before → get t.world.tenants ns ≡ Some now →
    get before.workers number ≡ Some worker → worker.kept ≡ Some kept → IsDoneByNode s kept made dropped before now

-- ---- whose allocations Apply ends

-- The allocation is there in the namespace under its number, and it is of the job. All but its statuses and its modify
-- index is as it was in the snapshot.
pub record IsOwnStill (t : Tenant) (job : Name) (own : OwnAllocation) : Type 0 where
  pub row : Allocation
  pub is_row : get t.allocations own.number ≡ Some row
  pub of_job : row.job ≡ job
  pub same : IsSameAllocation own.row row

-- each allocation that a worker's snapshot has as the job's own is there still, and is of the job
abbrev pub SnapshotsAreOwn : World → Type 0
SnapshotsAreOwn w = (ns : Name) (t : Tenant) (number : ℕ) (worker : Worker) (kept : Snapshot) →
    get w.tenants ns ≡ Some t → get t.workers number ≡ Some worker → worker.kept ≡ Some kept →
    Each (IsOwnStill t kept.evaluation.job) kept.own

-- In every state that the server reaches from its opening state, by steps within the limits: each allocation that a
-- worker's snapshot has as its job's own is there still, under its number in the namespace. It is of that job, and all
-- but its statuses and its modify index is as it was in the snapshot. `IsValid` does not ask this of a snapshot.
abbrev pub SnapshotsKeepOwnJob : Type 0
SnapshotsKeepOwnJob = (secret : Name) (s : State) (steps : List Step) (answers : List Answer) →
    IsTrue (is_name NameKind.Secret secret) → Each IsGoodStep steps → Run (opening secret) steps answers s →
    SnapshotsAreOwn s.world

-- The allocation is one of the stops of the plan that the worker has, and it is in the worker's namespace and of the job
-- of the worker's evaluation.
pub record IsOwnStop (w : World) (number : ℕ) (ns : Name) (key : Key) (a : Allocation) : Type 0 where
  pub worker : Worker
  pub is_worker : worker_at w number ns ≡ Some worker
  pub kept : Snapshot
  pub is_kept : worker.kept ≡ Some kept
  pub is_stop : Contains (plan kept).stops key.1
  pub in_namespace : key.0 ≡ ns
  pub evaluation : Evaluation
  pub is_evaluation : evaluation_at w (ns, worker.evaluation) ≡ Some evaluation
  pub of_job : a.job ≡ evaluation.job

-- how the live allocation a becomes b, which is not live, in an Apply
pub data EndsInApply (w : World) (number : ℕ) (ns : Name) (key : Key) (a b : Allocation) : Type 0 where
  stopped : IsOwnStop w number ns key a → b.desired ≡ DesiredStatus.Stop → EndsInApply w number ns key a b
  evicted : IsPlannedEviction w (Step.Apply number ns) key a → b.desired ≡ DesiredStatus.Evict →
      EndsInApply w number ns key a b

-- In every state that the server reaches from its opening state, by steps within the limits: Apply stops an allocation
-- only if it is of the job whose plan is applied, in that job's namespace. One of another job or of another namespace
-- ends in an Apply only if the plan evicts it.
abbrev pub StopsOwnJob : Type 0
StopsOwnJob = (secret : Name) (s s' : State) (steps : List Step) (answers : List Answer) (number : ℕ) (ns : Name)
    (reply : Reply) (key : Key) (a b : Allocation) → IsTrue (is_name NameKind.Secret secret) → Each IsGoodStep steps →
    Run (opening secret) steps answers s → after (Step.Apply number ns) s ≡ said (Ok reply) s' →
    IsLiveAt s.world key a → allocation_at s'.world key ≡ Some b → is_live b ≡ false →
    EndsInApply s.world number ns key a b
