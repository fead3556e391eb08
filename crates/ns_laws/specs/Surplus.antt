-- Laws of what a plan frees: which allocations of a task group it stops, and the room that it has with its stops and
-- evictions.
use Rattle.std.specs.Prelude.{◌≡◌, ◌≢◌, ℕ, ◌+◌, ◌-◌, ◌<◌, ◌≤◌, ◌==◌, ◌&&◌, Bool, true, false, List, [], Some, Ok}
use Rattle.std.specs.Prelude.{IsTrue, filter, length, not, slice_get, sum_by}
use Rattle.std.specs.FinMap.{get}
use Rattle.std.specs.List.{AllPairs, list_any}
use Rattle.std.specs.Str.{bytes_eq}
use Rattle.ns_types.specs.declared.allocation.Allocation.{Allocation}
use Rattle.ns_types.specs.declared.evaluation.Evaluation.{Evaluation}
use Rattle.ns_types.specs.declared.job.Group.{Group}
use Rattle.ns_types.specs.declared.job.Job.{Job}
use Rattle.ns_types.specs.declared.plan.Placement.{Placement}
use Rattle.ns_types.specs.declared.reply.Content.TheVariants as Content
use Rattle.ns_types.specs.declared.reply.Reply.{Reply}
use Rattle.ns_types.specs.declared.snapshot.LiveAllocation.{LiveAllocation}
use Rattle.ns_types.specs.declared.snapshot.OwnAllocation.{OwnAllocation}
use Rattle.ns_types.specs.declared.snapshot.PoolNode.{PoolNode}
use Rattle.ns_types.specs.declared.snapshot.QuotaSeen.{QuotaSeen}
use Rattle.ns_types.specs.declared.snapshot.Snapshot.{Snapshot}
use Rattle.ns_types.specs.declared.step.Step.{Step}
use Rattle.ns_types.specs.Placing.Plan.{plan}
use Rattle.ns_types.specs.Placing.Planning.{counts_for}
use Rattle.ns_types.specs.State.Lists.{Each}
use Rattle.ns_types.specs.State.Names.{Name, has_name, has_number}
use Rattle.ns_types.specs.State.Resources.{Resource, limit_on, quantity}
use Rattle.ns_types.specs.State.Rows.{State, Tenant, is_live}
use Rattle.ns_types.specs.Steps.{after, said}
use Rattle.ns_types.specs.Validity.{IsValid}
use Rattle.ns_types.specs.Working.Snapshot.{snapshot_of}
use Rattle.ns_laws.specs.Planning.{Allows, IsNotWanted, completed, is_of_group, is_stopped, placed_at}
use Rattle.ns_laws.specs.Planning.{running}

-- ---- which allocations of a group stop

-- the job's allocations are in the order of their numbers, and no two task groups of the job have the same name
pub record IsOrderly (s : Snapshot) (job : Job) : Type 0 where
  pub by_number : AllPairs (λ a b. a.number < b.number) s.own
  pub one_name : AllPairs (λ g h. g.name ≢ h.name) job.document.groups

-- the live allocations of the group that were made for the present version of the job
abbrev pub live_of_group : Job → Group → List OwnAllocation → List OwnAllocation
live_of_group job group own = filter (λ a. is_live a.row && is_of_group job group a) own

-- the plan stops this allocation of its job
abbrev pub stops_own : Snapshot → OwnAllocation → Bool
stops_own s a = has_number (plan s).stops a.number

-- In a valid state, a snapshot of the state has the job's allocations in the order of their numbers, and no two task
-- groups of its job have the same name.
abbrev pub SnapshotsAreOrderly : Type 0
SnapshotsAreOrderly = (s : State) (ns : Name) (t : Tenant) (number : ℕ) (e : Evaluation) (job : Job) → IsValid s →
    get s.world.tenants ns ≡ Some t → (snapshot_of s.world ns t number e).job ≡ Some job →
    IsOrderly (snapshot_of s.world ns t number e) job

-- A plan for a job that is not stopped lets a task group keep as many live allocations of the job's present version as
-- the group's count, less those of a batch job that completed. It stops exactly as many as there are over that.
abbrev pub StopsSurplus : Type 0
StopsSurplus = (s : Snapshot) (job : Job) (place : ℕ) (group : Group) → IsOrderly s job →
    s.job ≡ Some job → job.stop ≡ false → slice_get job.document.groups place ≡ Some group →
    length (filter (stops_own s) (live_of_group job group s.own))
    ≡ running job group s.own - (group.count - completed job.document.kind job group s.own)

-- A plan for a job that is not stopped stops, of the live allocations of a task group that were made for the present
-- version of the job, the newest: each that it stops has a higher number than each that it does not stop.
abbrev pub StopsNewest : Type 0
StopsNewest = (s : Snapshot) (job : Job) (place : ℕ) (group : Group) → IsOrderly s job →
    s.job ≡ Some job → job.stop ≡ false → slice_get job.document.groups place ≡ Some group →
    Each (λ a. Each (λ b. stops_own s a ≡ true → stops_own s b ≡ false → b.number < a.number)
    (live_of_group job group s.own)) (live_of_group job group s.own)

-- A plan for a job that is not stopped stops no other allocation: each one of the job that it stops is live. It was
-- made for an earlier version of the job, or is of a task group that has more allocations than its count.
abbrev pub StopsNoOther : Type 0
StopsNoOther = (s : Snapshot) (job : Job) → IsOrderly s job → s.job ≡ Some job → job.stop ≡ false →
    Each (λ a. stops_own s a ≡ true → IsTrue (is_live a.row) × IsNotWanted s job a) s.own

-- ---- how much room a plan has

-- one of the placements evicts the allocation
abbrev pub is_evicted : List Placement → LiveAllocation → Bool
is_evicted placements a =
    list_any (λ p. list_any (λ e. bytes_eq e.namespace a.namespace && e.number == a.number) p.evictions) placements

-- Take a node of the snapshot that has room for its live allocations. It has room for those that the plan neither stops
-- nor evicts there, together with those that the plan places there, in each resource.
abbrev pub EvictsWithinCapacity : Type 0
EvictsWithinCapacity = (s : Snapshot) (place : ℕ) (node : PoolNode) (r : Resource) →
    slice_get s.nodes place ≡ Some node →
    sum_by (λ a. quantity r a.size) node.live ≤ quantity r node.row.offer.capacity →
    sum_by (λ a. quantity r a.size)
    (filter (λ a. not (is_stopped s a) && not (is_evicted (placed_at s place) a)) node.live)
    + sum_by (λ p. quantity r p.size) (placed_at s place) ≤ quantity r node.row.offer.capacity

-- what the allocations of the job that the plan stops take, of one resource
abbrev pub stopped_use : Snapshot → Resource → ℕ
stopped_use s r = sum_by (λ a. quantity r a.row.size) (filter (stops_own s) s.own)

-- what the allocations that the plan evicts take of the quota, of one resource: those of the namespaces that name it
abbrev pub evicted_use : Snapshot → QuotaSeen → Resource → ℕ
evicted_use s quota r = sum_by (λ n. sum_by (λ a. quantity r a.size)
    (filter (λ a. is_evicted (plan s).placing.placements a && counts_for quota a) n.live)) s.nodes

-- A plan places something. Then the limits of the quota that the snapshot has allow, in each resource, what was in use
-- together with what the plan places, less what the allocations take that it stops or evicts. Of those that it evicts,
-- only those count that are of a namespace which names the quota.
abbrev pub FreesWithinQuota : Type 0
FreesWithinQuota = (s : Snapshot) (job : Job) (quota : QuotaSeen) (r : Resource) → IsOrderly s job →
    s.job ≡ Some job → s.quota ≡ Some quota → (plan s).placing.placements ≢ [] → Allows (limit_on r quota.limits)
    (quantity r quota.used + sum_by (λ p. quantity r p.size) (plan s).placing.placements
    - (stopped_use s r + evicted_use s quota r))

-- ---- what Apply does not do

-- In a valid state, the reply to Apply has the names of the nodes whose placements are not done. None of the
-- allocations that Apply makes is on one of these nodes.
abbrev pub NamesUndoneOnly : Type 0
NamesUndoneOnly = (s t : State) (number : ℕ) (ns : Name) (reply : Reply) (made : List ℕ) (dropped : List Name)
    (now : Tenant) → IsValid s → after (Step.Apply number ns) s ≡ said (Ok reply) t →
    reply.content ≡ Content.Applied made dropped → get t.world.tenants ns ≡ Some now →
    Each (λ n. (row : Allocation) → get now.allocations n ≡ Some row → has_name dropped row.node ≡ false) made
