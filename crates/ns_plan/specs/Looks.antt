-- What a plan is checked against: look-ups of the present state, whose sums can be counted.
use Rattle.std.specs.Prelude.{◌≡◌, ℕ, ◌<◌, ◌≤◌, Bool, List, Option, Some, None, if◌then◌else◌, length, slice_get}
use Rattle.std.specs.List.{All}
use Rattle.std.specs.FinMap.{get}
use Rattle.std.specs.Option.{option_and_then, option_map_or}
use Rattle.ns_types.specs.State.Resources.{IsCounted}
use Rattle.ns_types.specs.declared.allocation.Allocation.{Allocation}
use Rattle.ns_types.specs.declared.job.Job.{Job}
use Rattle.ns_types.specs.declared.plan.Plan.{Plan}
use Rattle.ns_types.specs.declared.resources.Limits.{Limits}
use Rattle.ns_types.specs.declared.snapshot.PoolNode.{PoolNode}
use Rattle.ns_types.specs.declared.snapshot.Snapshot.{Snapshot}
use Rattle.ns_types.specs.State.Names.{Key, Name}
use Rattle.ns_types.specs.State.Resources.{limits_in, unlimited}
use Rattle.ns_types.specs.State.Rows.{Tenant, World, allocation_at, is_live}
use Rattle.ns_types.specs.State.Sums.{node_load, quota_use}
use Rattle.ns_types.specs.Working.Commit.{Checked, commit}

abbrev pub job_at : World → Name → Name → Option Job
job_at w ns id = option_and_then (λ t. get t.jobs id) (get w.tenants ns)

-- the quota's limits; a quota that does not exist limits nothing
abbrev pub limits_of : World → Name → Limits
limits_of w quota = option_map_or (λ rows. limits_in rows.quota.limits) (get w.quotas quota) unlimited

-- the load of each node and the use of each quota can be counted in 64 bits, whether the node or quota exists or not
pub record AreCounted (w : World) : Type 0 where
  pub load : (pool node : Name) → IsCounted (node_load w pool node)
  pub used : (quota : Name) → IsCounted (quota_use w quota)

-- each placement is on a node of the snapshot, which has at most as many nodes as a pool may have, and none of them
-- twice
pub record IsOnFewNodes (kept : Snapshot) (p : Plan) : Type 0 where
  pub few : length kept.nodes ≤ 1000
  pub once : (i j : ℕ) (m n : PoolNode) → slice_get kept.nodes i ≡ Some m → slice_get kept.nodes j ≡ Some n →
      m.name ≡ n.name → i ≡ j
  pub inside : All (λ placement. placement.node < length kept.nodes) p.placing.placements

-- the allocation, if it is live
abbrev pub if_live : Option Allocation → Option Allocation
if_live None = None
if_live (Some a) = if is_live a then Some a else None

abbrev pub live_at : World → Key → Option Allocation
live_at w key = if_live (allocation_at w key)

-- whether a plan is refused; the places of the nodes that do their part of it, and of those that do not
pub record Decision : Type 0 where
  pub is_refused : Bool
  pub committed : List ℕ
  pub dropped : List ℕ

abbrev pub decision_of : Checked → Decision
decision_of c = record { is_refused = c.is_refused; committed = c.committed; dropped = c.dropped }

-- the decision is that of the model in this state, if the snapshot's namespace exists
abbrev pub IsChecked : Snapshot → Plan → World → Decision → Type 0
IsChecked kept p w decision = (t : Tenant) → get w.tenants kept.namespace ≡ Some t →
    decision ≡ decision_of (commit kept p w t).checked

-- the keys are those of the victims, if these are the nodes that do their part
abbrev pub AreVictims : Snapshot → Plan → World → List ℕ → List Key → Type 0
AreVictims kept p w committed keys = (t : Tenant) → get w.tenants kept.namespace ≡ Some t →
    committed ≡ (commit kept p w t).checked.committed → keys ≡ (commit kept p w t).checked.victims
