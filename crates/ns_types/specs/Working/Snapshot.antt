-- A worker's snapshot: the part of the state that one evaluation is planned from.
-- Nomad's page "Scheduling in Nomad".
use Rattle.std.specs.Prelude.{ℕ, Bool, false, ◌&&◌, ◌||◌, List, [], Option, Some, None, filter, map, flat_map}
use Rattle.std.specs.Prelude.{option_map}
use Rattle.std.specs.Option.{option_map_or, option_and_then}
use Rattle.std.specs.FinMap.{get, entries}
use Rattle.ns_types.specs.declared.allocation.Allocation.{Allocation}
use Rattle.ns_types.specs.declared.evaluation.Evaluation.{Evaluation}
use Rattle.ns_types.specs.declared.job.Job.{Job}
use Rattle.ns_types.specs.declared.snapshot.LiveAllocation.{LiveAllocation}
use Rattle.ns_types.specs.declared.snapshot.OwnAllocation.{OwnAllocation}
use Rattle.ns_types.specs.declared.snapshot.PoolNode.{PoolNode}
use Rattle.ns_types.specs.declared.snapshot.QuotaSeen.{QuotaSeen}
use Rattle.ns_types.specs.declared.snapshot.Snapshot.{Snapshot}
use Rattle.ns_types.specs.State.Names.{Name, same_name, same_number}
use Rattle.ns_types.specs.Placing.Wanted.{is_batch}
use Rattle.ns_types.specs.State.Lists.{by_number}
use Rattle.ns_types.specs.State.Resources.{limits_in}
use Rattle.ns_types.specs.State.Rows.{World, Tenant, is_live, is_done, is_live_on}
use Rattle.ns_types.specs.State.Sums.{names_quota, quota_use}

-- the job is a batch job, and the allocation was made for its present version and completed
abbrev pub is_done_for : Option Job → Allocation → Bool
is_done_for None a = false
is_done_for (Some job) a = is_batch job.document.kind && same_number a.job_modify_index job.modify_index && is_done a

-- the job's live allocations, and those of a batch job that completed, by number
abbrev pub own_allocations : Tenant → Name → Option Job → List OwnAllocation
own_allocations t id job = map (λ a. record { number = a.0; row = a.1 })
    (filter (λ a. same_name id a.1.job && (is_live a.1 || is_done_for job a.1)) (entries t.allocations))

-- the live allocations on a node, of all namespaces
abbrev pub allocations_on : World → Name → Name → List (Name × (ℕ × Allocation))
allocations_on w pool node = flat_map
    (λ t. map (λ a. (t.0, a)) (filter (λ a. is_live_on pool node a.1) (entries t.1.allocations))) (entries w.tenants)

abbrev pub seen_live : Name × (ℕ × Allocation) → LiveAllocation
seen_live a = record { namespace = a.0; number = a.1.0; priority = a.1.1.priority; size = a.1.1.size }

-- the live allocations on a node, in the order in which they were placed
unfoldable pub live_on : World → Name → Name → List LiveAllocation
live_on w pool node = map seen_live (by_number (λ a. a.1.1.place) (allocations_on w pool node))

-- the nodes of a pool, by name
abbrev pub nodes_of : World → Name → List PoolNode
nodes_of w pool = option_map_or (λ p. map (λ n. record { name = n.0; row = n.1; live = live_on w pool n.0 })
    (entries p.nodes)) (get w.pools pool) []

-- the namespaces that name the quota
unfoldable pub namespaces_naming : World → Name → List Name
namespaces_naming w quota = map (λ t. t.0) (filter (λ t. names_quota quota t.1.namespace) (entries w.tenants))

abbrev pub quota_seen : World → Name → Option QuotaSeen
quota_seen w name = option_map (λ q. record {
  name = name;
  limits = limits_in q.quota.limits;
  used = quota_use w name;
  release = q.release;
  namespaces = namespaces_naming w name;
}) (get w.quotas name)

-- the job's pool, or the evaluation's pool if the job is gone
abbrev pub pool_for : Evaluation → Option Job → Name
pool_for e job = option_map_or (λ j. j.document.pool) job e.pool

abbrev pub snapshot_in : World → Name → Tenant → ℕ → Evaluation → Name → Snapshot
snapshot_in w ns t number e pool = record {
  namespace = ns;
  number = number;
  evaluation = e;
  job = get t.jobs e.job;
  own = own_allocations t e.job (get t.jobs e.job);
  pool = pool;
  nodes = nodes_of w pool;
  release = option_map_or (λ p. p.release) (get w.pools pool) 0;
  quota = option_and_then (quota_seen w) t.namespace.quota;
}

abbrev pub snapshot_of : World → Name → Tenant → ℕ → Evaluation → Snapshot
snapshot_of w ns t number e = snapshot_in w ns t number e (pool_for e (get t.jobs e.job))
