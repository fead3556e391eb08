-- When the sums that a plan is computed with are below 2 ^ 64.
use Rattle.std.specs.Prelude.{ℕ, Bool, ◌&&◌, List, sum_by}
use Rattle.std.specs.List.{list_all}
use Rattle.ns_types.specs.declared.job.Task.{Task}
use Rattle.ns_types.specs.declared.resources.Resources.{Resources}
use Rattle.ns_types.specs.declared.snapshot.PoolNode.{PoolNode}
use Rattle.ns_types.specs.declared.snapshot.Snapshot.{Snapshot}
use Rattle.ns_types.specs.Placing.Plan.{quota_of}
use Rattle.ns_types.specs.Placing.Wanted.{demands}
use Rattle.ns_types.specs.State.Resources.{is_counted, plus, total}
use Rattle.ns_types.specs.Validity.{seen_load}

-- what the tasks take together, with that much disk
abbrev pub tasks_size : List Task → ℕ → Resources
tasks_size tasks disk = record {
  cpu = sum_by (λ t. t.resources.cpu) tasks;
  memory = sum_by (λ t. t.resources.memory) tasks;
  disk = disk;
}

-- what the node offers, together with all that was live on it, can be counted
abbrev pub node_fits : PoolNode → Bool
node_fits n = is_counted (plus n.row.offer.capacity (seen_load n))

-- what the quota had in use, together with all that is missing of the job, can be counted
abbrev pub quota_fits : Snapshot → Bool
quota_fits s = is_counted (plus (quota_of s).used (total (λ d. d.size) (demands s.job s.own)))

abbrev pub fits : Snapshot → Bool
fits s = list_all node_fits s.nodes && quota_fits s
