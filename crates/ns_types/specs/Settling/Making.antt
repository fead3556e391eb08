-- Changes of single rows, and new evaluations. New rows have the index 0 until the step settles.
-- Nomad's page on the evaluations HTTP API.
use Rattle.std.specs.Prelude.{ℕ, ◌+◌, false, true, List, [], Option, None, option_map, find}
use Rattle.std.specs.Option.{option_map_or}
use Rattle.std.specs.FinMap.{get, insert, entries, from_entries}
use Rattle.std.specs.Ordering.{nat_cmp}
use Rattle.ns_types.specs.declared.allocation.Allocation.{Allocation}
use Rattle.ns_types.specs.declared.allocation.ClientStatus.{ClientStatus}
use Rattle.ns_types.specs.declared.allocation.DesiredStatus.{DesiredStatus}
use Rattle.ns_types.specs.declared.evaluation.Evaluation.{Evaluation}
use Rattle.ns_types.specs.declared.evaluation.Status.{Status}
use Rattle.ns_types.specs.declared.evaluation.Trigger.{Trigger}
use Rattle.ns_types.specs.declared.job.Document.{Document}
use Rattle.ns_types.specs.declared.job.Job.{Job}
use Rattle.ns_types.specs.declared.job.JobKind.{JobKind}
use Rattle.ns_types.specs.declared.node.Node.{Node}
use Rattle.ns_types.specs.State.Names.{Name}
use Rattle.ns_types.specs.State.Rows.{World, Tenant, PoolRows}
use Rattle.ns_types.specs.Working.Queue.{queue}

-- ---- changes of single rows

abbrev pub put_tenant : Name → Tenant → World → World
put_tenant ns t w = record w { tenants = insert w.tenants ns t }

abbrev pub change_tenant : Name → (Tenant → Tenant) → World → World
change_tenant ns f w = option_map_or (λ t. put_tenant ns (f t) w) (get w.tenants ns) w

abbrev pub put_pool : Name → PoolRows → World → World
put_pool name pool w = record w { pools = insert w.pools name pool }

abbrev pub with_node : Name → Node → PoolRows → PoolRows
with_node name node pool = record pool { nodes = insert pool.nodes name node }

abbrev pub with_job : Name → Job → Tenant → Tenant
with_job id job t = record t { jobs = insert t.jobs id job }

abbrev pub with_status : ℕ → Status → Tenant → Tenant
with_status n status t = option_map_or
    (λ e. record t { evaluations = insert t.evaluations n (record e { status = status }) }) (get t.evaluations n) t

abbrev pub with_desired : ℕ → DesiredStatus → Tenant → Tenant
with_desired n desired t = option_map_or
    (λ a. record t { allocations = insert t.allocations n (record a { desired = desired }) }) (get t.allocations n) t

abbrev pub with_client : ℕ → ClientStatus → Tenant → Tenant
with_client n client t = option_map_or
    (λ a. record t { allocations = insert t.allocations n (record a { client = client }) }) (get t.allocations n) t

-- ---- new evaluations

abbrev pub new_evaluation : Name → JobKind → ℕ → Name → Trigger → Evaluation
new_evaluation job kind priority pool trigger = record {
  job = job;
  kind = kind;
  priority = priority;
  pool = pool;
  trigger = trigger;
  status = Status.Pending;
  previous = None;
  follower = None;
  quota = None;
  escapes = false;
  infeasible = [];
  nacks = 0;
  create_index = 0;
  modify_index = 0;
}

-- a new evaluation for a job, with the job's type, priority and pool
abbrev pub evaluation_of : Name → Document → Trigger → Evaluation
evaluation_of job document trigger = new_evaluation job document.kind document.priority document.pool trigger

-- a new evaluation for the job of an allocation that ended; if the job is gone, it has the allocation's priority and pool,
-- and the type `service`
abbrev pub evaluation_for : Tenant → Allocation → Trigger → Evaluation
evaluation_for t ended trigger =
    option_map_or (λ job. evaluation_of ended.job job.document trigger)
    (get t.jobs ended.job)
    (new_evaluation ended.job JobKind.Service ended.priority ended.pool trigger)

-- the namespace with a new evaluation, which gets its next evaluation number
abbrev pub with_evaluation : Evaluation → Tenant → Tenant
with_evaluation e t = record t {
  evaluation_number = t.evaluation_number + 1;
  evaluations = insert t.evaluations (t.evaluation_number + 1) e;
}

-- the world with the new evaluation, which is ready or waits for another evaluation of its job
abbrev pub make_in : Name → Evaluation → World → Tenant → World
make_in ns e w t = queue (put_tenant ns (with_evaluation e t) w) (ns, t.evaluation_number + 1)

abbrev pub make : Name → (Tenant → Evaluation) → World → World
make ns evaluation w = option_map_or (λ t. make_in ns (evaluation t) w t) (get w.tenants ns) w

-- of these allocations, the one with the least number
abbrev pub least : List (ℕ × Allocation) → Option Allocation
least allocations = option_map (λ e. e.1) (find (λ e. true) (entries (from_entries {R = nat_cmp} allocations)))
