-- The requests in one namespace.
-- Nomad's page on the jobs HTTP API.
use Rattle.std.specs.Prelude.{ℕ, ◌+◌, Bool, true, false, not, ◌&&◌, if◌then◌else◌, Option, Some, None, nat_eq, nat_le}
use Rattle.std.specs.Prelude.{unwrap_or}
use Rattle.std.specs.Option.{option_map_or}
use Rattle.std.specs.FinMap.{get, remove, contains_key, len}
use Rattle.ns_types.specs.declared.acl.Rights.{Rights}
use Rattle.ns_types.specs.declared.allocation.DesiredStatus.TheVariants as DesiredStatus
use Rattle.ns_types.specs.declared.evaluation.Trigger.TheVariants as Trigger
use Rattle.ns_types.specs.declared.job.Document.{Document}
use Rattle.ns_types.specs.declared.job.Job.{Job}
use Rattle.ns_types.specs.declared.job.Registration.{Registration}
use Rattle.ns_types.specs.declared.refusal.Member.TheVariants as Member
use Rattle.ns_types.specs.declared.refusal.Refusal.{Refusal}
use Rattle.ns_types.specs.declared.reply.Content.TheVariants as Content
use Rattle.ns_types.specs.declared.step.AskCommand.{AskCommand}
use Rattle.ns_types.specs.Settling.Making.{with_job, with_desired, evaluation_of, evaluation_for, make_in}
use Rattle.ns_types.specs.State.Names.{Name, same_number}
use Rattle.ns_types.specs.Settling.Outcome.{Outcome, Done, unless, refused_by, found, in_tenant}
use Rattle.ns_types.specs.Asking.Reads.{list_jobs, read_job, job_allocations, job_evaluations, list_evaluations}
use Rattle.ns_types.specs.Asking.Reads.{read_evaluation, list_allocations, read_allocation, read_namespace, quota_usage}
use Rattle.ns_types.specs.Asking.Reads.{events_from}
use Rattle.ns_types.specs.Access.Rights.{has_any}
use Rattle.ns_types.specs.State.Rows.{World, Tenant, is_live}
use Rattle.ns_types.specs.Settling.Same.{same_document}
use Rattle.ns_types.specs.Access.Sharing.{permits}

-- ---- registration

-- the pool that the registration names, or the namespace's default
abbrev pub pool_of : Tenant → Registration → Name
pool_of t r = unwrap_or r.pool t.namespace.default_pool

abbrev pub document_of : Tenant → Registration → Document
document_of t r = record {
  kind = r.kind;
  priority = r.priority;
  pool = pool_of t r;
  constraints = r.constraints;
  groups = r.groups;
}

-- the job has the `JobModifyIndex` that the registration demands; 0 demands that there is no such job, not even a stopped one
abbrev pub meets : Option Job → ℕ → Bool
meets None index = nat_eq index 0
meets (Some job) index = same_number job.modify_index index && not (nat_eq index 0)

-- the job after a registration; a registration that equals a job that is not stopped leaves it as it is
abbrev pub registered_job : ℕ → Document → Option Job → Job
registered_job index document None =
    record { document = document; stop = false; version = 0; create_index = index; modify_index = index }
registered_job index document (Some job) =
    if same_document document job.document && not job.stop then job
    else record {
      document = document;
      stop = false;
      version = job.version + 1;
      create_index = job.create_index;
      modify_index = index;
    }

-- the registration demands an index, and the job does not meet it
abbrev pub is_outdated : Registration → Tenant → Bool
is_outdated r t = option_map_or (λ index. not (meets (get t.jobs r.id) index)) r.enforced false

abbrev pub most_jobs : ℕ
most_jobs = 1000

-- the job is new, and the namespace has as many jobs as it may have
abbrev pub has_no_room : Registration → Tenant → Bool
has_no_room r t = not (contains_key t.jobs r.id) && nat_le most_jobs (len t.jobs)

-- the first refusal of a registration, if there is one. The refusal of a counter that would pass its bound comes after these
abbrev pub first_refusal : World → Tenant → Registration → Option Refusal
first_refusal w t r =
    if not (permits t.namespace (pool_of t r)) then Some Refusal.PoolNotPermitted
    else if not (contains_key w.pools (pool_of t r)) then Some (Refusal.BadField Member.NodePool)
    else if is_outdated r t then Some Refusal.Conflict
    else if has_no_room r t then Some Refusal.Full
    else None

-- the reply has the namespace's next evaluation number, its next index, and the job's modify index
abbrev pub registered_with : Name → Registration → World → Tenant → Job → Outcome World
registered_with ns r w t job =
    Done (Content.Registered (t.evaluation_number + 1) (t.index + 1) job.modify_index)
    (make_in ns (evaluation_of r.id job.document Trigger.JobRegister) w (with_job r.id job t))

abbrev pub register : Name → Registration → World → Tenant → Outcome World
register ns r w t = refused_by (first_refusal w t r)
    (registered_with ns r w t (registered_job (t.index + 1) (document_of t r) (get t.jobs r.id)))

-- ---- deregistration

abbrev pub stopped_job : ℕ → Job → Job
stopped_job index job = if job.stop then job else record job { stop = true; modify_index = index }

-- the job is stopped, or with purge removed
abbrev pub deregistered : Bool → Name → Job → Tenant → Tenant
deregistered true id job t = record t { jobs = remove t.jobs id }
deregistered false id job t = with_job id (stopped_job (t.index + 1) job) t

-- the modify index in the reply: that of the stopped job or, with purge, the step's index
abbrev pub deregistered_index : Bool → ℕ → Job → ℕ
deregistered_index true index job = index
deregistered_index false index job = (stopped_job index job).modify_index

abbrev pub deregister_job : Name → Name → Bool → World → Tenant → Job → Outcome World
deregister_job ns id purge w t job =
    Done (Content.Registered (t.evaluation_number + 1) (t.index + 1)
    (deregistered_index purge (t.index + 1) job))
    (make_in ns (evaluation_of id job.document Trigger.JobDeregister) w (deregistered purge id job t))

abbrev pub deregister : Name → Name → Bool → World → Tenant → Outcome World
deregister ns id purge w t = found (get t.jobs id) (deregister_job ns id purge w t)

-- ---- stopping an allocation

abbrev pub stop_allocation : Name → ℕ → World → Tenant → Outcome World
stop_allocation ns n w t = found (get t.allocations n) (λ a.
    unless (not (is_live a)) Refusal.Conflict (
    Done (Content.Stopped (t.evaluation_number + 1) (t.index + 1))
    (make_in ns (evaluation_for t a Trigger.AllocStop) w (with_desired n DesiredStatus.Stop t))))

-- ---- all requests

abbrev pub asked_in : Name → AskCommand → World → Tenant → Outcome World
asked_in ns (AskCommand.ListJobs prefix) w t = Done (list_jobs ns prefix t) w
asked_in ns (AskCommand.Register r) w t = register ns r w t
asked_in ns (AskCommand.ReadJob id) w t = read_job ns id w t
asked_in ns (AskCommand.Deregister id purge) w t = deregister ns id purge w t
asked_in ns (AskCommand.JobAllocations id) w t = Done (job_allocations ns id t) w
asked_in ns (AskCommand.JobEvaluations id) w t = Done (job_evaluations ns id t) w
asked_in ns (AskCommand.ListEvaluations prefix) w t = Done (list_evaluations ns prefix t) w
asked_in ns (AskCommand.ReadEvaluation n) w t = read_evaluation ns n w t
asked_in ns (AskCommand.ListAllocations prefix) w t = Done (list_allocations ns prefix t) w
asked_in ns (AskCommand.ReadAllocation n) w t = read_allocation ns n w t
asked_in ns (AskCommand.StopAllocation n) w t = stop_allocation ns n w t
asked_in ns AskCommand.ReadNamespace w t = Done (read_namespace ns t) w
asked_in ns (AskCommand.QuotaUsage quota) w t = quota_usage quota w t
asked_in ns (AskCommand.Events index) w t = Done (events_from ns index t) w

unfoldable pub ask : Name → AskCommand → World → Outcome World
ask ns command w = in_tenant w ns (asked_in ns command w)

-- the right that each request needs
abbrev pub right_of : AskCommand → Rights → Bool
right_of (AskCommand.ListJobs prefix) rights = rights.list_jobs
right_of (AskCommand.Register r) rights = rights.submit_job
right_of (AskCommand.ReadJob id) rights = rights.read_job
right_of (AskCommand.Deregister id purge) rights = rights.submit_job
right_of (AskCommand.JobAllocations id) rights = rights.read_job
right_of (AskCommand.JobEvaluations id) rights = rights.read_job
right_of (AskCommand.ListEvaluations prefix) rights = rights.read_job
right_of (AskCommand.ReadEvaluation n) rights = rights.read_job
right_of (AskCommand.ListAllocations prefix) rights = rights.read_job
right_of (AskCommand.ReadAllocation n) rights = rights.read_job
right_of (AskCommand.StopAllocation n) rights = rights.alloc_lifecycle
right_of AskCommand.ReadNamespace rights = has_any rights
right_of (AskCommand.QuotaUsage quota) rights = rights.read_job
right_of (AskCommand.Events index) rights = rights.read_job
