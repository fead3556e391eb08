-- The requests that read in one namespace.
-- Nomad's pages on the jobs, evaluations and allocations HTTP API.
use Rattle.std.specs.Prelude.{ℕ, Bool, ◌&&◌, if◌then◌else◌, filter, map, nat_le}
use Rattle.std.specs.FinMap.{get, entries}
use Rattle.ns_types.specs.declared.id.IdKind.TheVariants as IdKind
use Rattle.ns_types.specs.declared.job.Job.{Job}
use Rattle.ns_types.specs.declared.refusal.Refusal.TheVariants as Refusal
use Rattle.ns_types.specs.declared.reply.AllocationShown.{AllocationShown}
use Rattle.ns_types.specs.declared.reply.Content.{Content}
use Rattle.ns_types.specs.declared.reply.EvaluationShown.{EvaluationShown}
use Rattle.ns_types.specs.declared.reply.JobShown.{JobShown}
use Rattle.ns_types.specs.declared.reply.JobStatus.{JobStatus}
use Rattle.ns_types.specs.State.Id.{id_text}
use Rattle.ns_types.specs.State.Names.{Name, same_name, begins_with}
use Rattle.ns_types.specs.Settling.Outcome.{Outcome, Refused, Done, found}
use Rattle.ns_types.specs.State.Rows.{World, Tenant, is_live}
use Rattle.ns_types.specs.State.Sums.{names_quota, quota_use}
use Rattle.ns_types.specs.State.Tables.{any_row}

-- ---- jobs

-- a job is dead if it is stopped, else running if it has a live allocation, else pending
abbrev pub job_status : Tenant → Name → Job → JobStatus
job_status t id job =
    if job.stop then JobStatus.Dead
    else if any_row (λ _ a. same_name id a.job && is_live a) t.allocations then JobStatus.Running
    else JobStatus.Pending

abbrev pub job_shown : Name → Tenant → Name → Job → JobShown
job_shown ns t id job = record { namespace = ns; id = id; row = job; status = job_status t id job }

abbrev pub list_jobs : Name → Name → Tenant → Content
list_jobs ns prefix t = Content.Jobs (map (λ e. job_shown ns t e.0 e.1)
    (filter (λ e. begins_with prefix e.0) (entries t.jobs)))

abbrev pub read_job : Name → Name → World → Tenant → Outcome World
read_job ns id w t = found (get t.jobs id) (λ job. Done (Content.Job (job_shown ns t id job)) w)

-- ---- evaluations

abbrev pub evaluations_where : Name → Tenant → (EvaluationShown → Bool) → Content
evaluations_where ns t passes = Content.Evaluations
    (filter passes (map (λ e. record { namespace = ns; number = e.0; row = e.1 }) (entries t.evaluations)))

abbrev pub list_evaluations : Name → Name → Tenant → Content
list_evaluations ns prefix t = evaluations_where ns t (λ e. begins_with prefix (id_text IdKind.Evaluation e.number))

abbrev pub job_evaluations : Name → Name → Tenant → Content
job_evaluations ns job t = evaluations_where ns t (λ e. same_name job e.row.job)

abbrev pub read_evaluation : Name → ℕ → World → Tenant → Outcome World
read_evaluation ns n w t = found (get t.evaluations n)
    (λ e. Done (Content.Evaluation (record { namespace = ns; number = n; row = e })) w)

-- ---- allocations

abbrev pub allocations_where : Name → Tenant → (AllocationShown → Bool) → Content
allocations_where ns t passes = Content.Allocations
    (filter passes (map (λ a. record { namespace = ns; number = a.0; row = a.1 }) (entries t.allocations)))

abbrev pub list_allocations : Name → Name → Tenant → Content
list_allocations ns prefix t = allocations_where ns t (λ a. begins_with prefix (id_text IdKind.Allocation a.number))

abbrev pub job_allocations : Name → Name → Tenant → Content
job_allocations ns job t = allocations_where ns t (λ a. same_name job a.row.job)

abbrev pub read_allocation : Name → ℕ → World → Tenant → Outcome World
read_allocation ns n w t = found (get t.allocations n)
    (λ a. Done (Content.Allocation (record { namespace = ns; number = n; row = a })) w)

-- ---- the namespace, its quota, its events

abbrev pub read_namespace : Name → Tenant → Content
read_namespace ns t = Content.Namespace (record { name = ns; row = t.namespace })

-- the quota's use, if the namespace names the quota
abbrev pub quota_usage : Name → World → Tenant → Outcome World
quota_usage quota w t =
    if names_quota quota t.namespace then Done (Content.Usage quota (quota_use w quota)) w
    else Refused Refusal.NotFound

abbrev pub events_from : Name → ℕ → Tenant → Content
events_from ns index t = Content.Events ns (filter (λ e. nat_le index e.index) t.events)
