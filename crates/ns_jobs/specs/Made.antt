-- Changes of a job or an allocation, with the evaluation that is made.
use Rattle.std.specs.Prelude.{ℕ, ◌+◌, Bool, false, not, Option}
use Rattle.std.specs.Option.{option_map_or}
use Rattle.std.specs.FinMap.{get}
use Rattle.ns_types.specs.declared.allocation.Allocation.{Allocation}
use Rattle.ns_types.specs.declared.allocation.DesiredStatus.TheVariants as DesiredStatus
use Rattle.ns_types.specs.declared.evaluation.Evaluation.{Evaluation}
use Rattle.ns_types.specs.declared.evaluation.Trigger.TheVariants as Trigger
use Rattle.ns_types.specs.declared.job.Job.{Job}
use Rattle.ns_types.specs.declared.job.Registration.{Registration}
use Rattle.ns_types.specs.declared.reply.Content.TheVariants as Content
use Rattle.ns_types.specs.Asking.Asks.{document_of, meets, registered_job}
use Rattle.ns_types.specs.Settling.Making.{change_tenant, evaluation_for, make, make_in, with_desired}
use Rattle.ns_types.specs.Settling.Outcome.{Outcome, Done}
use Rattle.ns_types.specs.State.Names.{Name}
use Rattle.ns_types.specs.State.Rows.{World, Tenant}

-- f changes the namespace, and then the evaluation is made
abbrev pub with_made : Name → (Tenant → Tenant) → Evaluation → World → World
with_made ns f e w = make ns (λ _. e) (change_tenant ns f w)

-- ---- stopping an allocation

-- the outcome of stopping a live allocation
abbrev pub stopped_with : Name → ℕ → World → Tenant → Allocation → Outcome World
stopped_with ns n w t a = Done (Content.Stopped (t.evaluation_number + 1) (t.index + 1))
    (make_in ns (evaluation_for t a Trigger.AllocStop) w (with_desired n DesiredStatus.Stop t))

-- ---- registration

-- the stored job does not have the index that is demanded
abbrev pub misses : Option ℕ → Option Job → Bool
misses enforced old = option_map_or (λ index. not (meets old index)) enforced false

-- the job as the namespace has it after the registration
abbrev pub job_of : Registration → Tenant → Job
job_of r t = registered_job (t.index + 1) (document_of t r) (get t.jobs r.id)
