use Rattle.std.specs.Prelude.{cond}
use Rattle.std.proofs.Common.{sym, ◌∙◌}
use Rattle.ns_types.specs.declared.reply.JobStatus.TheVariants as JobStatus
use Rattle.ns_jobs.proofs.jobs.job_status.Goals as goal

pub returns-then-any_live_of : goal.returns-then-any_live_of
returns-then-any_live_of c = λ i. cond (sym c.if-job.false i) JobStatus.Dead
    (cond ((sym c.if-any_live_of.true ∙ c.any_live_of.ensures) i) JobStatus.Running JobStatus.Pending)

pub returns-else-any_live_of : goal.returns-else-any_live_of
returns-else-any_live_of c = λ i. cond (sym c.if-job.false i) JobStatus.Dead
    (cond ((sym c.if-any_live_of.false ∙ c.any_live_of.ensures) i) JobStatus.Running JobStatus.Pending)
