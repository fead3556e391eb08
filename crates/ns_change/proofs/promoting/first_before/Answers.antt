use Rattle.std.proofs.Common.{ap, subst}
use Rattle.std.specs.Option.{option_copied}
use Rattle.keyed.specs.Table.{rows}
use Rattle.ns_change.specs.Waiting.{of_job, row_passes, stands}
use Rattle.ns_change.proofs.Waiting.{led_by, led_by_none}
use Rattle.ns_tables.specs.Filing.{AreNumbersUnder, job_where}
use Rattle.ns_change.proofs.promoting.first_before.Goals as goal

pub returns-in-Some : goal.returns-in-Some
returns-in-Some c = led_by (stands c.args.wanted) c.args.job.now c.args.tenant.now.evaluations.slots
    (row_passes (of_job (stands c.args.wanted) c.args.job.now) (rows c.args.tenant.now.evaluations.slots))
    (λ q t. t) c.in-Some.numbers.now _ _
    (subst (AreNumbersUnder (job_where (stands c.args.wanted)) c.args.job.now c.args.tenant.now.evaluations.slots)
    (ap option_copied c.in-Some.is) c.stored_numbers.ensures)
    c.as_slice.ensures c.first_numbered.ensures

pub returns-in-None : goal.returns-in-None
returns-in-None c = led_by_none (stands c.args.wanted) c.args.job.now c.args.tenant.now.evaluations.slots
    (row_passes (of_job (stands c.args.wanted) c.args.job.now) (rows c.args.tenant.now.evaluations.slots))
    (λ q t. t)
    (subst (AreNumbersUnder (job_where (stands c.args.wanted)) c.args.job.now c.args.tenant.now.evaluations.slots)
    (ap option_copied c.in-None.is) c.stored_numbers.ensures)
