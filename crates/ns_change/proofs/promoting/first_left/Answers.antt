use Rattle.std.proofs.Common.{ap, subst}
use Rattle.std.specs.Option.{option_copied}
use Rattle.keyed.specs.Table.{rows}
use Rattle.ns_types.proofs.Named.{second_of_both}
use Rattle.ns_change.specs.Waiting.{of_job, unheld_passes, stands}
use Rattle.ns_change.proofs.Waiting.{led_by, led_by_none}
use Rattle.ns_tables.specs.Filing.{AreNumbersUnder, job_where}
use Rattle.ns_change.proofs.promoting.first_left.Goals as goal

pub returns-in-Some : goal.returns-in-Some
returns-in-Some c = led_by (stands c.args.wanted) c.args.job.now c.args.tenant.now.evaluations.slots
    (unheld_passes (of_job (stands c.args.wanted) c.args.job.now) (rows c.args.tenant.now.evaluations.slots) c.args.changed.now)
    (λ q t. second_of_both _ _ t) c.in-Some.numbers.now _ _
    (subst (AreNumbersUnder (job_where (stands c.args.wanted)) c.args.job.now c.args.tenant.now.evaluations.slots)
    (ap option_copied c.in-Some.is) c.stored_numbers.ensures)
    c.as_slice.ensures c.first_unchanged.ensures

pub returns-in-None : goal.returns-in-None
returns-in-None c = led_by_none (stands c.args.wanted) c.args.job.now c.args.tenant.now.evaluations.slots
    (unheld_passes (of_job (stands c.args.wanted) c.args.job.now) (rows c.args.tenant.now.evaluations.slots) c.args.changed.now)
    (λ q t. second_of_both _ _ t)
    (subst (AreNumbersUnder (job_where (stands c.args.wanted)) c.args.job.now c.args.tenant.now.evaluations.slots)
    (ap option_copied c.in-None.is) c.stored_numbers.ensures)
