use Rattle.std.proofs.Common.{ap, sym, ◌∙◌, false}
use Rattle.std.specs.Option.{option_copied, option_map_or}
use Rattle.keyed.proofs.Tables.{get-rows}
use Rattle.keyed.specs.Table.{row_at}
use Rattle.ns_types.proofs.Named.{numbers}
use Rattle.ns_change.specs.Waiting.{of_job, stands}
use Rattle.ns_change.proofs.promoting.is_stored.Goals as goal

pub returns-in-Some : goal.returns-in-Some
returns-in-Some c = c.is_row_of.ensures ∙ sym (ap (λ r. option_map_or (of_job (stands c.args.wanted) c.args.job.now c.args.number) r false)
    (get-rows numbers c.args.tenant.now.evaluations.slots c.args.number
    ∙ sym (c.get.ensures ∙ ap (λ m. row_at m c.args.number) c.rows.ensures) ∙ ap option_copied c.in-Some.is))

pub returns-in-None : goal.returns-in-None
returns-in-None c = sym (ap (λ r. option_map_or (of_job (stands c.args.wanted) c.args.job.now c.args.number) r false)
    (get-rows numbers c.args.tenant.now.evaluations.slots c.args.number
    ∙ sym (c.get.ensures ∙ ap (λ m. row_at m c.args.number) c.rows.ensures) ∙ ap option_copied c.in-None.is))
