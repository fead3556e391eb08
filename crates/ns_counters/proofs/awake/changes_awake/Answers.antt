use Rattle.std.proofs.Common.{ap, sym, ◌∙◌, not, true}
use Rattle.std.specs.Option.{option_copied, option_map_or}
use Rattle.keyed.proofs.Tables.{get-rows}
use Rattle.keyed.specs.Table.{row_at}
use Rattle.ns_types.specs.Settling.Same.{same_evaluation}
use Rattle.ns_types.specs.Settling.Settle.{pending}
use Rattle.ns_types.proofs.Named.{numbers}
use Rattle.ns_counters.proofs.awake.changes_awake.Goals as goal

pub returns-in-Some : goal.returns-in-Some
returns-in-Some c = ap not c.same_with_status.ensures ∙ sym (ap (λ o. option_map_or (λ y. not (same_evaluation y (pending c.args.row.now))) o true)
    (get-rows numbers c.args.tenant.now.evaluations.slots c.args.number
    ∙ sym (c.get.ensures ∙ ap (λ m. row_at m c.args.number) c.rows.ensures) ∙ ap option_copied c.in-Some.is))

pub returns-in-None : goal.returns-in-None
returns-in-None c = sym (ap (λ o. option_map_or (λ y. not (same_evaluation y (pending c.args.row.now))) o true)
    (get-rows numbers c.args.tenant.now.evaluations.slots c.args.number
    ∙ sym (c.get.ensures ∙ ap (λ m. row_at m c.args.number) c.rows.ensures) ∙ ap option_copied c.in-None.is))
