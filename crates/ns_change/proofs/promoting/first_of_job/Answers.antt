use Rattle.std.proofs.Common.{ap, sym, ◌∙◌}
use Rattle.std.specs.Option.{option_copied}
use Rattle.std.specs.Prelude.{find, option_map}
use Rattle.keyed.specs.Table.{at_slot}
use Rattle.ns_change.specs.Waiting.{lesser, standing}
use Rattle.ns_change.proofs.Waiting.{in_changed, in_kept, nowhere}
use Rattle.ns_change.proofs.promoting.first_of_job.Goals as goal

pub returns-in_default : goal.returns-in_default
returns-in_default c = nowhere c.args.tables.now c.args.change.now c.args.namespace.now c.args.job.now c.args.wanted
    (sym c.get.ensures ∙ ap option_copied c.in_default.is)

pub returns-in_default-get : goal.returns-in_default-get
returns-in_default-get c = in_kept c.args.tables.now c.args.change.now c.args.namespace.now c.args.job.now c.args.wanted c.in-Some.tenant.now
    c.first_before.result (sym c.get.ensures ∙ ap option_copied c.in-Some.is) (sym c.get-2.ensures ∙ ap option_copied c.in_default-get.is)
    c.first_before.ensures

pub returns : goal.returns
returns c = c.lesser.ensures
    ∙ ap (λ o. lesser o c.first_left.result)
    (c.first_in.ensures ∙ ap (λ es. option_map (λ e. e.0) (find (at_slot (standing c.args.wanted c.args.job.now)) es)) c.as_slice.ensures)
    ∙ in_changed c.args.tables.now c.args.change.now c.args.namespace.now c.args.job.now c.args.wanted c.in-Some.tenant.now c.in-Some-get.changed.now
    c.first_left.result (sym c.get.ensures ∙ ap option_copied c.in-Some.is) (sym c.get-2.ensures ∙ ap option_copied c.in-Some-get.is)
    c.first_left.ensures
