use Rattle.std.proofs.Common.{ap, sym, ◌∙◌}
use Rattle.std.specs.Option.{option_copied}
use Rattle.std.specs.FinMap.{get}
use Rattle.keyed.specs.Over.{over}
use Rattle.keyed.specs.Table.{row_at, rows}
use Rattle.ns_queues.proofs.Moved.{after_changed, after_kept, after_nowhere}
use Rattle.ns_queues.proofs.after.evaluation_after.Goals as goal

pub returns-in_default : goal.returns-in_default
returns-in_default c = sym (after_nowhere c.args.tables.now c.args.settled.now c.args.namespace.now c.args.number
    (sym c.get.ensures ∙ ap option_copied c.in_default.is))

pub returns-in-Some-get : goal.returns-in-Some-get
returns-in-Some-get c = c.get_over.ensures
    ∙ ap (λ m. get (over (rows m) c.in-Some-get.change.now.rows.evaluations) c.args.number) c.rows-before.ensures
    ∙ sym (after_changed c.args.tables.now c.args.settled.now c.args.namespace.now c.in-Some.tenant.now
    (sym c.get.ensures ∙ ap option_copied c.in-Some.is) c.in-Some-get.change.now c.args.number
    (sym c.get-2.ensures ∙ ap option_copied c.in-Some-get.is))

pub returns-in-None : goal.returns-in-None
returns-in-None c = c.get-in-None.ensures ∙ ap (λ m. row_at m c.args.number) c.rows-before.ensures
    ∙ sym (after_kept c.args.tables.now c.args.settled.now c.args.namespace.now c.in-Some.tenant.now
    (sym c.get.ensures ∙ ap option_copied c.in-Some.is) c.args.number (sym c.get-2.ensures ∙ ap option_copied c.in-None.is))
