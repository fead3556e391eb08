use Rattle.std.proofs.Common.{ap, sym, ◌∙◌, not}
use Rattle.std.specs.List.{list_any}
use Rattle.std.specs.Option.{option_copied}
use Rattle.std.specs.Prelude.{◌&&◌}
use Rattle.std.specs.FinMap.{contains_key}
use Rattle.keyed.specs.Table.{at_slot}
use Rattle.ns_types.specs.Working.Worker.{Worker}
use Rattle.ns_types.specs.Working.Queue.{is_of_job}
use Rattle.ns_change.specs.Changed.{view}
use Rattle.ns_change.proofs.Any.{or_else, or_then}
use Rattle.ns_change.proofs.Listed.{works_changed, works_kept, works_nowhere}
use Rattle.ns_change.proofs.queueing.is_worked_on.Goals as goal

pub returns-in_default : goal.returns-in_default
returns-in_default c = sym (works_nowhere c.args.tables.now c.args.change.now c.args.namespace.now
    (λ (worker : Worker). is_of_job (view c.args.tables.now c.args.change.now) c.args.namespace.now c.args.job.now (c.args.namespace.now, worker.evaluation))
    (sym c.get.ensures ∙ ap option_copied c.in_default.is))

pub returns-in_default-get : goal.returns-in_default-get
returns-in_default-get c =
    let f = λ (worker : Worker). is_of_job (view c.args.tables.now c.args.change.now) c.args.namespace.now c.args.job.now
    (c.args.namespace.now, worker.evaluation) in
    c.any_works.ensures ∙ ap (list_any (at_slot (λ e. f e.1))) c.as_slice-slots.ensures
    ∙ sym (works_kept c.args.tables.now c.args.change.now c.args.namespace.now f c.in-Some.tenant.now (sym c.get.ensures ∙ ap option_copied c.in-Some.is)
    (sym c.get-2.ensures ∙ ap option_copied c.in_default-get.is))

pub returns-then-any_works : goal.returns-then-any_works
returns-then-any_works c =
    let f = λ (worker : Worker). is_of_job (view c.args.tables.now c.args.change.now) c.args.namespace.now c.args.job.now
    (c.args.namespace.now, worker.evaluation) in
    or_then _ _ _ c.if-any_works.true (c.any_works-2.ensures ∙ ap (list_any (at_slot (λ e. f e.1))) c.as_slice.ensures)
    ∙ sym (works_changed c.args.tables.now c.args.change.now c.args.namespace.now f c.in-Some.tenant.now c.in-Some-get.changed.now
    (sym c.get.ensures ∙ ap option_copied c.in-Some.is) (sym c.get-2.ensures ∙ ap option_copied c.in-Some-get.is))

pub returns-else-any_works : goal.returns-else-any_works
returns-else-any_works c =
    let f = λ (worker : Worker). is_of_job (view c.args.tables.now c.args.change.now) c.args.namespace.now c.args.job.now
    (c.args.namespace.now, worker.evaluation) in
    or_else _ _ _ _ c.if-any_works.false (c.any_works-2.ensures ∙ ap (list_any (at_slot (λ e. f e.1))) c.as_slice.ensures)
    (c.another_works.ensures ∙ ap (list_any (λ slot. not (contains_key c.in-Some-get.changed.now.workers slot.0) && at_slot (λ e. f e.1) slot))
    c.as_slice-slots.ensures)
    ∙ sym (works_changed c.args.tables.now c.args.change.now c.args.namespace.now f c.in-Some.tenant.now c.in-Some-get.changed.now
    (sym c.get.ensures ∙ ap option_copied c.in-Some.is) (sym c.get-2.ensures ∙ ap option_copied c.in-Some-get.is))
