use Rattle.std.proofs.Common.{ap, sym, ◌∙◌, not}
use Rattle.std.specs.List.{list_any}
use Rattle.std.specs.Prelude.{◌&&◌}
use Rattle.ns_types.specs.State.Names.{has_key}
use Rattle.ns_types.specs.Working.Queue.{is_of_job}
use Rattle.ns_change.specs.Changed.{view}
use Rattle.ns_change.proofs.Listed.{any_listed}
use Rattle.ns_change.proofs.Any.{or_else, or_then}
use Rattle.ns_change.proofs.queueing.is_listed.Goals as goal

pub returns-then-any_left : goal.returns-then-any_left
returns-then-any_left c =
    let f = is_of_job (view c.args.tables.now c.args.change.now) c.args.namespace.now c.args.job.now in
    or_then _ _ (list_any f c.args.list.now.added) c.if-any_left.true
    (c.any_left.ensures ∙ ap (λ taken. list_any (λ key. not (has_key taken key) && f key) c.args.base.now.items) c.as_slice.ensures)
    ∙ sym (any_listed f c.args.base.now.items c.args.list.now)

pub returns-else-any_left : goal.returns-else-any_left
returns-else-any_left c =
    let f = is_of_job (view c.args.tables.now c.args.change.now) c.args.namespace.now c.args.job.now in
    or_else _ _ _ _ c.if-any_left.false (c.any_left.ensures ∙ ap (λ taken. list_any (λ key. not (has_key taken key) && f key) c.args.base.now.items)
    c.as_slice.ensures)
    (c.is_among.ensures ∙ ap (list_any f) c.as_slice-else-any_left.ensures)
    ∙ sym (any_listed f c.args.base.now.items c.args.list.now)
