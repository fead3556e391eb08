use Rattle.std.proofs.Common.{ap, sym, ◌∙◌, ◌||◌}
use Rattle.std.specs.List.{list_any}
use Rattle.std.specs.Option.{option_copied}
use Rattle.ns_change.proofs.Candidates.{changed_left, kept_left, nowhere_left}
use Rattle.ns_change.specs.Queued.{is_left_in}
use Rattle.ns_change.proofs.queueing.any_left.Goals as goal

pub returns-in_default : goal.returns-in_default
returns-in_default c = nowhere_left c.args.tables.now c.args.change.now c.args.namespace.now c.args.job.now c.args.base.now.items c.args.taken.now
    (sym c.get.ensures ∙ ap option_copied c.in_default.is)

pub returns-in_default-get : goal.returns-in_default-get
returns-in_default-get c = kept_left c.args.tables.now c.args.change.now c.args.namespace.now c.args.job.now c.args.base.now.items c.args.taken.now
    c.in-Some.tenant.now (sym c.get.ensures ∙ ap option_copied c.in-Some.is) c.any_stored_left-among_stored.result c.any_stored_left-among_stored.ensures.sound
    c.any_stored_left-among_stored.ensures.complete (sym c.get-2.ensures ∙ ap option_copied c.in_default-get.is)

pub returns-else-among_stored : goal.returns-else-among_stored
returns-else-among_stored c =
    let here = is_left_in c.args.tables.now c.args.change.now c.args.base.now.items c.args.taken.now c.args.namespace.now c.args.job.now in
    ap (λ b. b || c.is_among_left.result) (sym c.if-among_stored.false)
    ∙ changed_left c.args.tables.now c.args.change.now c.args.namespace.now c.args.job.now c.args.base.now.items c.args.taken.now c.in-Some.tenant.now
    (sym c.get.ensures ∙ ap option_copied c.in-Some.is) c.any_stored_left-among_stored.result c.any_stored_left-among_stored.ensures.sound
    c.any_stored_left-among_stored.ensures.complete
    c.in-Some-get.changed.now (sym c.get-2.ensures ∙ ap option_copied c.in-Some-get.is) c.is_among_left.result
    (c.is_among_left.ensures ∙ ap (list_any (λ slot. here slot.0)) c.as_slice-slots.ensures)
