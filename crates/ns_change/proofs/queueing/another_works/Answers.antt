use Rattle.std.proofs.Common.{sym, ap, ◌∙◌, not}
use Rattle.std.specs.Prelude.{◌&&◌}
use Rattle.ns_change.specs.Queued.{is_left, works_on}
use Rattle.ns_change.proofs.Any.{any_here, any_later, any_none}
use Rattle.ns_change.proofs.queueing.another_works.Goals as goal
use Rattle.ns_change.proofs.queueing.another_works.Goals.{else-not-has_slot-via-then-not-has_slot+else-works_on, else-not-has_slot-via-else-not-has_slot}

pub returns-then-works_on : goal.returns-then-works_on
returns-then-works_on c = any_here (is_left c.args.changed.now (works_on c.args.tables.now c.args.change.now c.args.namespace.now c.args.job.now))
    c.args.slots.now c.loop-slot.slot-index c.slot-item.result c.loop-slot-test.true c.slot-item.is
    (λ i. not ((sym c.has_slot.ensures ∙ c.if-not-has_slot.true) i) && (sym c.works_on.ensures ∙ c.if-works_on.true) i)

pub loop-slot-preserved : goal.loop-slot-preserved
loop-slot-preserved c =
    let works = works_on c.args.tables.now c.args.change.now c.args.namespace.now c.args.job.now in
    any_later (is_left c.args.changed.now works) c.args.slots.now c.loop-slot.slot-index c.slot-item.result c.loop-slot-test.true c.slot-item.is
    (elim c.else-not-has_slot.branch [
      | else-not-has_slot-via-then-not-has_slot+else-works_on w ↦
          (λ i. not ((sym c.has_slot.ensures ∙ w.if-not-has_slot.true) i) && (sym w.works_on.ensures ∙ w.if-works_on.false) i)
      | else-not-has_slot-via-else-not-has_slot w ↦
          ap (λ b. not b && works c.slot-item.result) (sym c.has_slot.ensures ∙ w.if-not-has_slot.false)
    ]) c.loop-slot.invariant

pub returns : goal.returns
returns c = any_none (is_left c.args.changed.now (works_on c.args.tables.now c.args.change.now c.args.namespace.now c.args.job.now))
    c.args.slots.now c.loop-slot.slot-index c.loop-slot-test.false c.loop-slot.invariant
