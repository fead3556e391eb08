use Rattle.std.proofs.Common.{None, sym, ap, ◌∙◌, not, get_or}
use Rattle.std.proofs.lemmas.List.{get_or_default}
use Rattle.std.specs.Prelude.{◌&&◌}
use Rattle.keyed.specs.Table.{rows}
use Rattle.ns_change.specs.Waiting.{row_passes, of_job, stands}
use Rattle.ns_change.proofs.First.{first_here, first_later, first_none}
use Rattle.ns_change.proofs.promoting.first_unchanged.Goals as goal
use Rattle.ns_change.proofs.promoting.first_unchanged.Goals.{else-not-has_slot-via-then-not-has_slot+else-is_stored, else-not-has_slot-via-else-not-has_slot}

pub returns-then-is_stored : goal.returns-then-is_stored
returns-then-is_stored c = first_here _
    c.args.slots.now c.loop-slot.slot-index c.loop-slot.invariant _ c.loop-slot-test.true
    (get_or_default c.args.slots.now c.loop-slot.slot-index (0, None) _ c.loop-slot-test.true)
    (λ i. not ((sym c.has_slot.ensures ∙ c.if-not-has_slot.true) i) && (sym c.is_stored.ensures ∙ c.if-is_stored.true) i)

pub loop-slot-preserved : goal.loop-slot-preserved
loop-slot-preserved c = first_later _
    c.args.slots.now c.loop-slot.slot-index c.loop-slot.invariant _ c.loop-slot-test.true
    (get_or_default c.args.slots.now c.loop-slot.slot-index (0, None) _ c.loop-slot-test.true)
    (elim c.else-not-has_slot.branch [
      | else-not-has_slot-via-then-not-has_slot+else-is_stored w ↦
          (λ i. not ((sym c.has_slot.ensures ∙ w.if-not-has_slot.true) i) && (sym w.is_stored.ensures ∙ w.if-is_stored.false) i)
      | else-not-has_slot-via-else-not-has_slot w ↦
          ap (λ b. not b && row_passes (of_job (stands c.args.wanted) c.args.job.now) (rows c.args.tenant.now.evaluations.slots)
          (get_or c.args.slots.now c.loop-slot.slot-index (0, None)).0) (sym c.has_slot.ensures ∙ w.if-not-has_slot.false)
    ])

pub returns : goal.returns
returns c = first_none _
    c.args.slots.now c.loop-slot.slot-index c.loop-slot.invariant c.loop-slot-test.false
