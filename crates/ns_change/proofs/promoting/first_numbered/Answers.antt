use Rattle.std.proofs.Common.{None, sym, ◌∙◌}
use Rattle.std.proofs.lemmas.List.{get_or_default}
use Rattle.ns_change.proofs.First.{first_here, first_later, first_none}
use Rattle.ns_change.proofs.promoting.first_numbered.Goals as goal

pub returns-then-is_stored : goal.returns-then-is_stored
returns-then-is_stored c = first_here _
    c.args.slots.now c.loop-slot.slot-index c.loop-slot.invariant _ c.loop-slot-test.true
    (get_or_default c.args.slots.now c.loop-slot.slot-index (0, None) _ c.loop-slot-test.true)
    (sym c.is_stored.ensures ∙ c.if-is_stored.true)

pub loop-slot-preserved : goal.loop-slot-preserved
loop-slot-preserved c = first_later _
    c.args.slots.now c.loop-slot.slot-index c.loop-slot.invariant _ c.loop-slot-test.true
    (get_or_default c.args.slots.now c.loop-slot.slot-index (0, None) _ c.loop-slot-test.true)
    (sym c.is_stored.ensures ∙ c.if-is_stored.false)

pub returns : goal.returns
returns c = first_none _
    c.args.slots.now c.loop-slot.slot-index c.loop-slot.invariant c.loop-slot-test.false
