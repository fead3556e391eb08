use Rattle.std.proofs.Common.{sym, ◌∙◌}
use Rattle.ns_change.proofs.First.{first_here, first_later, first_none}
use Rattle.ns_change.proofs.promoting.first_in.Goals as goal

pub returns-then-is_of : goal.returns-then-is_of
returns-then-is_of c = first_here _
    c.args.slots.now c.loop-slot.slot-index c.loop-slot.invariant c.slot-item.result c.loop-slot-test.true c.slot-item.is
    (sym c.is_of.ensures ∙ c.if-is_of.true)

pub loop-slot-preserved : goal.loop-slot-preserved
loop-slot-preserved c = first_later _
    c.args.slots.now c.loop-slot.slot-index c.loop-slot.invariant c.slot-item.result c.loop-slot-test.true c.slot-item.is
    (sym c.is_of.ensures ∙ c.if-is_of.false)

pub returns : goal.returns
returns c = first_none _
    c.args.slots.now c.loop-slot.slot-index c.loop-slot.invariant c.loop-slot-test.false
