use Rattle.std.proofs.Common.{sym, ◌∙◌}
use Rattle.ns_change.proofs.Any.{any_here, any_later, any_none}
use Rattle.ns_change.proofs.queueing.is_among_left.Goals as goal

pub returns-then-is_left : goal.returns-then-is_left
returns-then-is_left g c = any_here _
    c.args.slots.now c.loop-slot.slot-index c.slot-item.result c.loop-slot-test.true c.slot-item.is
    (sym c.is_left.ensures ∙ c.if-is_left.true)

pub loop-slot-preserved : goal.loop-slot-preserved
loop-slot-preserved g c = any_later _
    c.args.slots.now c.loop-slot.slot-index c.slot-item.result c.loop-slot-test.true c.slot-item.is
    (sym c.is_left.ensures ∙ c.if-is_left.false) c.loop-slot.invariant

pub returns : goal.returns
returns g c = any_none _
    c.args.slots.now c.loop-slot.slot-index c.loop-slot-test.false c.loop-slot.invariant
