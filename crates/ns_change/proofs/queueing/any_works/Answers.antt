use Rattle.std.proofs.Common.{sym, ◌∙◌}
use Rattle.ns_change.specs.Queued.{works_on}
use Rattle.ns_change.proofs.Any.{any_here, any_later, any_none}
use Rattle.ns_change.proofs.queueing.any_works.Goals as goal

pub returns-then-works_on : goal.returns-then-works_on
returns-then-works_on c = any_here (works_on c.args.tables.now c.args.change.now c.args.namespace.now c.args.job.now)
    c.args.slots.now c.loop-slot.slot-index c.slot-item.result c.loop-slot-test.true c.slot-item.is
    (sym c.works_on.ensures ∙ c.if-works_on.true)

pub loop-slot-preserved : goal.loop-slot-preserved
loop-slot-preserved c = any_later (works_on c.args.tables.now c.args.change.now c.args.namespace.now c.args.job.now)
    c.args.slots.now c.loop-slot.slot-index c.slot-item.result c.loop-slot-test.true c.slot-item.is
    (sym c.works_on.ensures ∙ c.if-works_on.false) c.loop-slot.invariant

pub returns : goal.returns
returns c = any_none (works_on c.args.tables.now c.args.change.now c.args.namespace.now c.args.job.now)
    c.args.slots.now c.loop-slot.slot-index c.loop-slot-test.false c.loop-slot.invariant
