use Rattle.keyed.proofs.Queues.{from_here}
use Rattle.ns_tables.proofs.Filed.{insert_step}
use Rattle.ns_tables.proofs.filing.insert_all.Goals as goal

pub loop-slot-preserved : goal.loop-slot-preserved
loop-slot-preserved g c = insert_step g.F.Filing.name_of c.slot-item.result _ _ c.args.slots.now
    (from_here c.args.slots.now c.loop-slot.slot-index c.slot-item.result c.loop-slot-test.true c.slot-item.is)
    c.args.numbers.now c.loop-slot.numbers c.insert.new.numbers c.insert.ensures.held c.insert.ensures.room c.loop-slot.invariant
