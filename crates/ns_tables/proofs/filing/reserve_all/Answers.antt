use Rattle.std.proofs.Math.ListN.{drop_of_length-le}
use Rattle.keyed.proofs.Queues.{from_here}
use Rattle.ns_tables.proofs.Filed.{reserve_step, reserved_all}
use Rattle.ns_tables.proofs.filing.reserve_all.Goals as goal

pub loop-slot-preserved : goal.loop-slot-preserved
loop-slot-preserved g c = reserve_step g.F.Filing.name_of c.slot-item.result _ _ c.args.slots.now
    (from_here c.args.slots.now c.loop-slot.slot-index c.slot-item.result c.loop-slot-test.true c.slot-item.is)
    c.args.numbers.now c.loop-slot.numbers c.reserve.new.numbers c.reserve.ensures.same c.in_ok-reserve.ensures.ok c.loop-slot.invariant

pub returns-clause-ok : goal.returns-clause-ok
returns-clause-ok g c = reserved_all g.F.Filing.name_of c.loop-slot.numbers c.args.numbers.now _ _
    (drop_of_length-le c.args.slots.now c.loop-slot-test.false) c.loop-slot.invariant
