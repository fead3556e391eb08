use Rattle.std.proofs.Math.ListN.{drop_of_length-le}
use Rattle.keyed.proofs.Queues.{from_here}
use Rattle.ns_queues.proofs.BusyRows.{all_put, none_put, one_put, room_now}
use Rattle.ns_queues.proofs.busy.BusyWorkers.put_all.Goals as goal

pub loop-slot-init : goal.loop-slot-init
loop-slot-init c = none_put c.args.namespace.now c.args.changes.now c.args.self.now _ c.as_slice-slot-items.ensures c.requires

pub put-requires : goal.put-requires
put-requires c = room_now c.args.namespace.now c.args.changes.now c.args.self.now c.slot-item.result.0 c.slot-item.result.1 _ _
    (from_here c.as_slice-slot-items.result.now c.loop-slot.slot-index c.slot-item.result c.loop-slot-test.true c.slot-item.is)
    c.loop-slot.self c.loop-slot.invariant

pub loop-slot-preserved : goal.loop-slot-preserved
loop-slot-preserved c = one_put c.args.namespace.now c.args.changes.now c.args.self.now c.slot-item.result.0 c.slot-item.result.1 _ _
    (from_here c.as_slice-slot-items.result.now c.loop-slot.slot-index c.slot-item.result c.loop-slot-test.true c.slot-item.is)
    c.loop-slot.self c.loop-slot.invariant c.put.new.self c.put.ensures

pub returns : goal.returns
returns c = all_put c.args.namespace.now c.args.changes.now c.args.self.now c.loop-slot.self _
    (drop_of_length-le c.as_slice-slot-items.result.now c.loop-slot-test.false) c.loop-slot.invariant
