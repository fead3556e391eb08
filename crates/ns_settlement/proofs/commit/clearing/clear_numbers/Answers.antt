use Rattle.std.proofs.Math.ListN.{drop_of_length-le}
use Rattle.ns_types.proofs.Named.{numbers, one_number}
use Rattle.ns_settlement.proofs.Cleared.{all_cleared, none_cleared, one_cleared}
use Rattle.keyed.proofs.Queues.{from_here}
use Rattle.ns_settlement.proofs.commit.clearing.clear_numbers.Goals as goal

pub loop-slot-init : goal.loop-slot-init
loop-slot-init g c = none_cleared numbers one_number c.args.table.now c.args.changes.now _ c.as_slice-slot-items.ensures

pub loop-slot-preserved : goal.loop-slot-preserved
loop-slot-preserved g c = one_cleared numbers one_number c.loop-slot.table c.clear_slot.new.self c.args.table.now c.args.changes.now c.slot-item.result _ _
    (from_here c.as_slice-slot-items.result.now c.loop-slot.slot-index c.slot-item.result c.loop-slot-test.true c.slot-item.is) c.clear_slot.ensures
    c.loop-slot.invariant

pub returns-clause-cleared : goal.returns-clause-cleared
returns-clause-cleared g c = all_cleared numbers one_number c.loop-slot.table c.args.table.now c.args.changes.now _
    (drop_of_length-le c.as_slice-slot-items.result.now c.loop-slot-test.false) c.loop-slot.invariant
