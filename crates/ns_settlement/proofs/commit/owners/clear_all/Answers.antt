use Rattle.std.proofs.Common.{sym, subst}
use Rattle.std.proofs.Math.ListN.{drop_of_length-le}
use Rattle.keyed.proofs.Queues.{from_here}
use Rattle.ns_settlement.specs.Owners.{Always}
use Rattle.ns_settlement.proofs.Reserved.{Reserved, all_reserved, always_carries, none_reserved, one_reserved, same_owners, slot_passed}
use Rattle.ns_settlement.proofs.commit.owners.clear_all.Goals as goal
use Rattle.ns_settlement.proofs.commit.owners.clear_all.Goals.{in-Some, in_default}

pub loop-slot-init : goal.loop-slot-init
loop-slot-init g c = none_reserved g.Row.Owner.seen Always g.Row.Owner.IsCleared (always_carries g.Row.Owner.seen) c.args.table.now c.args.changes.now _
    c.as_slice-slot-items.ensures (λ name x row at there. tt)

pub loop-slot-preserved : goal.loop-slot-preserved
loop-slot-preserved g c =
    let is = from_here c.as_slice-slot-items.result.now c.loop-slot.slot-index c.slot-item.result c.loop-slot-test.true c.slot-item.is in
    elim c.match-slot.branch [
      | in-Some w ↦ subst (λ m. Reserved g.Row.Owner.seen Always g.Row.Owner.IsCleared (always_carries g.Row.Owner.seen) m c.args.table.now _
          c.args.changes.now) (sym w.table-is)
          (one_reserved g.Row.Owner.seen Always g.Row.Owner.IsCleared (always_carries g.Row.Owner.seen) c.loop-slot.table w.clear_one.new.table c.args.table.now
          c.slot-item.result.0 c.slot-item.result.1 _ _ c.args.changes.now is c.loop-slot.invariant w.in-Some.change w.in-Some.is
          w.clear_one.ensures.rows w.clear_one.ensures.cleared)
      | in_default w ↦ slot_passed g.Row.Owner.seen Always g.Row.Owner.IsCleared (always_carries g.Row.Owner.seen) c.loop-slot.table c.match-slot.table
          c.args.table.now
          c.slot-item.result.0 c.slot-item.result.1 _ _ c.args.changes.now is c.loop-slot.invariant w.in_default.is w.table-is
    ]

pub returns-clause-rows : goal.returns-clause-rows
returns-clause-rows g c = same_owners g.Row.Owner.seen Always g.Row.Owner.IsCleared (always_carries g.Row.Owner.seen) c.loop-slot.table c.args.table.now _
    c.args.changes.now c.loop-slot.invariant

pub returns-clause-cleared : goal.returns-clause-cleared
returns-clause-cleared g c = all_reserved g.Row.Owner.seen Always g.Row.Owner.IsCleared (always_carries g.Row.Owner.seen) c.loop-slot.table c.args.table.now _
    c.args.changes.now (drop_of_length-le c.as_slice-slot-items.result.now c.loop-slot-test.false) c.loop-slot.invariant
