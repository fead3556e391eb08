use Rattle.std.proofs.Common.{sym, subst}
use Rattle.std.proofs.Math.ListN.{drop_of_length-le}
use Rattle.keyed.proofs.Queues.{from_here}
use Rattle.ns_settlement.proofs.Reserved.{all_reserved, can_now, Reserved, none_reserved, one_reserved, owners_after, same_owners, slot_passed}
use Rattle.ns_settlement.proofs.commit.owners.reserve_all.Goals as goal
use Rattle.ns_settlement.proofs.commit.owners.reserve_all.Goals.{in-Some+in_ok-reserve_one, in_default}

pub loop-slot-init : goal.loop-slot-init
loop-slot-init g c = none_reserved g.Row.Owner.seen g.Row.Owner.CanChange g.Row.Owner.HasRoom g.met.Row.Owner.carries c.args.table.now c.args.changes.now _
    c.as_slice-slot-items.ensures c.requires

pub reserve_one-requires : goal.reserve_one-requires
reserve_one-requires g c = can_now g.Row.Owner.seen g.Row.Owner.CanChange g.Row.Owner.HasRoom g.met.Row.Owner.carries c.loop-slot.table c.loop-slot.table
    c.args.table.now c.slot-item.result.0
    c.slot-item.result.1 _ _ c.args.changes.now (from_here c.as_slice-slot-items.result.now c.loop-slot.slot-index c.slot-item.result c.loop-slot-test.true
    c.slot-item.is)
    c.loop-slot.invariant c.in-Some.change c.in-Some.is

pub loop-slot-preserved : goal.loop-slot-preserved
loop-slot-preserved g c =
    let is = from_here c.as_slice-slot-items.result.now c.loop-slot.slot-index c.slot-item.result c.loop-slot-test.true c.slot-item.is in
    elim c.match-slot.branch [
      | in-Some+in_ok-reserve_one w ↦ subst (λ m. Reserved g.Row.Owner.seen g.Row.Owner.CanChange g.Row.Owner.HasRoom g.met.Row.Owner.carries m
          c.args.table.now _ c.args.changes.now) (sym
          w.table-is)
          (one_reserved g.Row.Owner.seen g.Row.Owner.CanChange g.Row.Owner.HasRoom g.met.Row.Owner.carries c.loop-slot.table w.reserve_one.new.table
          c.args.table.now c.slot-item.result.0
          c.slot-item.result.1
          _ _ c.args.changes.now is c.loop-slot.invariant w.in-Some.change w.in-Some.is w.reserve_one.ensures.rows w.in_ok-reserve_one.ensures.room)
      | in_default w ↦ slot_passed g.Row.Owner.seen g.Row.Owner.CanChange g.Row.Owner.HasRoom g.met.Row.Owner.carries c.loop-slot.table c.match-slot.table
          c.args.table.now c.slot-item.result.0
          c.slot-item.result.1
          _ _ c.args.changes.now is c.loop-slot.invariant w.in_default.is w.table-is
    ]

pub returns-in_err-reserve_one-clause-rows : goal.returns-in_err-reserve_one-clause-rows
returns-in_err-reserve_one-clause-rows g c = owners_after g.Row.Owner.seen g.Row.Owner.CanChange g.Row.Owner.HasRoom g.met.Row.Owner.carries c.loop-slot.table
    c.reserve_one.new.table
    c.args.table.now
    c.slot-item.result.0 c.slot-item.result.1 _ _ c.args.changes.now (from_here c.as_slice-slot-items.result.now c.loop-slot.slot-index c.slot-item.result
    c.loop-slot-test.true c.slot-item.is)
    c.loop-slot.invariant c.reserve_one.ensures.rows

pub returns-clause-rows : goal.returns-clause-rows
returns-clause-rows g c = same_owners g.Row.Owner.seen g.Row.Owner.CanChange g.Row.Owner.HasRoom g.met.Row.Owner.carries c.loop-slot.table c.args.table.now _
    c.args.changes.now
    c.loop-slot.invariant

pub returns-clause-room : goal.returns-clause-room
returns-clause-room g c = all_reserved g.Row.Owner.seen g.Row.Owner.CanChange g.Row.Owner.HasRoom g.met.Row.Owner.carries c.loop-slot.table c.args.table.now _
    c.args.changes.now
    (drop_of_length-le c.as_slice-slot-items.result.now c.loop-slot-test.false) c.loop-slot.invariant
