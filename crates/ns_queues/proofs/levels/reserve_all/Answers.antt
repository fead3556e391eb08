use Rattle.std.proofs.Common.{subst, sym}
use Rattle.std.proofs.Math.ListN.{drop_of_length-le}
use Rattle.keyed.proofs.Queues.{from_here}
use Rattle.ns_queues.proofs.Grouped.{Reserving, all_reserved, none_passed, none_reserved, one_reserved}
use Rattle.ns_queues.proofs.Leveled.{same_then}
use Rattle.keyed.specs.Table.{row_at}
use Rattle.ns_queues.specs.Ready.{CanAddTo}
use Rattle.ns_queues.proofs.levels.reserve_all.Goals as goal
use Rattle.ns_queues.proofs.levels.reserve_all.Goals.{in-Some+in_ok-reserve, in_default}

pub loop-slot-init : goal.loop-slot-init
loop-slot-init c = none_reserved c.args.groups.now c.args.levels.now _ c.as_slice-slot-items.ensures

pub loop-slot-preserved : goal.loop-slot-preserved
loop-slot-preserved c =
    let is = from_here c.as_slice-slot-items.result.now c.loop-slot.slot-index c.slot-item.result c.loop-slot-test.true c.slot-item.is in
    elim c.match-slot.branch [
      | in-Some+in_ok-reserve w ↦ subst (λ levels. Reserving c.args.groups.now c.args.levels.now levels _) (sym w.levels-is)
          (one_reserved c.args.groups.now c.slot-item.result.0 c.slot-item.result.1 _ _ is c.args.levels.now c.loop-slot.levels c.loop-slot.invariant
          w.reserve.new.levels w.in-Some.keys w.in-Some.is w.reserve.ensures.same w.reserve.ensures.others
          (subst (CanAddTo (row_at w.reserve.new.levels c.slot-item.result.0)) w.as_slice.ensures w.in_ok-reserve.ensures.ok))
      | in_default w ↦ none_passed c.args.groups.now c.slot-item.result.0 c.slot-item.result.1 _ _ is c.args.levels.now c.loop-slot.levels
          c.loop-slot.invariant c.match-slot.levels w.in_default.is w.levels-is
    ]

pub returns-in_err-reserve-clause-same : goal.returns-in_err-reserve-clause-same
returns-in_err-reserve-clause-same c = same_then _ _ _ c.loop-slot.invariant.same c.reserve.ensures.same

pub returns-clause-same : goal.returns-clause-same
returns-clause-same c = c.loop-slot.invariant.same

pub returns-clause-ok : goal.returns-clause-ok
returns-clause-ok c = all_reserved c.args.groups.now c.args.levels.now c.loop-slot.levels _
    (drop_of_length-le c.as_slice-slot-items.result.now c.loop-slot-test.false) c.loop-slot.invariant
