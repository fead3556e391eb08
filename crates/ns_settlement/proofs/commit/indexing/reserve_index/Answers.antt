use Rattle.std.proofs.Common.{subst, sym}
use Rattle.std.proofs.Math.ListN.{drop_of_length-le}
use Rattle.ns_settlement.proofs.Following.{all_made, none_made, none_passed, one_made, Reserving}
use Rattle.keyed.proofs.Queues.{from_here}
use Rattle.ns_live_index.proofs.Kept.{kept_then}
use Rattle.ns_settlement.proofs.commit.indexing.reserve_index.Goals as goal
use Rattle.ns_settlement.proofs.commit.indexing.reserve_index.Goals.{in-Some+in_ok-reserve_all, in_default}

pub loop-slot-init : goal.loop-slot-init
loop-slot-init c = none_made c.args.changes.now c.args.live.now _ c.as_slice-slot-items.ensures

pub returns-in_err-reserve_all-clause-same : goal.returns-in_err-reserve_all-clause-same
returns-in_err-reserve_all-clause-same c = kept_then c.args.live.now c.loop-slot.live c.reserve_all.new.self c.loop-slot.invariant.same
    c.reserve_all.ensures.same

pub loop-slot-preserved : goal.loop-slot-preserved
loop-slot-preserved c =
    let is = from_here c.as_slice-slot-items.result.now c.loop-slot.slot-index c.slot-item.result c.loop-slot-test.true c.slot-item.is in
    elim c.match-slot.branch [
      | in-Some+in_ok-reserve_all w ↦ subst (λ live. Reserving c.args.changes.now c.args.live.now live _) (sym w.live-is)
          (one_made c.args.changes.now c.slot-item.result.0 c.slot-item.result.1 _ _ is c.args.live.now c.loop-slot.live c.loop-slot.invariant
          w.reserve_all.new.self w.in-Some.change w.in-Some.is w.reserve_all.ensures.same w.reserve_all.ensures.shown
          w.reserve_all.ensures.room w.in_ok-reserve_all.ensures.ok)
      | in_default w ↦ none_passed c.args.changes.now c.slot-item.result.0 c.slot-item.result.1 _ _ is c.args.live.now c.loop-slot.live
          c.loop-slot.invariant c.match-slot.live w.in_default.is w.live-is
    ]

pub returns-clause-same : goal.returns-clause-same
returns-clause-same c = c.loop-slot.invariant.same

pub returns-clause-room : goal.returns-clause-room
returns-clause-room c = all_made c.args.changes.now c.args.live.now c.loop-slot.live _
    (drop_of_length-le c.as_slice-slot-items.result.now c.loop-slot-test.false) c.loop-slot.invariant
