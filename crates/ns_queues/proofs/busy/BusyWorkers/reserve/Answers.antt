use Rattle.std.proofs.Common.{subst, sym, ◌∙◌}
use Rattle.keyed.proofs.Mapped.{take_all}
use Rattle.ns_types.specs.State.Lists.{Each}
use Rattle.ns_types.proofs.Tests.{not_Some, same_Some}
use Rattle.ns_queues.specs.Busy.{HasRoomIn}
use Rattle.ns_queues.proofs.BusyNames.{keeps_then}
use Rattle.ns_queues.proofs.BusyRoom.{Making, RoomForRows, none_made, one_made, one_passed, room_for_all, rows_kept}
use Rattle.ns_queues.proofs.busy.BusyWorkers.reserve.Goals as goal
use Rattle.ns_queues.proofs.busy.BusyWorkers.reserve.Goals.{in-Some+in_ok-reserve_all, in_default}

pub loop-slot-init : goal.loop-slot-init
loop-slot-init c = none_made RoomForRows c.args.self.now

pub returns-in_err-reserve_all-clause-same : goal.returns-in_err-reserve_all-clause-same
returns-in_err-reserve_all-clause-same c = (keeps_then _ _ _ c.loop-slot.invariant.same c.reserve_all.ensures.same).held

pub loop-slot-preserved : goal.loop-slot-preserved
loop-slot-preserved c = elim c.match-slot.branch [
  | in-Some+in_ok-reserve_all w ↦ subst (λ b. Making RoomForRows c.args.self.now b _) (sym w.self-is)
      (one_made RoomForRows rows_kept c.as_slice-slot-items.result.now c.loop-slot.slot-index c.slot-item.result c.loop-slot-test.true c.slot-item.is
      c.args.self.now c.loop-slot.self w.reserve_all.new.self w.reserve_all.ensures.same
      (λ x is. subst (λ y. HasRoomIn c.slot-item.result.0 y.rows.workers w.reserve_all.new.self)
      (same_Some w.in-Some.change x (sym w.in-Some.is ∙ is)) w.in_ok-reserve_all.ensures.ok) c.loop-slot.invariant)
  | in_default w ↦ one_passed RoomForRows rows_kept c.as_slice-slot-items.result.now c.loop-slot.slot-index c.slot-item.result c.loop-slot-test.true
      c.slot-item.is c.args.self.now c.loop-slot.self c.match-slot.self w.self-is (λ x is. absurd (not_Some x (sym w.in_default.is ∙ is)))
      c.loop-slot.invariant
]

pub returns-clause-same : goal.returns-clause-same
returns-clause-same c = c.loop-slot.invariant.same.held

pub returns-clause-ok : goal.returns-clause-ok
returns-clause-ok c = room_for_all c.args.settled.now c.loop-slot.self c.as_slice-slot-items.result.now c.as_slice-slot-items.ensures
    (subst (Each (λ e. RoomForRows e c.loop-slot.self))
    (take_all c.as_slice-slot-items.result.now c.loop-slot.slot-index c.loop-slot-test.false) c.loop-slot.invariant.made)
