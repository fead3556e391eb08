use Rattle.std.proofs.Common.{subst, sym, ◌∙◌}
use Rattle.keyed.proofs.Levels.{not_true}
use Rattle.keyed.proofs.Mapped.{take_all}
use Rattle.ns_types.specs.State.Lists.{Each}
use Rattle.std.specs.Prelude.{IsTrue}
use Rattle.ns_queues.proofs.BusyNames.{keeps_then}
use Rattle.ns_queues.proofs.BusyRoom.{Making, RoomForRow, none_made, one_made, one_passed, room_in, row_kept}
use Rattle.ns_queues.proofs.busy.BusyWorkers.reserve_all.Goals as goal
use Rattle.ns_queues.proofs.busy.BusyWorkers.reserve_all.Goals.{then-is_some+in_ok-reserve_name, else-is_some}

pub loop-slot-init : goal.loop-slot-init
loop-slot-init c = none_made (RoomForRow c.args.namespace.now) c.args.self.now

pub returns-in_err-reserve_name-clause-same : goal.returns-in_err-reserve_name-clause-same
returns-in_err-reserve_name-clause-same c = keeps_then _ _ _ c.loop-slot.invariant.same c.reserve_name.ensures.same

pub loop-slot-preserved : goal.loop-slot-preserved
loop-slot-preserved c = elim c.if-is_some.branch [
  | then-is_some+in_ok-reserve_name w ↦ subst (λ b. Making (RoomForRow c.args.namespace.now) c.args.self.now b _) (sym w.self-is)
      (one_made (RoomForRow c.args.namespace.now) (row_kept c.args.namespace.now) c.as_slice-slot-items.result.now c.loop-slot.slot-index
      c.slot-item.result c.loop-slot-test.true c.slot-item.is c.args.self.now c.loop-slot.self w.reserve_name.new.self w.reserve_name.ensures.same
      (λ _. w.in_ok-reserve_name.ensures.ok) c.loop-slot.invariant)
  | else-is_some w ↦ one_passed (RoomForRow c.args.namespace.now) (row_kept c.args.namespace.now) c.as_slice-slot-items.result.now c.loop-slot.slot-index
      c.slot-item.result c.loop-slot-test.true c.slot-item.is c.args.self.now c.loop-slot.self c.if-is_some.self w.self-is
      (λ row. not_true (subst IsTrue (sym c.is_some.ensures ∙ w.if-is_some.false) row)) c.loop-slot.invariant
]

pub returns-clause-same : goal.returns-clause-same
returns-clause-same c = c.loop-slot.invariant.same

pub returns-clause-ok : goal.returns-clause-ok
returns-clause-ok c = room_in c.args.namespace.now c.args.changes.now c.loop-slot.self c.as_slice-slot-items.result.now c.as_slice-slot-items.ensures
    (subst (Each (λ e. RoomForRow c.args.namespace.now e c.loop-slot.self))
    (take_all c.as_slice-slot-items.result.now c.loop-slot.slot-index c.loop-slot-test.false) c.loop-slot.invariant.made)
