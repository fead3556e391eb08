use Rattle.std.proofs.Common.{ap, arith, refl, ◌++◌}
use Rattle.ns_types.specs.declared.step.Step.TheVariants as Step
use Rattle.ns_driver.specs.Calls.{snapped}
use Rattle.ns_work_log.specs.Logs.{next_place}
use Rattle.ns_work_log.specs.Rendered.{rendered_step}
use Rattle.ns_work_log.proofs.Adding.{logs_adds}
use Rattle.ns_work_lock.specs.declared.ready.Ready.{Ready}
use Rattle.ns_work_lock.proofs.Adding.{adds_count, adds_room, seat_received}
use Rattle.ns_work_lock.proofs.Entries.{entry_behind}
use Rattle.ns_work_lock.proofs.Refusing.{gains, logs_refused}
use Rattle.ns_work_lock.proofs.ended.Ended.snap.Goals as goal

pub receive_snapped-requires-clause-room : goal.receive_snapped-requires-clause-room
receive_snapped-requires-clause-room g c = adds_room (Step.Snap c.args.worker c.args.namespace.now) c.args.self.now.held (snapped c.snap_as-seen.result)
    c.snap_as-seen.new.self c.in_ok-entry.ready.room refl
    (ap (λ (r : Ready). r.room) c.in_ok-entry.ensures.made)
    (logs_adds (Step.Snap c.args.worker c.args.namespace.now) c.args.self.now.held (snapped c.snap_as-seen.result) c.snap_as-seen.new.self
    c.snap_as-seen.ensures.logged)

pub receive_snapped-requires-clause-entry : goal.receive_snapped-requires-clause-entry
receive_snapped-requires-clause-entry g c = entry_behind (Step.Snap c.args.worker c.args.namespace.now) c.args.self.now.held (snapped c.snap_as-seen.result)
    c.snap_as-seen.new.self c.in_ok-entry.ready.number c.log.result.now
    (logs_adds (Step.Snap c.args.worker c.args.namespace.now) c.args.self.now.held (snapped c.snap_as-seen.result) c.snap_as-seen.new.self
    c.snap_as-seen.ensures.logged)
    (ap (λ (r : Ready). r.number) c.in_ok-entry.ensures.made) c.log.ensures.entries

pub invariant_of-self-2-clause-counted : goal.invariant_of-self-2-clause-counted
invariant_of-self-2-clause-counted g c = omega (
  arith,
  c.args.self.now.counted,
  c.receive_snapped.ensures.total,
  adds_count (Step.Snap c.args.worker c.args.namespace.now) c.args.self.now.held (snapped c.snap_as-seen.result) c.snap_as-seen.new.self
      (logs_adds (Step.Snap c.args.worker c.args.namespace.now) c.args.self.now.held (snapped c.snap_as-seen.result) c.snap_as-seen.new.self
      c.snap_as-seen.ensures.logged),
)

pub returns-clause-received : goal.returns-clause-received
returns-clause-received g c = seat_received c.seat.inside.past.receipts c.seat.inside.receipts.items c.prepare_work.new.receipts.items
    c.receive_snapped.new.receipts.items c.args.seat.now c.in_ok-entry.ready.place (next_place c.args.self.now.held)
    c.in_ok-entry.ready.step (Step.Snap c.args.worker c.args.namespace.now) (rendered_step (snapped c.snap_as-seen.result))
    (rendered_step (snapped c.snap_as-seen.result))
    c.receive_snapped.ensures.receipts c.in_ok-entry.ensures.same c.seat.view_is
    (ap (λ (r : Ready). r.place) c.in_ok-entry.ensures.made) (ap (λ (r : Ready). r.step) c.in_ok-entry.ensures.made) refl

pub returns-clause-seat : goal.returns-clause-seat
returns-clause-seat g c = gains (Step.Snap c.args.worker c.args.namespace.now) (next_place c.args.self.now.held) (snapped c.snap_as-seen.result)
    c.args.seat.now (c.seat.inside.past.receipts ++ c.receive_snapped.new.receipts.items)
    (logs_refused (Step.Snap c.args.worker c.args.namespace.now) c.args.self.now.held (snapped c.snap_as-seen.result) c.snap_as-seen.new.self
    c.snap_as-seen.ensures.logged)
    (returns-clause-received g c)
