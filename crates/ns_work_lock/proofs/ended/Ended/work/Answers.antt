use Rattle.std.proofs.Common.{ap, arith, refl, sym, ◌∙◌, ◌++◌}
use Rattle.std.specs.Prelude.{option_copied}
use Rattle.ns_types.specs.State.Rows.{State}
use Rattle.ns_types.specs.Working.Looks.{worker_at}
use Rattle.ns_driver.specs.WorkerSteps.{worker_step}
use Rattle.ns_replies.specs.Rooms.{room_of}
use Rattle.ns_steps.specs.declared.work.Work.{Work}
use Rattle.ns_steps.specs.Works.{step_of}
use Rattle.ns_work_log.specs.Logs.{next_place}
use Rattle.ns_work_log.specs.Rendered.{rendered_step}
use Rattle.ns_work_lock.specs.declared.ready.Ready.{Ready}
use Rattle.ns_work_lock.proofs.Adding.{adds_count, adds_room, seat_received}
use Rattle.ns_work_lock.proofs.Entries.{entry_behind}
use Rattle.ns_work_lock.proofs.Refusing.{gains}
use Rattle.ns_work_lock.proofs.WorkerSteps.{work_adds, work_changes, work_refused, work_row}
use Rattle.ns_work_lock.proofs.ended.Ended.work.Goals as goal

pub work_as-answer-requires : goal.work_as-answer-requires
work_as-answer-requires g c = c.in-Ok.ensures.entry
    ∙ ap (λ (kind : Work). step_of kind c.args.worker c.args.namespace.now) c.kind.ensures

pub receive_answer-requires-clause-room : goal.receive_answer-requires-clause-room
receive_answer-requires-clause-room g c =
    let worker = c.args.worker in
    let ns = c.args.namespace.now in
    let step = worker_step c.args.step worker ns in
    adds_room step c.args.self.now.held c.work_as-answer.result c.work_as-answer.new.self c.in-Ok.made.1.room
    (work_changes worker ns c.args.step)
    (ap (λ (r : Ready). r.room) c.in-Ok.ensures.made
    ∙ ap (λ (kind : Work). room_of (step_of kind worker ns) (option_copied c.row_for-row.result)) c.kind.ensures
    ∙ c.row_for-row.ensures
    ∙ ap (λ (s : State). room_of step (worker_at s.world worker ns)) c.core.ensures
    ∙ ap (room_of step) (work_row worker ns c.args.step c.args.self.now.held.state.world))
    (work_adds worker ns c.args.self.now.held c.work_as-answer.result c.work_as-answer.new.self c.args.step c.work_as-answer.ensures)

pub receive_answer-requires-clause-entry : goal.receive_answer-requires-clause-entry
receive_answer-requires-clause-entry g c = entry_behind (worker_step c.args.step c.args.worker c.args.namespace.now) c.args.self.now.held
    c.work_as-answer.result c.work_as-answer.new.self c.in-Ok.made.1.number c.log.result.now
    (work_adds c.args.worker c.args.namespace.now c.args.self.now.held c.work_as-answer.result c.work_as-answer.new.self c.args.step c.work_as-answer.ensures)
    (ap (λ (r : Ready). r.number) c.in-Ok.ensures.made) c.log.ensures.entries

pub invariant_of-self-2-clause-counted : goal.invariant_of-self-2-clause-counted
invariant_of-self-2-clause-counted g c = omega (
  arith,
  c.args.self.now.counted,
  c.receive_answer.ensures.total,
  adds_count (worker_step c.args.step c.args.worker c.args.namespace.now) c.args.self.now.held c.work_as-answer.result c.work_as-answer.new.self
      (work_adds c.args.worker c.args.namespace.now c.args.self.now.held c.work_as-answer.result c.work_as-answer.new.self c.args.step
      c.work_as-answer.ensures),
)

pub returns-clause-received : goal.returns-clause-received
returns-clause-received g c = seat_received c.seat.inside.past.receipts c.seat.inside.receipts.items c.prepare_work-prepared.new.receipts.items
    c.receive_answer.new.receipts.items c.args.seat.now c.in-Ok.made.1.place (next_place c.args.self.now.held)
    c.in-Ok.made.1.step (worker_step c.args.step c.args.worker c.args.namespace.now) (rendered_step c.work_as-answer.result)
    (rendered_step c.work_as-answer.result)
    c.receive_answer.ensures.receipts c.in-Ok.ensures.same c.seat.view_is
    (ap (λ (r : Ready). r.place) c.in-Ok.ensures.made)
    (ap (λ (r : Ready). r.step) c.in-Ok.ensures.made ∙ ap (λ (kind : Work). step_of kind c.args.worker c.args.namespace.now) c.kind.ensures) refl

pub returns-clause-seat : goal.returns-clause-seat
returns-clause-seat g c = gains (worker_step c.args.step c.args.worker c.args.namespace.now) (next_place c.args.self.now.held) c.work_as-answer.result
    c.args.seat.now (c.seat.inside.past.receipts ++ c.receive_answer.new.receipts.items)
    (work_refused c.args.worker c.args.namespace.now c.args.self.now.held c.work_as-answer.result c.work_as-answer.new.self c.args.step
    c.work_as-answer.ensures)
    (returns-clause-received g c)
