use Rattle.std.specs.Prelude.{option_copied}
use Rattle.std.proofs.Common.{ap, sym, ◌∙◌}
use Rattle.ns_driver.specs.WorkerSteps.{worker_step}
use Rattle.ns_replies.specs.Rooms.{room_of}
use Rattle.ns_work_log.specs.Noting.{noted}
use Rattle.ns_work_log.proofs.Logged.{history, kept_as}
use Rattle.ns_work_log.proofs.WorkerSteps.{call_logs_worker_step, enough_worker_step, worker_step_keeps}
use Rattle.ns_work_log.proofs.held.Held.work_as.Goals as goal

pub note-requires-clause-room : goal.note-requires-clause-room
note-requires-clause-room c = enough_worker_step c.args.worker c.args.namespace.now c.args.step c.self.inside.core c.work-answer.result
    c.work-answer.new.self c.in-Ok.prepared.1
    (ap (λ m. m.1) c.in-Ok.ensures.made ∙ ap (λ step. room_of step (option_copied c.row_for-row.result)) c.requires ∙ c.row_for-row.ensures)
    c.work-answer.ensures

pub invariant_of-self-2 : goal.invariant_of-self-2
invariant_of-self-2 c = (
  kept_as c.self.inside.base.value c.self.inside.limit c.self.inside.log.items c.note.new.log.items
      (worker_step c.args.step c.args.worker c.args.namespace.now) c.in-Ok.prepared.0 c.work-answer.result c.work-answer.new.self
      (ap (λ m. m.0) c.in-Ok.ensures.made ∙ c.requires)
      (c.note.ensures ∙ ap (noted c.in-Ok.prepared.0 c.work-answer.result) c.in-Ok.ensures.same)
      (worker_step_keeps c.args.worker c.args.namespace.now c.args.step c.self.inside.base.value c.self.inside.limit c.self.inside.log.items
      c.self.inside.core c.work-answer.result c.work-answer.new.self c.self.invariant.0.0 c.in-Ok.ensures.begins c.work-answer.ensures),
  c.self.invariant.1,
)

pub returns : goal.returns
returns c = call_logs_worker_step c.args.worker c.args.namespace.now c.args.step
    (history c.self.inside.base.value c.self.inside.start c.self.inside.log.items c.self.inside.core c.self.inside.limit) c.args.self.now
    c.note.new.log.items c.in-Ok.prepared.0 c.work-answer.result c.work-answer.new.self (sym c.self.view_is) c.in-Ok.ensures.begins
    c.work-answer.ensures (ap (λ m. m.0) c.in-Ok.ensures.made ∙ c.requires)
    (c.note.ensures ∙ ap (noted c.in-Ok.prepared.0 c.work-answer.result) c.in-Ok.ensures.same)
