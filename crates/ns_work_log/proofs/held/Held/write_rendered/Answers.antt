use Rattle.std.proofs.Common.{ap, sym, subst, ◌∙◌}
use Rattle.ns_types.specs.Steps.{Makes}
use Rattle.ns_replies.specs.Rooms.{room_of}
use Rattle.ns_work_log.specs.Noting.{noted}
use Rattle.ns_work_log.proofs.Given.{call_gives}
use Rattle.ns_work_log.proofs.Logged.{call_keeps, history}
use Rattle.ns_work_log.proofs.Rooms.{enough_made, row_none}
use Rattle.ns_work_log.proofs.held.Held.write_rendered.Goals as goal

pub note_given-given-requires-clause-room : goal.note_given-given-requires-clause-room
note_given-given-requires-clause-room c = enough_made c.args.step c.self.inside.core c.take-answer.result c.take-answer.new.core c.in_ok-step.rooms.entry
    c.requires.writes
    (c.in_ok-step.ensures.entry ∙ ap (room_of c.args.step) (sym (row_none c.args.step c.self.inside.core.world c.requires.served)))
    (subst (λ step. Makes step c.self.inside.core c.take-answer.result c.take-answer.new.core) c.in_ok-step.ensures.step c.take-answer.ensures)

pub invariant_of-self-2 : goal.invariant_of-self-2
invariant_of-self-2 c = (
  call_keeps c.self.inside.base.value c.self.inside.limit c.self.inside.log.items c.note_given-given.new.log.items c.self.inside.core
      c.args.step c.in_ok-step.step c.take-answer.result c.take-answer.new.core c.self.invariant.0.0 c.in_ok-step.ensures.begins
      (subst (λ step. Makes step c.self.inside.core c.take-answer.result c.take-answer.new.core) c.in_ok-step.ensures.step c.take-answer.ensures)
      c.in_ok-step.ensures.step (c.note_given-given.ensures.noted ∙ ap (noted c.in_ok-step.step c.take-answer.result) c.in_ok-step.ensures.same),
  c.self.invariant.1,
)

pub returns : goal.returns
returns c = call_gives (history c.self.inside.base.value c.self.inside.start c.self.inside.log.items c.self.inside.core c.self.inside.limit) c.args.self.now
    c.note_given-given.new.log.items c.args.step c.in_ok-step.step c.take-answer.result c.take-answer.new.core c.note_given-given.result (sym c.self.view_is)
    c.in_ok-step.ensures.begins
    (subst (λ step. Makes step c.self.inside.core c.take-answer.result c.take-answer.new.core) c.in_ok-step.ensures.step c.take-answer.ensures)
    c.in_ok-step.ensures.step (c.note_given-given.ensures.noted ∙ ap (noted c.in_ok-step.step c.take-answer.result) c.in_ok-step.ensures.same)
    c.note_given-given.ensures.answer c.note_given-given.ensures.given c.note_given-given.ensures.none c.note_given-given.ensures.memory
