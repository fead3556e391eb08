use Rattle.std.proofs.Common.{sym}
use Rattle.ns_work_log.proofs.Given.{read_gives, read_keeps}
use Rattle.ns_work_log.proofs.Logged.{history}
use Rattle.ns_work_log.proofs.Reading.{read_rests}
use Rattle.ns_work_log.proofs.held.Held.read_rendered.Goals as goal

pub invariant_of-self-2 : goal.invariant_of-self-2
invariant_of-self-2 c = (
  read_keeps c.give-given.result c.self.inside.base.value c.self.inside.limit c.self.inside.log.items c.begin.new.log.items
      c.give-given.new.log.items c.self.inside.core c.take-answer.new.core c.args.step c.take-answer.result c.self.invariant.0.0
      c.in_default.ensures.begins c.take-answer.ensures
      (read_rests c.args.step c.self.inside.core c.take-answer.result c.take-answer.new.core c.requires.served c.requires.reads c.take-answer.ensures)
      c.in_default.ensures.same c.give-given.ensures.noted c.give-given.ensures.same,
  c.self.invariant.1,
)

pub returns : goal.returns
returns c = read_gives c.give-given.result (history c.self.inside.base.value c.self.inside.start c.self.inside.log.items c.self.inside.core c.self.inside.limit)
    c.args.self.now c.begin.new.log.items c.give-given.new.log.items c.args.step c.take-answer.result c.take-answer.new.core
    (sym c.self.view_is) c.in_default.ensures.begins c.take-answer.ensures
    (read_rests c.args.step c.self.inside.core c.take-answer.result c.take-answer.new.core c.requires.served c.requires.reads c.take-answer.ensures)
    c.in_default.ensures.same c.give-given.ensures.answer c.give-given.ensures.given c.give-given.ensures.noted c.give-given.ensures.same
    c.give-given.ensures.memory
