use Rattle.std.proofs.Common.{ap, ◌++◌, ◌∷◌, [], ◌∙◌}
use Rattle.ns_work_log.proofs.Given.{noted_shown}
use Rattle.ns_work_log.proofs.rendered.give.Goals as goal

pub returns-in-Ok-clause-noted : goal.returns-in-Ok-clause-noted
returns-in-Ok-clause-noted c = noted_shown c.args.step c.args.answer.now c.args.log.now.items c.push_reserved.new.self.items c.in-Ok.shown
    c.in-Ok.ensures.answer c.in-Ok.ensures.rendered
    (c.push_reserved.ensures.items ∙ ap (λ e. c.args.log.now.items ++ e ∷ []) c.new.ensures)
