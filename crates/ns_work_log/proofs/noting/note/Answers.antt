use Rattle.std.proofs.Common.{ap, sym, ◌++◌, ◌∷◌, [], ◌∙◌}
use Rattle.ns_work_log.proofs.Logged.{noted_refusal}
use Rattle.ns_work_log.proofs.noting.note.Goals as goal

pub returns-in-Err : goal.returns-in-Err
returns-in-Err c = noted_refusal c.args.step c.args.answer.now c.in-Err.refusal c.refuse.result c.args.log.now.items
    c.push_reserved-in-Err.new.self.items c.in-Err.is (sym c.if-is_of_steps.ensures) c.refuse.ensures.shown
    (c.push_reserved-in-Err.ensures.items ∙ ap (λ e. c.args.log.now.items ++ e ∷ []) c.new-in-Err.ensures)
