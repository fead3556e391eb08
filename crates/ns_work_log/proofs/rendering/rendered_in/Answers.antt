use Rattle.std.proofs.Common.{sym}
use Rattle.ns_work_log.proofs.Given.{rendered_refusal}
use Rattle.ns_work_log.proofs.rendering.rendered_in.Goals as goal

pub returns-in-Err-clause-shown : goal.returns-in-Err-clause-shown
returns-in-Err-clause-shown c = rendered_refusal c.args.answer.now c.in-Err.refusal c.refuse.result c.in-Err.is
    (sym c.if-is_of_steps.ensures) c.refuse.ensures.shown
