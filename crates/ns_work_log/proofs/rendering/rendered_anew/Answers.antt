use Rattle.ns_work_log.proofs.Given.{refused_shown}
use Rattle.ns_work_log.proofs.rendering.rendered_anew.Goals as goal

pub returns-in-Err-clause-rendered : goal.returns-in-Err-clause-rendered
returns-in-Err-clause-rendered c = refused_shown c.refused.result c.args.answer.now c.in-Err.refusal c.in-Err.is c.refused.ensures
