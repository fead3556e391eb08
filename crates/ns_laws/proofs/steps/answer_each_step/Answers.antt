use Rattle.ns_audit.proofs.StepLemmas.{answer_each_step}
use Rattle.ns_laws.proofs.steps.answer_each_step.Goals as goal

pub returns : goal.returns
returns c = answer_each_step
