use Rattle.ns_audit.proofs.StepLemmas.{refusal_leaves_all}
use Rattle.ns_laws.proofs.steps.refusal_leaves_all.Goals as goal

pub returns : goal.returns
returns c = refusal_leaves_all
