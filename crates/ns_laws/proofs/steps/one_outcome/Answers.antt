use Rattle.ns_audit.proofs.StepLemmas.{one_outcome}
use Rattle.ns_laws.proofs.steps.one_outcome.Goals as goal

pub returns : goal.returns
returns c = one_outcome
