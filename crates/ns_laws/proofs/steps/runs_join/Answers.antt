use Rattle.ns_audit.proofs.StepLemmas.{runs_join}
use Rattle.ns_laws.proofs.steps.runs_join.Goals as goal

pub returns : goal.returns
returns c = runs_join
