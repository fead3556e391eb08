use Rattle.ns_audit.proofs.StepLemmas.{run_splits}
use Rattle.ns_laws.proofs.steps.run_splits.Goals as goal

pub returns : goal.returns
returns c = run_splits
