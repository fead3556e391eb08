use Rattle.ns_applier.proofs.Whole.{evaluations_made}
use Rattle.ns_applier.proofs.laws.evaluations_made.Goals as goal

pub returns : goal.returns
returns c = evaluations_made
