use Rattle.ns_applier.proofs.Whole.{evaluations_stay}
use Rattle.ns_applier.proofs.laws.evaluations_stay.Goals as goal

pub returns : goal.returns
returns c = evaluations_stay
