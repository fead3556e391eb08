use Rattle.ns_laws.proofs.Endings.Evaluations.{lost_is_evaluated}
use Rattle.ns_laws.proofs.ending.lost_is_evaluated.Goals as goal

pub returns : goal.returns
returns c = lost_is_evaluated
