use Rattle.ns_applier.proofs.Whole.{rest_stays}
use Rattle.ns_applier.proofs.laws.rest_stays.Goals as goal

pub returns : goal.returns
returns c = rest_stays
