use Rattle.ns_applier.proofs.Whole.{namespaces_stay}
use Rattle.ns_applier.proofs.laws.namespaces_stay.Goals as goal

pub returns : goal.returns
returns c = namespaces_stay
