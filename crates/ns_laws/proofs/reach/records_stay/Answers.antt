use Rattle.ns_laws.proofs.Scope.Asks.{records_stay}
use Rattle.ns_laws.proofs.reach.records_stay.Goals as goal

pub returns : goal.returns
returns c = records_stay
