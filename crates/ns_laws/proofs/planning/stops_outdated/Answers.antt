use Rattle.ns_laws.proofs.Plans.Planning.{stops_outdated}
use Rattle.ns_laws.proofs.planning.stops_outdated.Goals as goal

pub returns : goal.returns
returns c = stops_outdated
