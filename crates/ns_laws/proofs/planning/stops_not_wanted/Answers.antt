use Rattle.ns_laws.proofs.Plans.Planning.{stops_not_wanted}
use Rattle.ns_laws.proofs.planning.stops_not_wanted.Goals as goal

pub returns : goal.returns
returns c = stops_not_wanted
