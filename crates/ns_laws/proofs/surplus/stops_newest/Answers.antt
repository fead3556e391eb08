use Rattle.ns_laws.proofs.Plans.Surplus.{stops_newest}
use Rattle.ns_laws.proofs.surplus.stops_newest.Goals as goal

pub returns : goal.returns
returns c = stops_newest
