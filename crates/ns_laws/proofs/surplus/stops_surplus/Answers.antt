use Rattle.ns_laws.proofs.Plans.Surplus.{stops_surplus}
use Rattle.ns_laws.proofs.surplus.stops_surplus.Goals as goal

pub returns : goal.returns
returns c = stops_surplus
