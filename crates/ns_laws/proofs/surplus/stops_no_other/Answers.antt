use Rattle.ns_laws.proofs.Plans.Surplus.{stops_no_other}
use Rattle.ns_laws.proofs.surplus.stops_no_other.Goals as goal

pub returns : goal.returns
returns c = stops_no_other
