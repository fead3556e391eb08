use Rattle.ns_laws.proofs.Plans.InTurn.{places_in_order}
use Rattle.ns_laws.proofs.planning.places_in_order.Goals as goal

pub returns : goal.returns
returns c = places_in_order
