use Rattle.ns_laws.proofs.Plans.Planning.{places_on_fit_nodes}
use Rattle.ns_laws.proofs.planning.places_on_fit_nodes.Goals as goal

pub returns : goal.returns
returns c = places_on_fit_nodes
