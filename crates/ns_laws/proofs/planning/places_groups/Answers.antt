use Rattle.ns_laws.proofs.Plans.Planning.{places_groups}
use Rattle.ns_laws.proofs.planning.places_groups.Goals as goal

pub returns : goal.returns
returns c = places_groups
