use Rattle.ns_laws.proofs.Plans.InTurn.{places_by_choice}
use Rattle.ns_laws.proofs.planning.places_by_choice.Goals as goal

pub returns : goal.returns
returns c = places_by_choice
