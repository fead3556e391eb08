use Rattle.ns_laws.proofs.Choices.Placement.{none_chosen_of_none}
use Rattle.ns_laws.proofs.placement.none_chosen_of_none.Goals as goal

pub returns : goal.returns
returns c = none_chosen_of_none
