use Rattle.ns_laws.proofs.Choices.Placement.{no_choice_of_none}
use Rattle.ns_laws.proofs.placement.no_choice_of_none.Goals as goal

pub returns : goal.returns
returns c = no_choice_of_none
