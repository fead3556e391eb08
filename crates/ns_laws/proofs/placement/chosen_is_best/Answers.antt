use Rattle.ns_laws.proofs.Choices.Placement.{chosen_is_best}
use Rattle.ns_laws.proofs.placement.chosen_is_best.Goals as goal

pub returns : goal.returns
returns c = chosen_is_best
