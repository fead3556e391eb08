use Rattle.ns_laws.proofs.Choices.Placement.{fewest_are_victims}
use Rattle.ns_laws.proofs.placement.fewest_are_victims.Goals as goal

pub returns : goal.returns
returns c = fewest_are_victims
