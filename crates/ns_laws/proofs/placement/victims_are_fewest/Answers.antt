use Rattle.ns_laws.proofs.Choices.Placement.{victims_are_fewest}
use Rattle.ns_laws.proofs.placement.victims_are_fewest.Goals as goal

pub returns : goal.returns
returns c = victims_are_fewest
