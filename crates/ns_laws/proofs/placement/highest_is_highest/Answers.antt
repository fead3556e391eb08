use Rattle.ns_laws.proofs.Choices.Placement.{highest_is_highest}
use Rattle.ns_laws.proofs.placement.highest_is_highest.Goals as goal

pub returns : goal.returns
returns c = highest_is_highest
