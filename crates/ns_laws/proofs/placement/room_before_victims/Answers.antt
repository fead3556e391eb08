use Rattle.ns_laws.proofs.Choices.Placement.{room_before_victims}
use Rattle.ns_laws.proofs.placement.room_before_victims.Goals as goal

pub returns : goal.returns
returns c = room_before_victims
