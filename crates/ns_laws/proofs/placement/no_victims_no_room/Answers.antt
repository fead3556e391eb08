use Rattle.ns_laws.proofs.Choices.Placement.{no_victims_no_room}
use Rattle.ns_laws.proofs.placement.no_victims_no_room.Goals as goal

pub returns : goal.returns
returns c = no_victims_no_room
