use Rattle.ns_laws.proofs.Choices.Placement.{room_is_made}
use Rattle.ns_laws.proofs.placement.room_is_made.Goals as goal

pub returns : goal.returns
returns c = room_is_made
