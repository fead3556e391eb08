use Rattle.ns_laws.proofs.Wakes.Reasons.{woken_had_room}
use Rattle.ns_laws.proofs.woken.woken_had_room.Goals as goal

pub returns : goal.returns
returns c = woken_had_room
