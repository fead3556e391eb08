use Rattle.ns_laws.proofs.Wakes.Waking.{none_sleeps_over_room}
use Rattle.ns_laws.proofs.waking.none_sleeps_over_room.Goals as goal

pub returns : goal.returns
returns c = none_sleeps_over_room
