use Rattle.ns_applier.proofs.Judged.{room_is_left}
use Rattle.ns_applier.proofs.laws.room_is_left.Goals as goal

pub returns : goal.returns
returns c = room_is_left
