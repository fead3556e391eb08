use Rattle.ns_laws.proofs.Wakes.Numbering.{room_is_numbered}
use Rattle.ns_laws.proofs.waking.room_is_numbered.Goals as goal

pub returns : goal.returns
returns c = room_is_numbered
