use Rattle.std.proofs.Common.{take}
use Rattle.ns_settlement.specs.Reached.{AreOfRooms}
use Rattle.ns_settlement.proofs.reached.pools_of.Given as goal

abbrev pub invariant-loop-room : goal.invariant-loop-room
invariant-loop-room l = AreOfRooms (take l.room-index l.rooms) l.pools
