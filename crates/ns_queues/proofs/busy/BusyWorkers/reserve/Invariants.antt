use Rattle.std.proofs.Common.{take}
use Rattle.ns_queues.proofs.BusyRoom.{Making, RoomForRows}
use Rattle.ns_queues.proofs.busy.BusyWorkers.reserve.Given as goal

abbrev pub invariant-loop-slot : goal.invariant-loop-slot
invariant-loop-slot l = Making RoomForRows l.initial.self l.self (take l.slot-index l.slot-items)
