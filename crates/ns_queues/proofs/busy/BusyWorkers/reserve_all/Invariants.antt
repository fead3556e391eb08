use Rattle.std.proofs.Common.{take}
use Rattle.ns_queues.proofs.BusyRoom.{Making, RoomForRow}
use Rattle.ns_queues.proofs.busy.BusyWorkers.reserve_all.Given as goal

abbrev pub invariant-loop-slot : goal.invariant-loop-slot
invariant-loop-slot l = Making (RoomForRow l.namespace) l.initial.self l.self (take l.slot-index l.slot-items)
