use Rattle.std.proofs.Common.{take}
use Rattle.ns_live_index.proofs.Changing.{IsReserving}
use Rattle.ns_live_index.proofs.live.Live.reserve_all.Given as goal

abbrev pub invariant-loop-slot : goal.invariant-loop-slot
invariant-loop-slot l = IsReserving l.namespace l.initial.self l.self (take l.slot-index l.slot-items)
