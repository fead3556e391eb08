use Rattle.std.proofs.Common.{take}
use Rattle.ns_live_index.proofs.Forgetting.{IsForgetting}
use Rattle.ns_live_index.proofs.live.Live.forget_all.Given as goal

abbrev pub invariant-loop-slot : goal.invariant-loop-slot
invariant-loop-slot l = IsForgetting l.pool l.initial.self l.self (take l.slot-index l.slot-items)
