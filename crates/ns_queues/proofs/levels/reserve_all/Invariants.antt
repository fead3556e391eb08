use Rattle.std.proofs.Common.{drop}
use Rattle.ns_queues.proofs.Grouped.{Reserving}
use Rattle.ns_queues.proofs.levels.reserve_all.Given as goal

abbrev pub invariant-loop-slot : goal.invariant-loop-slot
invariant-loop-slot l = Reserving l.groups l.initial.levels l.levels (drop l.slot-index l.slot-items)
