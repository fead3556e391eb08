use Rattle.std.proofs.Common.{drop}
use Rattle.ns_queues.proofs.BusyRows.{Putting}
use Rattle.ns_queues.proofs.busy.BusyWorkers.put_all.Given as goal

abbrev pub invariant-loop-slot : goal.invariant-loop-slot
invariant-loop-slot l = Putting l.namespace l.changes l.initial.self l.self (drop l.slot-index l.slot-items)
