use Rattle.std.proofs.Common.{drop}
use Rattle.ns_queues.proofs.BusyRows.{Following}
use Rattle.ns_queues.proofs.busy.BusyWorkers.follow.Given as goal

abbrev pub invariant-loop-slot : goal.invariant-loop-slot
invariant-loop-slot l = Following l.tables.tenants l.settled l.initial.self l.self (drop l.slot-index l.slot-items)
