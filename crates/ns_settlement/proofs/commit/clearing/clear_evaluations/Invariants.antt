use Rattle.std.proofs.Common.{drop}
use Rattle.ns_types.proofs.Named.{numbers, one_number}
use Rattle.ns_settlement.proofs.Cleared.{Clearing}
use Rattle.ns_settlement.proofs.commit.clearing.clear_evaluations.Given as goal

abbrev pub invariant-loop-slot : goal.invariant-loop-slot
invariant-loop-slot l = Clearing numbers one_number l.table.slots l.initial.table.slots (drop l.slot-index l.slot-items) l.changes
