use Rattle.std.proofs.Common.{drop}
use Rattle.ns_types.proofs.Named.{names, one_name}
use Rattle.ns_settlement.proofs.Cleared.{Clearing}
use Rattle.ns_settlement.proofs.commit.clearing.clear_names.Given as goal

abbrev pub invariant-loop-slot : goal.invariant-loop-slot
invariant-loop-slot g l = Clearing names one_name l.table l.initial.table (drop l.slot-index l.slot-items) l.changes
