use Rattle.std.proofs.Common.{drop}
use Rattle.ns_tables.proofs.Filed.{IsInserting}
use Rattle.ns_tables.proofs.filing.insert_all.Given as goal

abbrev pub invariant-loop-slot : goal.invariant-loop-slot
invariant-loop-slot g l = IsInserting g.F.Filing.name_of l.numbers l.initial.numbers (drop l.slot-index l.slots) l.slots
