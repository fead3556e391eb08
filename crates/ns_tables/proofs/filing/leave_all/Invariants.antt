use Rattle.std.proofs.Common.{drop}
use Rattle.ns_tables.proofs.Filed.{IsLeaving}
use Rattle.ns_tables.proofs.filing.leave_all.Given as goal

abbrev pub invariant-loop-slot : goal.invariant-loop-slot
invariant-loop-slot g l = IsLeaving g.F.Filing.name_of l.before l.numbers l.initial.numbers (drop l.slot-index l.slots) l.slots
