use Rattle.std.proofs.Common.{◌++◌}
use Rattle.ns_blocked.specs.Blocked.{entries_of}
use Rattle.ns_blocked.proofs.Rooms.{IsFilling}
use Rattle.ns_blocked.proofs.list.BlockedList.append.Given as goal

abbrev pub invariant-loop-entry : goal.invariant-loop-entry
invariant-loop-entry l = IsFilling l.self l.entry-iterator.rest.items (entries_of l.initial.self ++ l.fn.entries)
