use Rattle.ns_blocked.proofs.Rooms.{IsChecking}
use Rattle.ns_blocked.proofs.list.BlockedList.append_new.Given as goal

abbrev pub invariant-loop-entry : goal.invariant-loop-entry
invariant-loop-entry l = IsChecking l.initial.self l.self l.entry-iterator.rest.items l.fn.entries
