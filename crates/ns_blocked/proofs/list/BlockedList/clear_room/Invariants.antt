use Rattle.std.proofs.Common.{◌≡◌, ◌≤◌}
use Rattle.ns_blocked.specs.Blocked.{entries_of}
use Rattle.ns_blocked.proofs.list.BlockedList.clear_room.Given as goal

abbrev pub invariant-loop-entry : goal.invariant-loop-entry
invariant-loop-entry l = (entries_of l.self ≡ entries_of l.fn.self) × (l.self.queue.next ≤ l.place)
