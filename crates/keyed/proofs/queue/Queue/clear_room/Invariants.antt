use Rattle.std.proofs.Common.{◌≡◌, ◌≤◌}
use Rattle.keyed.proofs.queue.Queue.clear_room.Given as goal

abbrev pub invariant-loop-row : goal.invariant-loop-row
invariant-loop-row g l = (l.self.items ≡ l.fn.self.items) × (l.self.next ≤ l.place)
