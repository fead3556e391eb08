use Rattle.std.proofs.Common.{◌++◌}
use Rattle.keyed.proofs.RoomLeft.{IsFilling}
use Rattle.keyed.proofs.queue.Queue.append.Given as goal

abbrev pub invariant-loop-row : goal.invariant-loop-row
invariant-loop-row g l = IsFilling g.R.Keyed.key_of l.self l.row-iterator.rest.items (l.initial.self.items ++ l.fn.rows)
