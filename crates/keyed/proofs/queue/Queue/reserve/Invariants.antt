use Rattle.std.proofs.Common.{◌≡◌, ◌+◌, take}
use Rattle.keyed.specs.Queue.{HasRoomFrom, KeepsPlaces}
use Rattle.keyed.proofs.queue.Queue.reserve.Given as goal

abbrev pub invariant-loop-row : goal.invariant-loop-row
invariant-loop-row g l = (l.place ≡ l.self.next + l.row-index) × (l.self.items ≡ l.fn.self.items) × KeepsPlaces l.fn.self l.self
    × HasRoomFrom g.R.Keyed.key_of l.self.next (take l.row-index l.rows) l.self.placed
