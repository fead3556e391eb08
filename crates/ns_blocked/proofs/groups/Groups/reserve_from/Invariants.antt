use Rattle.std.proofs.Common.{◌≡◌, ◌+◌, take}
use Rattle.keyed.specs.Levels.{Keeps}
use Rattle.ns_blocked.specs.Groups.{HasGroupRoom, has_waiting_room, holds_waiting}
use Rattle.ns_blocked.proofs.groups.Groups.reserve_from.Given as goal

abbrev pub invariant-loop-entry : goal.invariant-loop-entry
invariant-loop-entry l = (l.place ≡ l.fn.first + l.entry-index) × Keeps holds_waiting has_waiting_room l.fn.self l.self
    × HasGroupRoom l.fn.first (take l.entry-index l.entries) l.self
