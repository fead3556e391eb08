use Rattle.std.proofs.Common.{◌≡◌, take}
use Rattle.ns_types.proofs.Named.{numbers, one_number}
use Rattle.keyed.specs.Table.{rows}
use Rattle.keyed.proofs.Applying.{RoomLeft}
use Rattle.keyed.proofs.numbers.NumberTable.reserve_all.Given as goal

abbrev pub invariant-loop-slot : goal.invariant-loop-slot
invariant-loop-slot g l = (rows l.self ≡ rows l.initial.self) × RoomLeft numbers one_number l.self (take l.slot-index l.slot-items)
