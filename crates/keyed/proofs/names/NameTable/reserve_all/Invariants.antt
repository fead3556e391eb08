use Rattle.std.proofs.Common.{◌≡◌, take}
use Rattle.ns_types.proofs.Named.{names, one_name}
use Rattle.keyed.specs.Table.{rows}
use Rattle.keyed.proofs.Applying.{RoomLeft}
use Rattle.keyed.proofs.names.NameTable.reserve_all.Given as goal

abbrev pub invariant-loop-slot : goal.invariant-loop-slot
invariant-loop-slot g l = (rows l.self ≡ rows l.initial.self) × RoomLeft names one_name l.self (take l.slot-index l.slot-items)
