use Rattle.std.proofs.Common.{◌≡◌, ◌≤◌, length, take}
use Rattle.keyed.specs.Table.{row_list}
use Rattle.keyed.proofs.slots.count_rows.Given as goal

abbrev pub invariant-loop-slot : goal.invariant-loop-slot
invariant-loop-slot g l = (l.count ≡ length (row_list (take l.slot-index l.slots))) × (l.count ≤ l.slot-index)
