use Rattle.std.proofs.Common.{◌-◌, length}
use Rattle.keyed.proofs.NextRow.{NoneBefore}
use Rattle.keyed.proofs.numbers.row_from.Given as goal

abbrev pub decreases-loop-place : goal.decreases-loop-place
decreases-loop-place g l = length l.slots - l.place

abbrev pub invariant-loop-place : goal.invariant-loop-place
invariant-loop-place g l = NoneBefore l.from l.slots l.place
