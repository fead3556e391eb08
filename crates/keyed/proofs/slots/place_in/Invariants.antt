use Rattle.std.proofs.Common.{◌≤◌, ◌-◌, length}
use Rattle.keyed.specs.Slots.{Passed}
use Rattle.keyed.proofs.Places.{Ahead}
use Rattle.keyed.proofs.slots.place_in.Given as goal

abbrev pub decreases-loop-low : goal.decreases-loop-low
decreases-loop-low g l = l.high - l.low

abbrev pub invariant-loop-low : goal.invariant-loop-low
invariant-loop-low g l = record {
  in_order : l.low ≤ l.high;
  in_slots : l.high ≤ length l.slots;
  passed : Passed g.K.Ord.cmp l.key l.slots l.low;
  ahead : Ahead g.K.Ord.cmp l.key l.slots l.high;
}
