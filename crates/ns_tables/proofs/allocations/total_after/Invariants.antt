use Rattle.std.proofs.Common.{take}
use Rattle.ns_types.specs.State.Resources.{InEach, IsCounted, quantity}
use Rattle.ns_tables.specs.Allocations.{IsMoved}
use Rattle.ns_tables.proofs.allocations.total_after.Given as goal

abbrev pub invariant-loop-slot : goal.invariant-loop-slot
invariant-loop-slot l = IsCounted l.sum × InEach (λ r. IsMoved (quantity r) l.slots (take l.slot-index l.changes) l.fn.total l.sum)
