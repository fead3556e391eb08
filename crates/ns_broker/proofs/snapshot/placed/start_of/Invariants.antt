use Rattle.std.proofs.Common.{◌≡◌, ◌≤◌, ◌+◌, length, take}
use Rattle.ns_broker.specs.Seen.{past_in}
use Rattle.ns_broker.proofs.snapshot.placed.start_of.Given as goal

abbrev pub invariant-loop-start : goal.invariant-loop-start
invariant-loop-start l = (l.start ≤ length l.fn.slots)
    × (past_in l.fn.last l.fn.allocations (take l.start l.fn.slots) ≤ l.left)
    × (l.left + past_in l.fn.last l.fn.allocations l.fn.slots
    ≡ l.initial.left + past_in l.fn.last l.fn.allocations (take l.start l.fn.slots))

abbrev pub decreases-loop-start : goal.decreases-loop-start
decreases-loop-start l = l.start
