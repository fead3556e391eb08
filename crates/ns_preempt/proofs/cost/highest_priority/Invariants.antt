use Rattle.std.proofs.Common.{◌≡◌, take, map}
use Rattle.ns_types.specs.Placing.Preemption.{highest_priority}
use Rattle.ns_preempt.proofs.cost.highest_priority.Given as goal

abbrev pub invariant-loop-allocation : goal.invariant-loop-allocation
invariant-loop-allocation l = l.highest ≡ highest_priority (map (λ a. a.now) (take l.allocation-index l.allocations))
