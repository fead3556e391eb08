use Rattle.std.proofs.Common.{◌≡◌, take, map}
use Rattle.ns_types.specs.State.Resources.{total}
use Rattle.ns_place.proofs.amounts.total.Given as goal

abbrev pub invariant-loop-allocation : goal.invariant-loop-allocation
invariant-loop-allocation l = l.sum ≡ total (λ a. a.size) (map (λ a. a.now) (take l.allocation-index l.allocations))
