use Rattle.std.proofs.Common.{◌≡◌, length}
use Rattle.std.specs.List.{filter}
use Rattle.ns_renewal.proofs.counted.split_counted.Given as goal

abbrev pub invariant-loop-eviction : goal.invariant-loop-eviction
invariant-loop-eviction g l = filter (g.C.CountsEviction.passes l.fn.of l.fn.placement) l.rest ≡
    filter (g.C.CountsEviction.passes l.fn.of l.fn.placement) l.fn.evictions

abbrev pub decreases-loop-eviction : goal.decreases-loop-eviction
decreases-loop-eviction g l = length l.rest
