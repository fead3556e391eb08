use Rattle.std.proofs.Common.{◌≡◌, take, map}
use Rattle.ns_types.specs.Placing.Planning.{eviction_of}
use Rattle.ns_place.proofs.eviction.evictions.Given as goal

abbrev pub invariant-loop-a : goal.invariant-loop-a
invariant-loop-a l = l.rows ≡ map eviction_of (map (λ x. x.now) (take l.a-index l.victims))
