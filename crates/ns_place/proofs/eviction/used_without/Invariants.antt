use Rattle.std.proofs.Common.{◌≡◌, take, map}
use Rattle.std.specs.List.{filter}
use Rattle.ns_types.specs.Placing.Planning.{counts_for}
use Rattle.ns_types.specs.State.Resources.{minus, total}
use Rattle.ns_place.proofs.eviction.used_without.Given as goal

abbrev pub invariant-loop-a : goal.invariant-loop-a
invariant-loop-a l = l.left ≡ minus l.fn.used (total (λ x. x.size) (filter (counts_for l.quota) (map (λ x. x.now) (take l.a-index l.victims))))
