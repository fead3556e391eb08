use Rattle.std.proofs.Common.{take}
use Rattle.std.specs.List.{list_any}
use Rattle.ns_blocked.specs.Waking.{AddsPlaces, is_of_pool}
use Rattle.ns_blocked.proofs.finding.add_pools.Given as goal

abbrev pub invariant-loop-released : goal.invariant-loop-released
invariant-loop-released l = AddsPlaces (λ n. list_any (λ p. is_of_pool l.queue l.groups n p.pool p.classes) (take l.released-index l.pools))
    l.initial.places.keys l.places.keys
