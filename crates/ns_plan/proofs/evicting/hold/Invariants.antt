use Rattle.std.proofs.Common.{◌≡◌, ◌++◌, List, map, take}
use Rattle.std.specs.List.{filter}
use Rattle.ns_types.specs.State.Names.{Key}
use Rattle.ns_types.specs.Working.Commit.{counts, node_name}
use Rattle.ns_types.proofs.Once.{once}
use Rattle.ns_plan.specs.After.{after_stops, keys_of}
use Rattle.ns_plan.proofs.evicting.hold.Given as goal

abbrev pub invariant-loop-eviction : goal.invariant-loop-eviction
invariant-loop-eviction g l = (seen : List Key) → keys_of (map (λ e. e.now) l.initial.held.items) ≡ once seen →
    keys_of (map (λ e. e.now) l.held.items) ≡ once (seen ++ keys_of (filter (counts (after_stops (g.V.View.world l.view) l.snapshot.namespace l.stops)
    l.snapshot.pool (node_name l.snapshot l.placement.node)) (take l.eviction-index l.placement.evictions)))
