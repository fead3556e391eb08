use Rattle.std.proofs.Common.{◌≡◌, map, take}
use Rattle.std.specs.List.{filter}
use Rattle.ns_types.specs.State.Names.{has_number}
use Rattle.ns_types.specs.Working.Commit.{victims_of}
use Rattle.ns_types.proofs.Once.{once}
use Rattle.ns_plan.specs.After.{after_stops, keys_of}
use Rattle.ns_plan.proofs.evicting.victims.Given as goal

abbrev pub invariant-loop-placement : goal.invariant-loop-placement
invariant-loop-placement g l = keys_of (map (λ e. e.now) l.held.items) ≡ once (keys_of
    (victims_of (after_stops (g.V.View.world l.view) l.snapshot.namespace l.plan.stops) l.snapshot
    (filter (λ p. has_number l.committed p.node) (take l.placement-index l.plan.placing.placements))))
