use Rattle.std.proofs.Common.{option_copied, take}
use Rattle.ns_types.specs.Working.Commit.{nodes_in}
use Rattle.ns_place.specs.Marks.{AreFlags}
use Rattle.ns_plan.specs.After.{after_stops}
use Rattle.ns_plan.specs.Reader.{IsSoFar, read_all}
use Rattle.ns_plan.proofs.deciding.decide_each.Given as goal

abbrev pub invariant-loop-placement : goal.invariant-loop-placement
invariant-loop-placement g l = IsSoFar (after_stops (g.V.View.world l.view) l.snapshot.namespace l.plan.stops) (option_copied l.quota) l.so_far
    (read_all l.snapshot l.plan.placing.placements (after_stops (g.V.View.world l.view) l.snapshot.namespace l.plan.stops)
    (nodes_in (take l.placement-index l.plan.placing.placements)))
    × AreFlags l.decided (nodes_in (take l.placement-index l.plan.placing.placements))
