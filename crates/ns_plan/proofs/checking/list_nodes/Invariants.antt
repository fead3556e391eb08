use Rattle.std.proofs.Common.{◌≡◌, take}
use Rattle.ns_types.specs.Working.Commit.{nodes_in}
use Rattle.ns_place.specs.Marks.{AreFlags}
use Rattle.ns_plan.proofs.checking.list_nodes.Given as goal

abbrev pub invariant-loop-placement : goal.invariant-loop-placement
invariant-loop-placement l = (l.nodes.items ≡ nodes_in (take l.placement-index l.plan.placing.placements))
    × AreFlags l.seen (nodes_in (take l.placement-index l.plan.placing.placements))
