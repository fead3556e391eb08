use Rattle.std.proofs.Common.{◌≡◌, ◌++◌, drop, map}
use Rattle.ns_types.specs.Working.Commit.{victims_of}
use Rattle.ns_change.specs.Changed.{view}
use Rattle.ns_types.specs.Working.Parts.{placed_on}
use Rattle.ns_plan_result.proofs.evicting.victims.Given as goal

abbrev pub invariant-loop-placement : goal.invariant-loop-placement
invariant-loop-placement l =
    let kept = l.committed.snapshot.now in
    let nodes = l.committed.nodes.now in
    let placements = l.committed.plan.now.placing.placements in
    let w = view l.committed.tables.now l.change in
    map (λ e. e.now) l.victims.items ++ victims_of w kept (placed_on nodes (drop l.placement-index placements))
    ≡ victims_of w kept (placed_on nodes placements)
