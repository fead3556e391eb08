use Rattle.std.proofs.Common.{◌≡◌, drop}
use Rattle.ns_types.specs.Working.Commit.{place_all}
use Rattle.ns_change.specs.Changed.{view}
use Rattle.ns_plan_result.specs.Placing.{CanPlace}
use Rattle.ns_types.specs.Working.Parts.{placed_on}
use Rattle.ns_plan_result.proofs.placing.place_all.Given as goal

abbrev pub invariant-loop-placement : goal.invariant-loop-placement
invariant-loop-placement l =
    let kept = l.committed.snapshot.now in
    let nodes = l.committed.nodes.now in
    let placements = l.committed.plan.now.placing.placements in
    record {
      left : CanPlace kept (placed_on nodes (drop l.placement-index placements)) (view l.committed.tables.now l.change);
      placed : place_all kept (view l.committed.tables.now l.change) (placed_on nodes (drop l.placement-index placements))
          ≡ place_all kept (view l.committed.tables.now l.initial.change) (placed_on nodes placements);
    }
