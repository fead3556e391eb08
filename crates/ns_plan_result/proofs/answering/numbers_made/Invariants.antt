use Rattle.std.proofs.Common.{◌≡◌, ◌+◌, ◌<◌, ◌^◌, ◌++◌, drop, length}
use Rattle.ns_types.specs.Working.Commit.{numbers_after}
use Rattle.ns_types.specs.Working.Parts.{placed_on}
use Rattle.ns_plan_result.proofs.answering.numbers_made.Given as goal

abbrev pub invariant-loop-placement : goal.invariant-loop-placement
invariant-loop-placement l =
    let nodes = l.committed.nodes.now in
    let placements = l.committed.plan.now.placing.placements in
    record {
      numbers : l.numbers ++ numbers_after l.number (placed_on nodes (drop l.placement-index placements)) ≡ numbers_after l.last (placed_on nodes placements);
      room : l.number + length (placed_on nodes (drop l.placement-index placements)) < 2 ^ 64;
    }
