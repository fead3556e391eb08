use Rattle.ns_plan_result.proofs.Placements.{none_placed}
use Rattle.ns_types.specs.Working.Parts.{placed_on}
use Rattle.ns_change.specs.Changed.{view}
use Rattle.ns_plan_result.proofs.placing.place.Goals as goal

pub returns-in-None : goal.returns-in-None
returns-in-None c =
    let committed = c.args.committed.now in
    none_placed committed.snapshot.now c.in-None.is (placed_on committed.nodes.now committed.plan.now.placing.placements)
    (view committed.tables.now c.args.change.now)
