use Rattle.std.proofs.Common.{ap, ◌∙◌}
use Rattle.ns_types.specs.Settling.Making.{change_tenant}
use Rattle.ns_types.specs.Working.Worker.{Worker}
use Rattle.ns_types.specs.Working.Work.{with_worker}
use Rattle.ns_change.proofs.Prepares.{done_as}
use Rattle.ns_change.specs.Changed.{view, with_plan}
use Rattle.ns_broker.proofs.submitting.hand_in.Goals as goal

pub returns : goal.returns
returns c =
    let w = view c.args.tables.now c.args.change.now in
    let ns = c.args.namespace.now in
    done_as c.add_plan.result c.args.tables.now c.add_plan.new.change _ _
    (λ i. with_plan ((c.new.ensures ∙ (λ j. (c.in_ok-clone.ensures.cases j, c.evaluation.ensures j))) i)
    ((c.in_ok-put_row.ensures ∙ ap (λ (row : Worker). change_tenant ns (with_worker c.args.number row) w) c.in_ok-row.ensures) i))
    (c.add_plan.ensures c.args.tables.now)
