use Rattle.std.proofs.Common.{ap, sym, ◌∙◌}
use Rattle.std.specs.Option.{option_copied}
use Rattle.ns_types.specs.declared.allocation.Allocation.{Allocation}
use Rattle.ns_types.specs.State.Rows.{node_at}
use Rattle.ns_types.specs.Settling.Making.{change_tenant}
use Rattle.ns_types.specs.Working.Commit.{with_allocation}
use Rattle.ns_change.proofs.Prepares.{done_as}
use Rattle.ns_change.specs.Changed.{count_place, view}
use Rattle.ns_plan_result.proofs.Placements.{counted_once, placed_nowhere}
use Rattle.ns_plan_result.proofs.placing.place_one.Goals as goal

pub returns-in_default : goal.returns-in_default
returns-in_default c =
    let w = view c.args.tables.now c.args.change.now in
    let kept = c.args.snapshot.now in
    placed_nowhere kept c.args.placement.now w (ap (node_at w kept.pool) (sym c.node_name-name.ensures) ∙ sym c.node.ensures ∙ ap option_copied c.in_default.is)
    c.args.job.now c.requires.job

pub returns : goal.returns
returns c =
    let w = view c.args.tables.now c.args.change.now in
    let kept = c.args.snapshot.now in
    done_as c.count_place.result c.args.tables.now c.count_place.new.change _ _
    ((λ i. count_place kept.pool (c.node_name-name.ensures i) ((c.in_ok-add_allocation.ensures
    ∙ ap (λ (row : Allocation). change_tenant kept.namespace (with_allocation row) w) c.in_ok-row.ensures) i))
    ∙ counted_once kept c.args.placement.now w c.args.job.now c.requires.job c.in-Some.node.now
    (ap (node_at w kept.pool) (sym c.node_name-name.ensures) ∙ sym c.node.ensures ∙ ap option_copied c.in-Some.is))
    c.count_place.ensures
