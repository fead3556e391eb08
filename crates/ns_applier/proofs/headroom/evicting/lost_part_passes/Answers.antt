use Rattle.std.proofs.Common.{◌∙◌, ◌&&◌, length, nat_lt}
use Rattle.std.specs.List.{list_any}
use Rattle.ns_types.specs.declared.plan.Placement.{Placement}
use Rattle.ns_types.specs.State.Names.{has_number}
use Rattle.ns_plan.specs.After.{after_stops}
use Rattle.ns_applier.specs.Judging.{evictions_pass_at}
use Rattle.ns_applier.proofs.Lost.{inside_are}
use Rattle.ns_applier.proofs.headroom.evicting.lost_part_passes.Goals as goal

pub returns : goal.returns
returns g c =
    let w = c.args.headroom.now in
    let kept = c.args.snapshot.now in
    let committed = c.args.committed.now in
    let stopped = after_stops w kept.namespace c.args.plan.now.stops in
    c.any_placement_passes.ensures
    ∙ (λ i. list_any (λ (p : Placement). nat_lt p.node (length kept.nodes) && has_number committed p.node
    && evictions_pass_at w (after_stops (c.requires.same i) kept.namespace ((c.new.ensures ∙ c.as_slice.ensures) i)) kept p.node
    p.evictions) (c.as_slice-2.ensures i))
    ∙ inside_are w stopped kept committed c.args.plan.now.placing.placements c.requires.nodes.inside
