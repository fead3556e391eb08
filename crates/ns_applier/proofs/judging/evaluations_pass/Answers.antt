use Rattle.std.proofs.Common.{ap, ◌∙◌}
use Rattle.ns_applier.specs.Losing.{is_victim}
use Rattle.ns_plan.specs.After.{after_stops}
use Rattle.ns_renewal.specs.Counted.{counted_of}
use Rattle.ns_renewal.specs.Losing.{numbers_pass, victims_at}
use Rattle.ns_tables.specs.World.{world_of}
use Rattle.ns_applier.proofs.judging.evaluations_pass.Goals as goal

pub returns : goal.returns
returns c =
    let w = world_of c.args.tables.now in
    let kept = c.args.snapshot.now in
    c.numbers_pass.ensures ∙ ap (λ evictions. numbers_pass (victims_at w evictions) w)
    (c.new.ensures ∙ (λ i. counted_of (is_victim (after_stops (c.requires.same i) kept.namespace
    ((c.new-stops.ensures ∙ c.as_slice.ensures) i)) kept c.args.nodes.now)
    (c.as_slice-placements.ensures i)))
