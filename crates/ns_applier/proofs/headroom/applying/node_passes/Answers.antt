use Rattle.std.proofs.Common.{ap, sym, ◌∙◌, length}
use Rattle.ns_applier.specs.HeadroomApplying.{places_on}
use Rattle.ns_types.specs.Working.Parts.{placed_on}
use Rattle.ns_applier.specs.Judging.{node_passes}
use Rattle.ns_applier.proofs.HeadroomCounting.{counted_on, few_places, fewer_places}
use Rattle.ns_applier.proofs.headroom.applying.node_passes.Goals as goal

pub returns-then-node_passes : goal.returns-then-node_passes
returns-then-node_passes c =
    let w = c.args.headroom.now in
    let kept = c.args.snapshot.now in
    let placed = placed_on c.args.committed.now c.args.placements.now in
    c.node_passes-then-node_passes.ensures
    ∙ ap (node_passes w kept.pool c.node_name-name.result.now)
    (c.count_on.ensures ∙ counted_on kept c.args.committed.now c.node_name-name.result.now c.args.placements.now)
    ∙ ap (λ name. node_passes w kept.pool name (places_on kept placed kept.pool name)) c.node_name-name.ensures

pub returns-else-node_passes : goal.returns-else-node_passes
returns-else-node_passes c =
    let w = c.args.headroom.now in
    let kept = c.args.snapshot.now in
    let name = c.node_name-name.result.now in
    let placed = placed_on c.args.committed.now c.args.placements.now in
    c.if-node_passes.false
    ∙ sym (fewer_places w kept.pool name (places_on kept placed kept.pool name) (length c.args.placements.now)
    (few_places kept c.args.committed.now c.args.placements.now kept.pool name) (sym c.node_passes.ensures ∙ c.if-node_passes.false))
    ∙ ap (λ name. node_passes w kept.pool name (places_on kept placed kept.pool name)) c.node_name-name.ensures
