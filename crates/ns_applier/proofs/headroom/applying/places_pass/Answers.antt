use Rattle.std.proofs.Common.{ap, ◌∙◌}
use Rattle.std.specs.List.{list_any}
use Rattle.ns_types.specs.Working.Parts.{placed_on}
use Rattle.ns_applier.specs.Judging.{committed_passes}
use Rattle.ns_applier.proofs.HeadroomCounting.{by_committed}
use Rattle.ns_applier.proofs.headroom.applying.places_pass.Goals as goal

pub returns : goal.returns
returns c = c.any_node_passes.ensures
    ∙ ap (λ placements. list_any (committed_passes c.args.headroom.now c.args.snapshot.now
    (placed_on c.args.committed.now placements)) c.args.committed.now) c.as_slice-placements.ensures
    ∙ by_committed c.args.headroom.now c.requires c.args.snapshot.now c.args.committed.now c.args.plan.now.placing.placements
