use Rattle.std.proofs.Common.{ap, sym, ◌∙◌, ◌&&◌}
use Rattle.std.specs.List.{list_any}
use Rattle.ns_applier.specs.HeadroomApplying.{stop_passes}
use Rattle.ns_types.specs.Working.Parts.{lives_at}
use Rattle.ns_applier.proofs.headroom.applying.stops_pass.Goals as goal
use Rattle.ns_change.proofs.Listed.{any_filter}

pub returns : goal.returns
returns c =
    let w = c.args.headroom.now in
    let ns = c.args.snapshot.now.namespace in
    c.any_stop_passes.ensures ∙ ap (list_any (λ n. lives_at w (ns, n) && stop_passes w ns n)) c.as_slice.ensures
    ∙ sym (any_filter (stop_passes w ns) (λ n. lives_at w (ns, n)) c.args.plan.now.stops)
