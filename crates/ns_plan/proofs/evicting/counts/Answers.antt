use Rattle.std.proofs.Common.{◌∙◌, ap, sym}
use Rattle.std.specs.Prelude.{is_some}
use Rattle.ns_types.specs.Working.Commit.{counts}
use Rattle.ns_types.proofs.Tests.{some_mapped}
use Rattle.ns_plan.specs.After.{after_stops}
use Rattle.ns_plan.proofs.Afterwards.{counted_some}
use Rattle.ns_plan.proofs.evicting.counts.Goals as goal

pub returns : goal.returns
returns g c =
    let x = after_stops (g.V.View.world c.args.view.now) c.args.snapshot.now.namespace c.args.stops.now in
    let pool = c.args.snapshot.now.pool in
    c.is_some.ensures ∙ sym (some_mapped (λ a. a.now) c.counted.result) ∙ ap is_some c.counted.ensures
    ∙ counted_some x pool c.node_name-name.result.now c.args.eviction.now ∙ ap (λ n. counts x pool n c.args.eviction.now) c.node_name-name.ensures
