use Rattle.std.proofs.Common.{◌≤◌, ◌∙◌, ap, arith, length, sym}
use Rattle.std.proofs.lemmas.List.{take_all}
use Rattle.ns_types.specs.Working.Commit.{node_name}
use Rattle.ns_types.proofs.Once.{once}
use Rattle.ns_plan.specs.After.{stop_keys}
use Rattle.ns_plan.specs.Reader.{load_left}
use Rattle.ns_plan.proofs.Afterwards.{load_after}
use Rattle.ns_plan.proofs.loads.loads_of.Goals as goal

pub returns : goal.returns
returns g c = λ k inside d.
    let w = g.V.View.world c.args.view.now in
    let kept = c.args.snapshot.now in
    let stops = c.args.stops.now in
    let long = ap length c.as_slice-place-end.ensures in
    let at_end : length stops ≤ c.loop-place.place = omega (arith, long) in
    c.loop-place.invariant k inside d
    ∙ ap (λ l. load_left w kept.pool (node_name kept k) (once (stop_keys kept.namespace l))) (take_all c.loop-place.place stops at_end)
    ∙ sym (load_after w kept.namespace stops kept.pool (node_name kept k))
