use Rattle.std.proofs.Common.{◌≡◌, ◌<◌, length, get_or, List, ap, subst, ◌∙◌}
use Rattle.ns_types.specs.declared.job.Document.{Document}
use Rattle.ns_types.specs.declared.job.Group.{Group}
use Rattle.ns_types.specs.Placing.Wanted.{outdated, surplus}
use Rattle.ns_schedule.proofs.Wants.{stops_more}
use Rattle.ns_schedule.proofs.wanted.replaced.Goals as goal

pub loop-group-preserved : goal.loop-group-preserved
loop-group-preserved c =
    let groups = c.args.job.now.document.groups in
    let i = c.loop-group.group-index in
    let g = c.group-item.result in
    let listed : c.as_slice-group-items.result.now ≡ groups = c.as_slice-group-items.ensures ∙ ap (λ (d : Document). d.groups) c.get.ensures in
    let inside : i < length groups = subst (λ (gs : List Group). i < length gs) listed c.loop-group-test.true in
    let reads : g ≡ get_or groups i g = subst (λ (gs : List Group). g ≡ get_or gs i g) listed c.group-item.is in
    stops_more groups i g inside reads (surplus c.args.job.now c.args.own.now) (outdated c.args.job.now c.args.own.now) _ _
    c.in_ok-push_surplus.ensures c.loop-group.invariant
