use Rattle.std.proofs.Common.{◌≡◌, ◌<◌, [], Bool, cond, length, get_or, List, ap, subst, ◌∙◌}
use Rattle.ns_types.specs.declared.job.Document.{Document}
use Rattle.ns_types.specs.declared.job.Group.{Group}
use Rattle.ns_types.specs.Placing.Wanted.{demands_from}
use Rattle.ns_types.specs.State.Resources.{IsCounted, total}
use Rattle.ns_schedule.proofs.Wants.{demands_more}
use Rattle.ns_schedule.proofs.wanted.demands.Goals as goal

pub loop-i-preserved : goal.loop-i-preserved
loop-i-preserved c =
    let groups = c.args.job.now.document.groups in
    let i = c.loop-i.i in
    let g = c.index-groups-i.result in
    let listed : c.as_slice-groups.result.now ≡ groups = c.as_slice-groups.ensures ∙ ap (λ (d : Document). d.groups) c.get.ensures in
    let inside : i < length groups = subst (λ (gs : List Group). i < length gs) listed c.loop-i-test.true in
    let reads : g ≡ get_or groups i g = subst (λ (gs : List Group). g ≡ get_or gs i g) listed c.index-groups-i.is in
    let counted = subst (λ (b : Bool). IsCounted (total (λ d. d.size) (cond b [] (demands_from 0 c.args.job.now c.args.own.now groups))))
    c.if-job.false c.requires in
    demands_more groups i g inside reads c.args.job.now c.args.own.now _ _ _ _ _
    c.in_ok-push_missing.ensures c.missing.ensures c.group_size.ensures counted c.loop-i.invariant
