use Rattle.std.proofs.Common.{◌≡◌, ◌<◌, length, get_or, List, Option, SomeIff, ap, sym, subst, ◌∙◌}
use Rattle.ns_types.specs.declared.job.Document.{Document}
use Rattle.ns_types.specs.declared.job.Group.{Group}
use Rattle.ns_types.specs.declared.resources.Resources.{Resources}
use Rattle.ns_types.specs.Placing.Wanted.{demands_from}
use Rattle.ns_types.specs.State.Resources.{IsCounted, plus, total}
use Rattle.ns_schedule.proofs.Counts.{one_more, too_much}
use Rattle.ns_schedule.proofs.sums.checked_demands.Goals as goal

pub loop-group-preserved : goal.loop-group-preserved
loop-group-preserved c =
    let groups = c.args.job.now.document.groups in
    let i = c.loop-group.group-index in
    let g = c.group-item.result in
    let listed : c.as_slice-group-items.result.now ≡ groups = c.as_slice-group-items.ensures ∙ ap (λ (d : Document). d.groups) c.get.ensures in
    let inside : i < length groups = subst (λ (gs : List Group). i < length gs) listed c.loop-group-test.true in
    let reads : g ≡ get_or groups i g = subst (λ (gs : List Group). g ≡ get_or gs i g) listed c.group-item.is in
    record {
      is = one_more c.args.job.now c.args.own.now groups i g inside reads c.loop-group.sum c.in_ok-sum.sum _ c.in_ok-sum.ensures.1 c.loop-group.invariant.is;
      counted = subst (λ (r : Resources). IsCounted r) (sym c.in_ok-sum.ensures.1) c.in_ok-sum.ensures.0;
    }

pub returns-in_err-sum : goal.returns-in_err-sum
returns-in_err-sum c =
    let groups = c.args.job.now.document.groups in
    let i = c.loop-group.group-index in
    let g = c.group-item.result in
    let listed : c.as_slice-group-items.result.now ≡ groups = c.as_slice-group-items.ensures ∙ ap (λ (d : Document). d.groups) c.get.ensures in
    let inside : i < length groups = subst (λ (gs : List Group). i < length gs) listed c.loop-group-test.true in
    let reads : g ≡ get_or groups i g = subst (λ (gs : List Group). g ≡ get_or gs i g) listed c.group-item.is in
    let all = plus c.args.used (total (λ d. d.size) (demands_from 0 c.args.job.now c.args.own.now groups)) in
    subst (λ (o : Option Resources). SomeIff o (IsCounted all) all) (sym c.from_residual.ensures)
    (too_much c.args.job.now c.args.own.now groups i g inside reads c.loop-group.sum all c.in_err-sum.ensures c.loop-group.invariant.is)
