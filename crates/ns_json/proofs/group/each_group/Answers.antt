use Rattle.std.proofs.lemmas.Result.{err_from_is_err_and}
use Rattle.ns_json.specs.Registration.{group_in}
use Rattle.ns_json.proofs.Items.{goes_on, ends, is_done}
use Rattle.ns_json.proofs.group.each_group.Goals as goal

pub returns-in_err-group : goal.returns-in_err-group
returns-in_err-group c =
    let p = err_from_is_err_and c.from_residual.result c.from_residual.ensures.1 in
    rw (p.1, p.2) (ends group_in _ c.loop-value.groups c.args.values.now c.loop-value.value-index c.value-item.result _ c.loop-value-test.true c.value-item.is
    (rw c.as_slice.ensures at c.in_err-group.ensures) c.loop-value.invariant)

pub loop-value-preserved : goal.loop-value-preserved
loop-value-preserved c =
    rw c.in_ok-push.ensures.ok (goes_on group_in c.loop-value.groups c.args.values.now c.loop-value.value-index c.value-item.result c.in_ok-group.group _
    c.loop-value-test.true c.value-item.is (rw c.as_slice.ensures at c.in_ok-group.ensures) c.loop-value.invariant)

pub returns : goal.returns
returns c = is_done group_in c.loop-value.groups c.args.values.now c.loop-value.value-index _ c.loop-value-test.false c.loop-value.invariant
