use Rattle.std.proofs.lemmas.Result.{err_from_is_err_and}
use Rattle.ns_json.specs.Registration.{constraint_after}
use Rattle.ns_json.proofs.Items.{goes_on, ends, is_done}
use Rattle.ns_json.proofs.constraint.each_constraint.Goals as goal

pub returns-in_err-constraint : goal.returns-in_err-constraint
returns-in_err-constraint c =
    let p = err_from_is_err_and c.from_residual.result c.from_residual.ensures.1 in
    rw (p.1, p.2) (ends constraint_after _ c.loop-value.constraints c.args.values.now c.loop-value.value-index c.value-item.result _ c.loop-value-test.true
    c.value-item.is c.in_err-constraint.ensures c.loop-value.invariant)

pub loop-value-preserved : goal.loop-value-preserved
loop-value-preserved c =
    rw c.in_ok-push.ensures.ok (goes_on constraint_after c.loop-value.constraints c.args.values.now c.loop-value.value-index c.value-item.result
    c.in_ok-constraint.constraint _ c.loop-value-test.true c.value-item.is c.in_ok-constraint.ensures c.loop-value.invariant)

pub returns : goal.returns
returns c = is_done constraint_after c.loop-value.constraints c.args.values.now c.loop-value.value-index _ c.loop-value-test.false c.loop-value.invariant
