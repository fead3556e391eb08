use Rattle.std.proofs.lemmas.Result.{err_from_is_err_and}
use Rattle.ns_json.specs.Registration.{task_in}
use Rattle.ns_json.proofs.Items.{goes_on, ends, is_done}
use Rattle.ns_json.proofs.group.each_task.Goals as goal

pub returns-in_err-task : goal.returns-in_err-task
returns-in_err-task c =
    let p = err_from_is_err_and c.from_residual.result c.from_residual.ensures.1 in
    rw (p.1, p.2) (ends task_in _ c.loop-value.tasks c.args.values.now c.loop-value.value-index c.value-item.result _ c.loop-value-test.true c.value-item.is
    (rw c.as_slice.ensures at c.in_err-task.ensures) c.loop-value.invariant)

pub loop-value-preserved : goal.loop-value-preserved
loop-value-preserved c =
    rw c.in_ok-push.ensures.ok (goes_on task_in c.loop-value.tasks c.args.values.now c.loop-value.value-index c.value-item.result c.in_ok-task.task _
    c.loop-value-test.true c.value-item.is (rw c.as_slice.ensures at c.in_ok-task.ensures) c.loop-value.invariant)

pub returns : goal.returns
returns c = is_done task_in c.loop-value.tasks c.args.values.now c.loop-value.value-index _ c.loop-value-test.false c.loop-value.invariant
