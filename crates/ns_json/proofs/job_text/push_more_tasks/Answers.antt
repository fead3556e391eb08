use Rattle.serde_json.specs.Written.{compact_text}
use Rattle.ns_json.specs.Rendering.{task_json}
use Rattle.ns_json.proofs.JobTexts.{one_more}
use Rattle.ns_json.proofs.job_text.push_more_tasks.Goals as goal

pub loop-task-preserved : goal.loop-task-preserved
loop-task-preserved c = one_more (λ x. compact_text (task_json x)) _ _ _ _ c.args.tasks.now c.loop-task.task-index c.task-item.result
    c.loop-task-test.true c.task-item.is c.loop-task.invariant c.in_ok-push.ensures c.in_ok-push_task.ensures
