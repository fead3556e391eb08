use Rattle.ns_json.proofs.JobTexts.{after, more, task_is}
use Rattle.ns_json.proofs.job_text.push_task.Goals as goal

pub returns : goal.returns
returns c =
    let two = more _ _ _ _ _ c.in_ok-push_texted.ensures c.in_ok-push_numbered.ensures in
    let three = more _ _ _ _ _ two c.in_ok-push_numbered-2.ensures in
    after c.push.result _ _ _ _ _ _ three (task_is c.args.task.now _ c.as_str.ensures) c.push.ensures
