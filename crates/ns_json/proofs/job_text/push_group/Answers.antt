use Rattle.ns_json.proofs.JobTexts.{after, more, group_is}
use Rattle.ns_json.proofs.job_text.push_group.Goals as goal

pub returns : goal.returns
returns c =
    let two = more _ _ _ _ _ c.in_ok-push_numbered.ensures c.in_ok-push_numbered-2.ensures in
    let three = more _ _ _ _ _ two c.in_ok-push_texted.ensures in
    let four = more _ _ _ _ _ three c.in_ok-push.ensures in
    let five = more _ _ _ _ _ four c.in_ok-push_tasks.ensures in
    after c.push-2.result _ _ _ _ _ _ five (group_is c.args.group.now _ _ c.as_str.ensures c.as_slice.ensures) c.push-2.ensures
