use Rattle.ns_json.proofs.JobTexts.{after, more, members_are}
use Rattle.ns_json.proofs.job_text.push_members.Goals as goal

pub returns : goal.returns
returns c =
    let one = more _ _ _ _ _ c.in_ok-push_numbered.ensures c.in_ok-push_texted.ensures in
    let two = more _ _ _ _ _ one c.in_ok-push_numbered-2.ensures in
    let three = more _ _ _ _ _ two c.in_ok-push_texted-2.ensures in
    let four = more _ _ _ _ _ three c.in_ok-push_texted-3.ensures in
    let five = more _ _ _ _ _ four c.in_ok-push_numbered-3.ensures in
    let six = more _ _ _ _ _ five c.in_ok-push.ensures in
    after c.push-2.result _ _ _ _ _ _ six (members_are c.args.job.now c.get-document.result.now _ _ _ _ _ c.get-document.ensures
    c.as_str.ensures c.as_str-2.ensures c.as_str-3.ensures c.status_member-status.ensures c.stop_text-stop.ensures) c.push-2.ensures
