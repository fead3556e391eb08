use Rattle.ns_json.proofs.JobTexts.{after, more, job_is}
use Rattle.ns_json.proofs.job_text.push_job.Goals as goal

pub returns : goal.returns
returns c =
    let two = more _ _ _ _ _ c.in_ok-push.ensures c.in_ok-push_constraints.ensures in
    let three = more _ _ _ _ _ two c.in_ok-push_members.ensures in
    let four = more _ _ _ _ _ three c.in_ok-push_groups.ensures in
    let five = more _ _ _ _ _ four c.in_ok-push-2.ensures in
    let six = more _ _ _ _ _ five c.in_ok-push_numbered.ensures in
    after c.push-3.result _ _ _ _ _ _ six
    (job_is c.args.job.now c.get-document.result.now _ _ _ c.get-document.ensures c.as_slice.ensures c.as_slice-2.ensures c.type_member-kind.ensures)
    c.push-3.ensures
