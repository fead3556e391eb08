use Rattle.std.proofs.Common.{◌∙◌}
use Rattle.ns_json.proofs.JobTexts.{after, more, constraint_is}
use Rattle.ns_json.proofs.job_text.push_constraint.Goals as goal

pub returns : goal.returns
returns c =
    let two = more _ _ _ _ _ c.in_ok-push_texted.ensures c.in_ok-push_texted-2.ensures in
    let three = more _ _ _ _ _ two c.in_ok-push_texted-3.ensures in
    after c.push.result _ _ _ _ _ _ three (constraint_is c.args.constraint.now _ _ _ (c.as_str.ensures.value ∙ c.in_ok-target.ensures)
    c.operand_text-operand.ensures
    c.as_str-2.ensures) c.push.ensures
