use Rattle.serde_json.specs.Written.{compact_text}
use Rattle.ns_json.specs.Rendering.{group_json}
use Rattle.ns_json.proofs.JobTexts.{one_more}
use Rattle.ns_json.proofs.job_text.push_more_groups.Goals as goal

pub loop-group-preserved : goal.loop-group-preserved
loop-group-preserved c = one_more (λ x. compact_text (group_json x)) _ _ _ _ c.args.groups.now c.loop-group.group-index c.group-item.result
    c.loop-group-test.true c.group-item.is c.loop-group.invariant c.in_ok-push.ensures c.in_ok-push_group.ensures
