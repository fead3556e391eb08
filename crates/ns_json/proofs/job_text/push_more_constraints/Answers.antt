use Rattle.serde_json.specs.Written.{compact_text}
use Rattle.ns_json.specs.Rendering.{constraint_json}
use Rattle.ns_json.proofs.JobTexts.{one_more}
use Rattle.ns_json.proofs.job_text.push_more_constraints.Goals as goal

pub loop-constraint-preserved : goal.loop-constraint-preserved
loop-constraint-preserved c = one_more (λ x. compact_text (constraint_json x)) _ _ _ _ c.args.constraints.now
    c.loop-constraint.constraint-index c.constraint-item.result
    c.loop-constraint-test.true c.constraint-item.is c.loop-constraint.invariant c.in_ok-push.ensures c.in_ok-push_constraint.ensures
