use Rattle.std.proofs.Common.{subst}
use Rattle.ns_types.specs.declared.step.Step.{Step}
use Rattle.ns_replay.proofs.Planning.{handed_in}
use Rattle.ns_replay.proofs.model_run.stepping.submit.Goals as goal
use Rattle.ns_replay.specs.Planned.{PlansFor}

pub returns-in-Ok : goal.returns-in-Ok
returns-in-Ok c =
    let s = c.args.core.now in
    let worker = c.args.worker in
    let ns = c.args.namespace.now in
    handed_in s worker ns c.in-Ok.planned (subst (PlansFor (Step.Submit worker ns) worker ns s) c.in-Ok.is c.to_submit.ensures)
    c.submit.result c.submit.new.self c.submit.ensures

pub returns-in-Err : goal.returns-in-Err
returns-in-Err c =
    let s = c.args.core.now in
    let worker = c.args.worker in
    let ns = c.args.namespace.now in
    subst (PlansFor (Step.Submit worker ns) worker ns s) c.in-Err.is c.to_submit.ensures
