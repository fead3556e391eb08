use Rattle.std.proofs.Common.{subst}
use Rattle.ns_types.specs.declared.step.Step.{Step}
use Rattle.ns_replay.proofs.Planning.{finished_by}
use Rattle.ns_replay.proofs.model_run.stepping.finish.Goals as goal
use Rattle.ns_replay.specs.Planned.{PlansFor}

pub returns-in-Ok : goal.returns-in-Ok
returns-in-Ok c =
    let s = c.args.core.now in
    let worker = c.args.worker in
    let ns = c.args.namespace.now in
    finished_by s worker ns c.in-Ok.planned (subst (PlansFor (Step.Finish worker ns) worker ns s) c.in-Ok.is c.to_finish.ensures)
    c.finish-answer.result c.finish-answer.new.self c.finish-answer.ensures

pub returns-in-Err : goal.returns-in-Err
returns-in-Err c =
    let s = c.args.core.now in
    let worker = c.args.worker in
    let ns = c.args.namespace.now in
    subst (PlansFor (Step.Finish worker ns) worker ns s) c.in-Err.is c.to_finish.ensures
