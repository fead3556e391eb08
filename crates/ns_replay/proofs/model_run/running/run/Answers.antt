use Rattle.std.proofs.Common.{◌+◌, ◌∙◌, arith, ap, subst, sym}
use Rattle.ns_replay.specs.Making.{MakesAny}
use Rattle.ns_replay.proofs.Runs.{HasRun, all_made, none_made, runs_more, stops}
use Rattle.ns_replay.proofs.model_run.running.run.Goals as goal

pub returns-in_default : goal.returns-in_default
returns-in_default g c = rw c.new.ensures.items (none_made (g.S.Steps.state c.args.server.now) c.args.steps.now)

pub returns-in-Err : goal.returns-in-Err
returns-in-Err g c =
    stops (g.S.Steps.state c.args.server.now) (g.S.Steps.state c.loop-step.server) (g.S.Steps.state c.make.new.self)
    c.args.steps.now c.loop-step.step-index c.loop-step.answers.items c.loop-step.invariant.far c.step-item.result
    c.make.result c.in-Err.refusal c.loop-step-test.true c.step-item.is c.in-Err.ensures.none.0 c.in-Err.ensures.none.1 c.make.ensures

pub loop-step-preserved : goal.loop-step-preserved
loop-step-preserved g c =
    let old = g.S.Steps.state c.loop-step.server in
    let new = g.S.Steps.state c.make.new.self in
    let same = c.in-Ok-of_step.ensures.step in
    record {
      far = rw c.push_reserved.ensures.items (runs_more (g.S.Steps.state c.args.server.now) old new
          c.args.steps.now c.loop-step.step-index c.loop-step.answers.items c.loop-step.invariant.far c.step-item.result c.in-Ok-of_step.answer
          c.loop-step-test.true c.step-item.is c.in-Ok-of_step.ensures.goes
          (subst (λ answer. MakesAny c.step-item.result old answer new) (sym same) c.make.ensures));
      many = c.push_reserved.ensures.len ∙ ap (λ n. n + 1) c.loop-step.invariant.many;
      room = c.push_reserved.ensures.capacity ∙ c.loop-step.invariant.room;
    }

pub returns : goal.returns
returns g c =
    let s = g.S.Steps.state c.args.server.now in
    let s' = g.S.Steps.state c.loop-step.server in
    all_made s s' c.args.steps.now c.loop-step.answers.items
    (subst (λ n. HasRun s c.args.steps.now n c.loop-step.answers.items s') (omega (arith, c.loop-step-test.false, c.loop-step.auto.step-index-end))
    c.loop-step.invariant.far)
