use Rattle.std.specs.Prelude.{Ok}
use Rattle.std.proofs.Common.{ap, sym, subst, ◌∙◌}
use Rattle.ns_types.specs.declared.snapshot.Snapshot.{Snapshot}
use Rattle.ns_types.specs.declared.step.Step.{Step}
use Rattle.ns_types.specs.Steps.{Makes, said}
use Rattle.ns_driver.specs.Calls.{snapped}
use Rattle.ns_replay.proofs.model_run.stepping.snap.Goals as goal

pub returns-in-Ok : goal.returns-in-Ok
returns-in-Ok c =
    let new = c.snap.new.self in
    subst (λ r. Makes (Step.Snap c.args.worker c.args.namespace.now) c.args.core.now (snapped r) new) c.in-Ok.is c.snap.ensures.made
    ∙ ap (λ (seen : Snapshot). said (snapped (Ok seen)) new) (sym c.get.ensures)
