use Rattle.ns_types.specs.declared.step.Step.TheVariants as Step
use Rattle.ns_driver.specs.Calls.{snapped}
use Rattle.ns_core.proofs.Attempts.{attempts}
use Rattle.ns_core.proofs.driven.CoreWorks.snap.Goals as goal

pub returns-clause-made : goal.returns-clause-made
returns-clause-made c =
    attempts (Step.Snap c.args.worker c.args.namespace.now) c.args.self.now (snapped c.snap.result) c.snap.new.self c.snap.ensures.made
