use Rattle.ns_types.specs.declared.refusal.Refusal.{Refusal}
use Rattle.ns_driver.proofs.Turns.{error_so}
use Rattle.ns_driver.proofs.kept.Kept.planned.Goals as goal
use Rattle.ns_driver.specs.Kept.{seen_of}
use Rattle.ns_driver.specs.Working.{HasNoPlan}

pub returns-in_err-share-clause-none : goal.returns-in_err-share-clause-none
returns-in_err-share-clause-none c =
    error_so c.from_residual-in_err-share.result Refusal.Memory (HasNoPlan (seen_of c.args.self.now)) c.from_residual-in_err-share.ensures HasNoPlan.memory
