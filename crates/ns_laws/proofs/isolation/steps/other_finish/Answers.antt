use Rattle.ns_laws.proofs.Scope.OwnSteps.{other_finish}
use Rattle.ns_laws.proofs.isolation.steps.other_finish.Goals as goal

pub returns : goal.returns
returns c = other_finish
