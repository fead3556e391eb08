use Rattle.ns_laws.proofs.Scope.OwnSteps.{other_nack}
use Rattle.ns_laws.proofs.isolation.steps.other_nack.Goals as goal

pub returns : goal.returns
returns c = other_nack
