use Rattle.ns_laws.proofs.Scope.OwnSteps.{own_nack}
use Rattle.ns_laws.proofs.isolation.steps.own_nack.Goals as goal

pub returns : goal.returns
returns c = own_nack
