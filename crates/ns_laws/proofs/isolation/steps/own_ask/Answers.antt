use Rattle.ns_laws.proofs.Scope.OwnSteps.{own_ask}
use Rattle.ns_laws.proofs.isolation.steps.own_ask.Goals as goal

pub returns : goal.returns
returns c = own_ask
