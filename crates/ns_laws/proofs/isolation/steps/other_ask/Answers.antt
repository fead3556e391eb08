use Rattle.ns_laws.proofs.Scope.OwnSteps.{other_ask}
use Rattle.ns_laws.proofs.isolation.steps.other_ask.Goals as goal

pub returns : goal.returns
returns c = other_ask
