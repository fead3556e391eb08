use Rattle.ns_laws.proofs.Scope.OwnSteps.{alone_is_beside}
use Rattle.ns_laws.proofs.isolation.steps.alone_is_beside.Goals as goal

pub returns : goal.returns
returns c = alone_is_beside
