use Rattle.ns_laws.proofs.Scope.OwnSteps.{own_finish}
use Rattle.ns_laws.proofs.isolation.steps.own_finish.Goals as goal

pub returns : goal.returns
returns c = own_finish
