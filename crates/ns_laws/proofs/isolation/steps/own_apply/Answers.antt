use Rattle.ns_laws.proofs.Scope.OwnSteps.{own_apply}
use Rattle.ns_laws.proofs.isolation.steps.own_apply.Goals as goal

pub returns : goal.returns
returns c = own_apply
