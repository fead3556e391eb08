use Rattle.ns_laws.proofs.Scope.OwnSteps.{own_admin}
use Rattle.ns_laws.proofs.isolation.steps.own_admin.Goals as goal

pub returns : goal.returns
returns c = own_admin
