use Rattle.ns_laws.proofs.Scope.OwnSteps.{other_admin}
use Rattle.ns_laws.proofs.isolation.steps.other_admin.Goals as goal

pub returns : goal.returns
returns c = other_admin
