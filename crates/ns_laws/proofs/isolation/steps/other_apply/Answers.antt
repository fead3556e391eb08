use Rattle.ns_laws.proofs.Scope.OwnSteps.{other_apply}
use Rattle.ns_laws.proofs.isolation.steps.other_apply.Goals as goal

pub returns : goal.returns
returns c = other_apply
