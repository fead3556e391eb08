use Rattle.ns_laws.proofs.Scope.OwnSteps.{own_submit}
use Rattle.ns_laws.proofs.isolation.steps.own_submit.Goals as goal

pub returns : goal.returns
returns c = own_submit
