use Rattle.ns_laws.proofs.Scope.OwnSteps.{other_submit}
use Rattle.ns_laws.proofs.isolation.steps.other_submit.Goals as goal

pub returns : goal.returns
returns c = other_submit
