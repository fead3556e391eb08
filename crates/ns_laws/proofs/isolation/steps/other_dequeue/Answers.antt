use Rattle.ns_laws.proofs.Scope.OwnSteps.{other_dequeue}
use Rattle.ns_laws.proofs.isolation.steps.other_dequeue.Goals as goal

pub returns : goal.returns
returns c = other_dequeue
