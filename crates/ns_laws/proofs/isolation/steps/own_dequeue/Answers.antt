use Rattle.ns_laws.proofs.Scope.OwnSteps.{own_dequeue}
use Rattle.ns_laws.proofs.isolation.steps.own_dequeue.Goals as goal

pub returns : goal.returns
returns c = own_dequeue
