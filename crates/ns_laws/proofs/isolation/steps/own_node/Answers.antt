use Rattle.ns_laws.proofs.Scope.OwnSteps.{own_node}
use Rattle.ns_laws.proofs.isolation.steps.own_node.Goals as goal

pub returns : goal.returns
returns c = own_node
