use Rattle.ns_laws.proofs.Scope.OwnSteps.{other_node}
use Rattle.ns_laws.proofs.isolation.steps.other_node.Goals as goal

pub returns : goal.returns
returns c = other_node
