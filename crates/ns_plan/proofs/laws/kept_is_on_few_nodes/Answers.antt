use Rattle.ns_plan.proofs.Nodes.{kept_is_on_few_nodes}
use Rattle.ns_plan.proofs.laws.kept_is_on_few_nodes.Goals as goal

pub returns : goal.returns
returns c = kept_is_on_few_nodes
