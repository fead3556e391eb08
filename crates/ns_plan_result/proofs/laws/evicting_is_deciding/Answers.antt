use Rattle.ns_plan_result.proofs.NodeByNode.{evicting_is_deciding}
use Rattle.ns_plan_result.proofs.laws.evicting_is_deciding.Goals as goal

pub returns : goal.returns
returns c = evicting_is_deciding
