use Rattle.ns_laws.proofs.Plans.ApplyRows.{applies_by_node}
use Rattle.ns_laws.proofs.planning.applies_by_node.Goals as goal

pub returns : goal.returns
returns c = applies_by_node
