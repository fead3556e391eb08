use Rattle.ns_laws.proofs.Meanings.{classes_of_nodes}
use Rattle.ns_laws.proofs.statuses.classes_of_nodes.Goals as goal

pub returns : goal.returns
returns c = classes_of_nodes
