use Rattle.ns_laws.proofs.Texts.Naming.{names_of_nodes}
use Rattle.ns_laws.proofs.names.names_of_nodes.Goals as goal

pub returns : goal.returns
returns c = names_of_nodes
