use Rattle.ns_documents.proofs.Good.{node_good}
use Rattle.ns_documents.proofs.node.read_node.Goals as goal

pub returns-clause-good : goal.returns-clause-good
returns-clause-good c = node_good _ _ c.node.ensures.value
