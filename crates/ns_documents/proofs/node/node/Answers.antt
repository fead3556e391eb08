use Rattle.ns_documents.proofs.Attributes.{table_of}
use Rattle.ns_documents.proofs.node.node.Goals as goal

pub returns-clause-in_order : goal.returns-clause-in_order
returns-clause-in_order c = table_of c.in_ok-attributes.attributes c.in_ok-attributes.ensures.in_order
