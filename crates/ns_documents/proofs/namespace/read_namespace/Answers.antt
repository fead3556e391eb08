use Rattle.ns_documents.proofs.Good.{namespace_good, namespace_has_name}
use Rattle.ns_documents.proofs.namespace.read_namespace.Goals as goal

pub returns-clause-good : goal.returns-clause-good
returns-clause-good c = namespace_good _ _ _ c.namespace.ensures

pub returns-clause-name : goal.returns-clause-name
returns-clause-name c = namespace_has_name _ _ _ c.namespace.ensures
