use Rattle.ns_laws.proofs.Index.Laws.{new_namespaces_have_nothing}
use Rattle.ns_laws.proofs.indexes.new_namespaces_have_nothing.Goals as goal

pub returns : goal.returns
returns c = new_namespaces_have_nothing
