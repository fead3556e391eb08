use Rattle.ns_laws.proofs.Index.Laws.{changed_evaluations_have_index}
use Rattle.ns_laws.proofs.indexes.changed_evaluations_have_index.Goals as goal

pub returns : goal.returns
returns c = changed_evaluations_have_index
