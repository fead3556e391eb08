use Rattle.ns_laws.proofs.Index.Laws.{changed_allocations_have_index}
use Rattle.ns_laws.proofs.indexes.changed_allocations_have_index.Goals as goal

pub returns : goal.returns
returns c = changed_allocations_have_index
