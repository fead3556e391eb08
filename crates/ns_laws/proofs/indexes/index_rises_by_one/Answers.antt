use Rattle.ns_laws.proofs.Index.Laws.{index_rises_by_one}
use Rattle.ns_laws.proofs.indexes.index_rises_by_one.Goals as goal

pub returns : goal.returns
returns c = index_rises_by_one
