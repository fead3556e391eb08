use Rattle.ns_laws.proofs.Index.UnchangedRows.{unchanged_evaluations_keep_indexes}
use Rattle.ns_laws.proofs.indexes.unchanged_evaluations_keep_indexes.Goals as goal

pub returns : goal.returns
returns c = unchanged_evaluations_keep_indexes
