use Rattle.ns_laws.proofs.Index.Laws.{gone_jobs_raise_index}
use Rattle.ns_laws.proofs.indexes.gone_jobs_raise_index.Goals as goal

pub returns : goal.returns
returns c = gone_jobs_raise_index
