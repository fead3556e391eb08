use Rattle.ns_documents.proofs.Good.{pool_good, pool_has_name}
use Rattle.ns_documents.proofs.pool.read_pool.Goals as goal

pub returns-clause-good : goal.returns-clause-good
returns-clause-good c = pool_good _ _ _ c.pool.ensures

pub returns-clause-name : goal.returns-clause-name
returns-clause-name c = pool_has_name _ _ _ c.pool.ensures
