use Rattle.ns_laws.proofs.Reading.Documents.{pool_is_shown}
use Rattle.ns_laws.proofs.reads.pool_is_shown.Goals as goal

pub returns : goal.returns
returns c = pool_is_shown
