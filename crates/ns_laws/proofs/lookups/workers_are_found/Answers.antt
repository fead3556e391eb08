use Rattle.ns_laws.proofs.Finding.{workers_are_found}
use Rattle.ns_laws.proofs.lookups.workers_are_found.Goals as goal

pub returns : goal.returns
returns c = workers_are_found
