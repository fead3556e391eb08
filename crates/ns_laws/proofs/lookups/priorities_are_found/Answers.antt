use Rattle.ns_laws.proofs.Finding.{priorities_are_found}
use Rattle.ns_laws.proofs.lookups.priorities_are_found.Goals as goal

pub returns : goal.returns
returns c = priorities_are_found
