use Rattle.ns_laws.proofs.Finding.{allocations_are_found}
use Rattle.ns_laws.proofs.lookups.allocations_are_found.Goals as goal

pub returns : goal.returns
returns c = allocations_are_found
