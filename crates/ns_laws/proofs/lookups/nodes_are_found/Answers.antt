use Rattle.ns_laws.proofs.Finding.{nodes_are_found}
use Rattle.ns_laws.proofs.lookups.nodes_are_found.Goals as goal

pub returns : goal.returns
returns c = nodes_are_found
