use Rattle.ns_laws.proofs.Finding.{evaluations_are_found}
use Rattle.ns_laws.proofs.lookups.evaluations_are_found.Goals as goal

pub returns : goal.returns
returns c = evaluations_are_found
