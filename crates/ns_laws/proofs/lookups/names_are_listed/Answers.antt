use Rattle.ns_laws.proofs.Finding.{names_are_listed}
use Rattle.ns_laws.proofs.lookups.names_are_listed.Goals as goal

pub returns : goal.returns
returns c = names_are_listed
