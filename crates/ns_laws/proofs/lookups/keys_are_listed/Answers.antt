use Rattle.ns_laws.proofs.Finding.{keys_are_listed}
use Rattle.ns_laws.proofs.lookups.keys_are_listed.Goals as goal

pub returns : goal.returns
returns c = keys_are_listed
