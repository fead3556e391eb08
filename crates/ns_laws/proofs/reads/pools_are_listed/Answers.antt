use Rattle.ns_laws.proofs.Reading.Documents.{pools_are_listed}
use Rattle.ns_laws.proofs.reads.pools_are_listed.Goals as goal

pub returns : goal.returns
returns c = pools_are_listed
