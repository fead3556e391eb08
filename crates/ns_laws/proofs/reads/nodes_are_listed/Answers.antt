use Rattle.ns_laws.proofs.Reading.Documents.{nodes_are_listed}
use Rattle.ns_laws.proofs.reads.nodes_are_listed.Goals as goal

pub returns : goal.returns
returns c = nodes_are_listed
