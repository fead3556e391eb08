use Rattle.ns_laws.proofs.Reading.Documents.{namespaces_are_listed}
use Rattle.ns_laws.proofs.reads.namespaces_are_listed.Goals as goal

pub returns : goal.returns
returns c = namespaces_are_listed
