use Rattle.ns_laws.proofs.Reading.Documents.{quotas_are_listed}
use Rattle.ns_laws.proofs.reads.quotas_are_listed.Goals as goal

pub returns : goal.returns
returns c = quotas_are_listed
