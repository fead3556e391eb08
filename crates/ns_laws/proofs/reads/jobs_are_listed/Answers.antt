use Rattle.ns_laws.proofs.Reading.Requests.{jobs_are_listed}
use Rattle.ns_laws.proofs.reads.jobs_are_listed.Goals as goal

pub returns : goal.returns
returns c = jobs_are_listed
