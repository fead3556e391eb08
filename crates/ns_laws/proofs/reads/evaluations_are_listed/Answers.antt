use Rattle.ns_laws.proofs.Reading.Requests.{evaluations_are_listed}
use Rattle.ns_laws.proofs.reads.evaluations_are_listed.Goals as goal

pub returns : goal.returns
returns c = evaluations_are_listed
