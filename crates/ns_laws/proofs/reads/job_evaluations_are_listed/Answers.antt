use Rattle.ns_laws.proofs.Reading.Requests.{job_evaluations_are_listed}
use Rattle.ns_laws.proofs.reads.job_evaluations_are_listed.Goals as goal

pub returns : goal.returns
returns c = job_evaluations_are_listed
