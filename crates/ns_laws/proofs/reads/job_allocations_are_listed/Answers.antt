use Rattle.ns_laws.proofs.Reading.Requests.{job_allocations_are_listed}
use Rattle.ns_laws.proofs.reads.job_allocations_are_listed.Goals as goal

pub returns : goal.returns
returns c = job_allocations_are_listed
