use Rattle.ns_laws.proofs.Reading.Requests.{job_is_shown}
use Rattle.ns_laws.proofs.reads.job_is_shown.Goals as goal

pub returns : goal.returns
returns c = job_is_shown
