use Rattle.ns_laws.proofs.Plans.OwnJobs.{stops_own_job}
use Rattle.ns_laws.proofs.planning.stops_own_job.Goals as goal

pub returns : goal.returns
returns c = stops_own_job
