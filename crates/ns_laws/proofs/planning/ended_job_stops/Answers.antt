use Rattle.ns_laws.proofs.Plans.Planning.{ended_job_stops}
use Rattle.ns_laws.proofs.planning.ended_job_stops.Goals as goal

pub returns : goal.returns
returns c = ended_job_stops
