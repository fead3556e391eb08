use Rattle.ns_laws.proofs.Plans.OwnJobs.{snapshots_keep_own_job}
use Rattle.ns_laws.proofs.planning.snapshots_keep_own_job.Goals as goal

pub returns : goal.returns
returns c = snapshots_keep_own_job
