use Rattle.ns_laws.proofs.Work.Jobs.{work_keeps_jobs}
use Rattle.ns_laws.proofs.workers.work_keeps_jobs.Goals as goal

pub returns : goal.returns
returns c = work_keeps_jobs
