use Rattle.ns_jobs.proofs.Past.{jobs_fit}
use Rattle.ns_jobs.proofs.laws.jobs_pass_nothing_else.Goals as goal

pub returns : goal.returns
returns c = jobs_fit
