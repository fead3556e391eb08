use Rattle.ns_applier.proofs.Ending.{plan_is_for_job}
use Rattle.ns_applier.proofs.laws.plan_is_for_job.Goals as goal

pub returns : goal.returns
returns c = plan_is_for_job
