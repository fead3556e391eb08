use Rattle.ns_laws.proofs.Plans.QuotaEnd.{quota_ends_plan}
use Rattle.ns_laws.proofs.planning.quota_ends_plan.Goals as goal

pub returns : goal.returns
returns c = quota_ends_plan
