use Rattle.ns_laws.proofs.Plans.Limits.{plans_within_quota}
use Rattle.ns_laws.proofs.planning.plans_within_quota.Goals as goal

pub returns : goal.returns
returns c = plans_within_quota
