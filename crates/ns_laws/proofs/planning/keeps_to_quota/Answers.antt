use Rattle.ns_laws.proofs.Plans.ApplyQuota.{keeps_to_quota}
use Rattle.ns_laws.proofs.planning.keeps_to_quota.Goals as goal

pub returns : goal.returns
returns c = keeps_to_quota
