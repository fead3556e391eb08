use Rattle.ns_laws.proofs.Plans.Quota.{frees_within_quota}
use Rattle.ns_laws.proofs.surplus.frees_within_quota.Goals as goal

pub returns : goal.returns
returns c = frees_within_quota
