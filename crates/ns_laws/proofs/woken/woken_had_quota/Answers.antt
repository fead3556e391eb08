use Rattle.ns_laws.proofs.Wakes.Reasons.{woken_had_quota}
use Rattle.ns_laws.proofs.woken.woken_had_quota.Goals as goal

pub returns : goal.returns
returns c = woken_had_quota
