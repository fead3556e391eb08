use Rattle.ns_laws.proofs.Wakes.Waking.{none_sleeps_over_quota}
use Rattle.ns_laws.proofs.waking.none_sleeps_over_quota.Goals as goal

pub returns : goal.returns
returns c = none_sleeps_over_quota
