use Rattle.ns_laws.proofs.Texts.Limiting.{quota_limits}
use Rattle.ns_laws.proofs.limits.quota_limits.Goals as goal

pub returns : goal.returns
returns c = quota_limits
