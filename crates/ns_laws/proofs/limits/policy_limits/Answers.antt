use Rattle.ns_laws.proofs.Texts.Limiting.{policy_limits}
use Rattle.ns_laws.proofs.limits.policy_limits.Goals as goal

pub returns : goal.returns
returns c = policy_limits
