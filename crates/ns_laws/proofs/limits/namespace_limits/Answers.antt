use Rattle.ns_laws.proofs.Texts.Limiting.{namespace_limits}
use Rattle.ns_laws.proofs.limits.namespace_limits.Goals as goal

pub returns : goal.returns
returns c = namespace_limits
