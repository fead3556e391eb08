use Rattle.ns_laws.proofs.Texts.Limiting.{node_limits}
use Rattle.ns_laws.proofs.limits.node_limits.Goals as goal

pub returns : goal.returns
returns c = node_limits
