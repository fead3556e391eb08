use Rattle.ns_laws.proofs.Texts.Limiting.{pool_limits}
use Rattle.ns_laws.proofs.limits.pool_limits.Goals as goal

pub returns : goal.returns
returns c = pool_limits
