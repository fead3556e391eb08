use Rattle.ns_laws.proofs.Texts.Limiting.{constraint_limits}
use Rattle.ns_laws.proofs.limits.constraint_limits.Goals as goal

pub returns : goal.returns
returns c = constraint_limits
