use Rattle.ns_laws.proofs.Texts.Limiting.{group_limits}
use Rattle.ns_laws.proofs.limits.group_limits.Goals as goal

pub returns : goal.returns
returns c = group_limits
