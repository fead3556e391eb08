use Rattle.ns_laws.proofs.Plans.Limits.{limits_are_real}
use Rattle.ns_laws.proofs.planning.limits_are_real.Goals as goal

pub returns : goal.returns
returns c = limits_are_real
