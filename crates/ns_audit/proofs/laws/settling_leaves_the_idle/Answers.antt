use Rattle.ns_types.proofs.Settling.{settle_same}
use Rattle.ns_audit.proofs.laws.settling_leaves_the_idle.Goals as goal

pub returns : goal.returns
returns c = settle_same
