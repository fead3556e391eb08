use Rattle.ns_audit.proofs.Alone.Settling.{settle_alone}
use Rattle.ns_audit.proofs.laws.settling_goes_alone.Goals as goal

pub returns : goal.returns
returns c = settle_alone
