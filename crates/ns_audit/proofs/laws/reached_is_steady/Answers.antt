use Rattle.ns_audit.proofs.Steady.Opening.{reached_is_steady}
use Rattle.ns_audit.proofs.laws.reached_is_steady.Goals as goal

pub returns : goal.returns
returns c = reached_is_steady
