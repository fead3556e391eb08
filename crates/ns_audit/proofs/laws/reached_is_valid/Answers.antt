use Rattle.ns_audit.proofs.Valid.{reached_is_valid}
use Rattle.ns_audit.proofs.laws.reached_is_valid.Goals as goal

pub returns : goal.returns
returns c = reached_is_valid
