use Rattle.ns_audit.proofs.Valid.{opening_is_valid}
use Rattle.ns_audit.proofs.laws.opening_is_valid.Goals as goal

pub returns : goal.returns
returns c = opening_is_valid
