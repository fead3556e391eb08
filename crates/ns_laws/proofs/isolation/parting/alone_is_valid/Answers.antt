use Rattle.ns_audit.proofs.AloneValid.{alone_is_valid}
use Rattle.ns_laws.proofs.isolation.parting.alone_is_valid.Goals as goal

pub returns : goal.returns
returns c = alone_is_valid
