use Rattle.ns_audit.proofs.Valid.{valid_step}
use Rattle.ns_audit.proofs.laws.valid_step.Goals as goal

pub returns : goal.returns
returns c = valid_step
