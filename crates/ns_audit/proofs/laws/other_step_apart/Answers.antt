use Rattle.ns_audit.proofs.Alone.Stepping.{other_step_apart}
use Rattle.ns_audit.proofs.laws.other_step_apart.Goals as goal

pub returns : goal.returns
returns c = other_step_apart
