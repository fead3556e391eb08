use Rattle.ns_audit.proofs.Alone.Stepping.{own_step_apart}
use Rattle.ns_audit.proofs.laws.own_step_apart.Goals as goal

pub returns : goal.returns
returns c = own_step_apart
