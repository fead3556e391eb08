use Rattle.ns_audit.proofs.Alone.Running.{steady_step}
use Rattle.ns_audit.proofs.laws.steady_step.Goals as goal

pub returns : goal.returns
returns c = steady_step
