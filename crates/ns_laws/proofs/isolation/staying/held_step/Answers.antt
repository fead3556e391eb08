use Rattle.ns_audit.proofs.Held.Steps.{held_step}
use Rattle.ns_laws.proofs.isolation.staying.held_step.Goals as goal

pub returns : goal.returns
returns c = held_step
