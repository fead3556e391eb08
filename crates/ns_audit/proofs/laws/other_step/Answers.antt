use Rattle.ns_audit.proofs.Alone.Heading.{other_step}
use Rattle.ns_audit.proofs.laws.other_step.Goals as goal

pub returns : goal.returns
returns c = other_step
