use Rattle.ns_audit.proofs.Alone.Heading.{own_step}
use Rattle.ns_audit.proofs.laws.own_step.Goals as goal

pub returns : goal.returns
returns c = own_step
