use Rattle.ns_audit.proofs.Apartness.{apart_step}
use Rattle.ns_laws.proofs.isolation.staying.apart_step.Goals as goal

pub returns : goal.returns
returns c = apart_step
