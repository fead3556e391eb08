use Rattle.ns_audit.proofs.Apartness.{struck_from_apart}
use Rattle.ns_laws.proofs.isolation.staying.struck_from_apart.Goals as goal

pub returns : goal.returns
returns c = struck_from_apart
