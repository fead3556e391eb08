use Rattle.ns_audit.proofs.Apartness.{stays_apart}
use Rattle.ns_laws.proofs.isolation.staying.stays_apart.Goals as goal

pub returns : goal.returns
returns c = stays_apart
