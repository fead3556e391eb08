use Rattle.ns_audit.proofs.Apartness.{intrudes_by_permits}
use Rattle.ns_laws.proofs.isolation.parting.intrudes_by_permits.Goals as goal

pub returns : goal.returns
returns c = intrudes_by_permits
