use Rattle.ns_audit.proofs.Apartness.{default_is_permitted}
use Rattle.ns_laws.proofs.isolation.parting.default_is_permitted.Goals as goal

pub returns : goal.returns
returns c = default_is_permitted
