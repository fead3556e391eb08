use Rattle.ns_audit.proofs.RightsLemmas.{manager_is_allowed}
use Rattle.ns_laws.proofs.rights.manager_is_allowed.Goals as goal

pub returns : goal.returns
returns c = manager_is_allowed
