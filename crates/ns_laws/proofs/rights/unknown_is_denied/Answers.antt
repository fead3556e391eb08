use Rattle.ns_audit.proofs.RightsLemmas.{unknown_is_denied}
use Rattle.ns_laws.proofs.rights.unknown_is_denied.Goals as goal

pub returns : goal.returns
returns c = unknown_is_denied
