use Rattle.ns_audit.proofs.RightsLemmas.{unknown_has_no_right}
use Rattle.ns_laws.proofs.rights.unknown_has_no_right.Goals as goal

pub returns : goal.returns
returns c = unknown_has_no_right
