use Rattle.ns_audit.proofs.RightsLemmas.{others_do_not_count}
use Rattle.ns_laws.proofs.rights.others_do_not_count.Goals as goal

pub returns : goal.returns
returns c = others_do_not_count
