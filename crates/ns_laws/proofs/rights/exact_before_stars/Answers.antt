use Rattle.ns_audit.proofs.RightsLemmas.{exact_before_stars}
use Rattle.ns_laws.proofs.rights.exact_before_stars.Goals as goal

pub returns : goal.returns
returns c = exact_before_stars
