use Rattle.ns_audit.proofs.RightsLemmas.{longest_star_counts}
use Rattle.ns_laws.proofs.rights.longest_star_counts.Goals as goal

pub returns : goal.returns
returns c = longest_star_counts
