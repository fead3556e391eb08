use Rattle.ns_audit.proofs.RightsLemmas.{one_pattern_counts}
use Rattle.ns_laws.proofs.rights.one_pattern_counts.Goals as goal

pub returns : goal.returns
returns c = one_pattern_counts
