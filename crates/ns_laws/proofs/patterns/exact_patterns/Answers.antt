use Rattle.ns_laws.proofs.Matching.{exact_patterns}
use Rattle.ns_laws.proofs.patterns.exact_patterns.Goals as goal

pub returns : goal.returns
returns c = exact_patterns
