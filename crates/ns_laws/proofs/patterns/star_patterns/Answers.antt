use Rattle.ns_laws.proofs.Matching.{star_patterns}
use Rattle.ns_laws.proofs.patterns.star_patterns.Goals as goal

pub returns : goal.returns
returns c = star_patterns
