use Rattle.ns_laws.proofs.Plans.Planning.{evicts_lower_only}
use Rattle.ns_laws.proofs.planning.evicts_lower_only.Goals as goal

pub returns : goal.returns
returns c = evicts_lower_only
