use Rattle.ns_laws.proofs.Endings.Evictions.{evicted_is_evaluated}
use Rattle.ns_laws.proofs.ending.evicted_is_evaluated.Goals as goal

pub returns : goal.returns
returns c = evicted_is_evaluated
