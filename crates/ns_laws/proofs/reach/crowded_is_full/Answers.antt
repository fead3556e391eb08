use Rattle.ns_laws.proofs.Scope.Reach.{crowded_is_full}
use Rattle.ns_laws.proofs.reach.crowded_is_full.Goals as goal

pub returns : goal.returns
returns c = crowded_is_full
