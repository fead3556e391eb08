use Rattle.ns_laws.proofs.Scope.Asks.{index_is_shown}
use Rattle.ns_laws.proofs.reach.index_is_shown.Goals as goal

pub returns : goal.returns
returns c = index_is_shown
