use Rattle.ns_blocked.proofs.Released.{woken_is}
use Rattle.ns_blocked.proofs.laws.wakes_are_the_models.Goals as goal

pub returns : goal.returns
returns c w w' = woken_is w w'
