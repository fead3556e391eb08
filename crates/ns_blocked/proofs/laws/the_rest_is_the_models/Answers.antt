use Rattle.ns_blocked.proofs.Kept.{rest_is}
use Rattle.ns_blocked.proofs.laws.the_rest_is_the_models.Goals as goal

pub returns : goal.returns
returns c w w' = rest_is w w'
