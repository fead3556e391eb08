use Rattle.ns_broker.proofs.Submitted.{not_enabled}
use Rattle.ns_broker.proofs.laws.refused_is_not_enabled.Goals as goal

pub returns : goal.returns
returns c = not_enabled
