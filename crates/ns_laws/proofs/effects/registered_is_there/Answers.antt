use Rattle.ns_laws.proofs.Effect.Asks.{registered_is_there}
use Rattle.ns_laws.proofs.effects.registered_is_there.Goals as goal

pub returns : goal.returns
returns c = registered_is_there
