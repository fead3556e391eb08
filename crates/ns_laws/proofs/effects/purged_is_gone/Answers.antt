use Rattle.ns_laws.proofs.Effect.Asks.{purged_is_gone}
use Rattle.ns_laws.proofs.effects.purged_is_gone.Goals as goal

pub returns : goal.returns
returns c = purged_is_gone
