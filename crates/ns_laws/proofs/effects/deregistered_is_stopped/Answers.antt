use Rattle.ns_laws.proofs.Effect.Asks.{deregistered_is_stopped}
use Rattle.ns_laws.proofs.effects.deregistered_is_stopped.Goals as goal

pub returns : goal.returns
returns c = deregistered_is_stopped
