use Rattle.ns_laws.proofs.Effect.Asks.{stopped_allocation}
use Rattle.ns_laws.proofs.effects.stopped_allocation.Goals as goal

pub returns : goal.returns
returns c = stopped_allocation
