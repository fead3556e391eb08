use Rattle.ns_laws.proofs.Effect.Nodes.{down_is_lost}
use Rattle.ns_laws.proofs.effects.down_is_lost.Goals as goal

pub returns : goal.returns
returns c = down_is_lost
