use Rattle.ns_laws.proofs.Effect.Nodes.{reported_is_there}
use Rattle.ns_laws.proofs.effects.reported_is_there.Goals as goal

pub returns : goal.returns
returns c = reported_is_there
