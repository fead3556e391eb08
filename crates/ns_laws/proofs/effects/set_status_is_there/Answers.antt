use Rattle.ns_laws.proofs.Effect.Nodes.{set_status_is_there}
use Rattle.ns_laws.proofs.effects.set_status_is_there.Goals as goal

pub returns : goal.returns
returns c = set_status_is_there
