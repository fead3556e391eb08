use Rattle.ns_laws.proofs.Effect.Nodes.{put_node_is_there}
use Rattle.ns_laws.proofs.effects.put_node_is_there.Goals as goal

pub returns : goal.returns
returns c = put_node_is_there
