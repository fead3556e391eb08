use Rattle.ns_laws.proofs.Effect.Nodes.{deleted_node_is_gone}
use Rattle.ns_laws.proofs.effects.deleted_node_is_gone.Goals as goal

pub returns : goal.returns
returns c = deleted_node_is_gone
