use Rattle.ns_laws.proofs.Meanings.{free_nodes}
use Rattle.ns_laws.proofs.statuses.free_nodes.Goals as goal

pub returns : goal.returns
returns c = free_nodes
