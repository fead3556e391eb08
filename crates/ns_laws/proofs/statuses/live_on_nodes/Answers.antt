use Rattle.ns_laws.proofs.Meanings.{live_on_nodes}
use Rattle.ns_laws.proofs.statuses.live_on_nodes.Goals as goal

pub returns : goal.returns
returns c = live_on_nodes
