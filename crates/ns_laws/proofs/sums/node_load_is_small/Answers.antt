use Rattle.ns_laws.proofs.SumLemmas.{node_load_is_small}
use Rattle.ns_laws.proofs.sums.node_load_is_small.Goals as goal

pub returns : goal.returns
returns c = node_load_is_small
