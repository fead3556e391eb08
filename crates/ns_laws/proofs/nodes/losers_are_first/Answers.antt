use Rattle.ns_laws.proofs.OrderedLemmas.{losers_are_first}
use Rattle.ns_laws.proofs.nodes.losers_are_first.Goals as goal

pub returns : goal.returns
returns c = losers_are_first
