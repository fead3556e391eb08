use Rattle.ns_laws.proofs.SumLemmas.{live_use_is_small}
use Rattle.ns_laws.proofs.sums.live_use_is_small.Goals as goal

pub returns : goal.returns
returns c = live_use_is_small
