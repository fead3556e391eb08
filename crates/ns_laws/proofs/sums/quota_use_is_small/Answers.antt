use Rattle.ns_laws.proofs.SumLemmas.{quota_use_is_small}
use Rattle.ns_laws.proofs.sums.quota_use_is_small.Goals as goal

pub returns : goal.returns
returns c = quota_use_is_small
