use Rattle.ns_log.proofs.LawLemmas.{settled_is_not_faulted}
use Rattle.ns_log.proofs.receipts.laws.settled_is_not_faulted.Goals as goal

pub returns : goal.returns
returns c = settled_is_not_faulted
