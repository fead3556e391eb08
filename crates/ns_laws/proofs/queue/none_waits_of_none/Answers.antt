use Rattle.ns_laws.proofs.OrderedLemmas.{none_waits_of_none}
use Rattle.ns_laws.proofs.queue.none_waits_of_none.Goals as goal

pub returns : goal.returns
returns c = none_waits_of_none
