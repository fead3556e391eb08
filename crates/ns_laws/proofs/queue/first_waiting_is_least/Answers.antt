use Rattle.ns_laws.proofs.OrderedLemmas.{first_waiting_is_least}
use Rattle.ns_laws.proofs.queue.first_waiting_is_least.Goals as goal

pub returns : goal.returns
returns c = first_waiting_is_least
