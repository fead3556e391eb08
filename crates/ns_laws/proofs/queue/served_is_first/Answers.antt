use Rattle.ns_laws.proofs.Wakes.Queue.{served_is_first}
use Rattle.ns_laws.proofs.queue.served_is_first.Goals as goal

pub returns : goal.returns
returns c = served_is_first
