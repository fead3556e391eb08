use Rattle.ns_laws.proofs.Wakes.Queue.{woken_in_order}
use Rattle.ns_laws.proofs.queue.woken_in_order.Goals as goal

pub returns : goal.returns
returns c = woken_in_order
