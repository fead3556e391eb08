use Rattle.ns_laws.proofs.Wakes.Queue.{woken_are_called}
use Rattle.ns_laws.proofs.queue.woken_are_called.Goals as goal

pub returns : goal.returns
returns c = woken_are_called
