use Rattle.ns_laws.proofs.Wakes.Queue.{woken_were_blocked}
use Rattle.ns_laws.proofs.queue.woken_were_blocked.Goals as goal

pub returns : goal.returns
returns c = woken_were_blocked
