use Rattle.ns_laws.proofs.Wakes.Queue.{first_is_served}
use Rattle.ns_laws.proofs.queue.first_is_served.Goals as goal

pub returns : goal.returns
returns c = first_is_served
