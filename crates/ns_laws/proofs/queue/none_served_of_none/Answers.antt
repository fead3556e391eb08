use Rattle.ns_laws.proofs.Wakes.Queue.{none_served_of_none}
use Rattle.ns_laws.proofs.queue.none_served_of_none.Goals as goal

pub returns : goal.returns
returns c = none_served_of_none
