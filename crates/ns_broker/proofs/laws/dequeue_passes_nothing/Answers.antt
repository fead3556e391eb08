use Rattle.ns_broker.proofs.Bounding.{dequeue_fits}
use Rattle.ns_broker.proofs.laws.dequeue_passes_nothing.Goals as goal

pub returns : goal.returns
returns c = dequeue_fits
