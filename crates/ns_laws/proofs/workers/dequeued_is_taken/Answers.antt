use Rattle.ns_laws.proofs.Work.Steps.{dequeued_is_taken}
use Rattle.ns_laws.proofs.workers.dequeued_is_taken.Goals as goal

pub returns : goal.returns
returns c = dequeued_is_taken
