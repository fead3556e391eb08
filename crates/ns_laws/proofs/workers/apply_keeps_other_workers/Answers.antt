use Rattle.ns_laws.proofs.Work.Places.{apply_keeps_other_workers}
use Rattle.ns_laws.proofs.workers.apply_keeps_other_workers.Goals as goal

pub returns : goal.returns
returns c = apply_keeps_other_workers
