use Rattle.ns_laws.proofs.Work.Steps.{snapshot_is_true}
use Rattle.ns_laws.proofs.workers.snapshot_is_true.Goals as goal

pub returns : goal.returns
returns c = snapshot_is_true
