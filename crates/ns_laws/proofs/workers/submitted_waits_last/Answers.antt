use Rattle.ns_laws.proofs.Work.Steps.{submitted_waits_last}
use Rattle.ns_laws.proofs.workers.submitted_waits_last.Goals as goal

pub returns : goal.returns
returns c = submitted_waits_last
