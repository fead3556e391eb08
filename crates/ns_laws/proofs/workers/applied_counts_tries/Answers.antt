use Rattle.ns_laws.proofs.Work.Apply.{applied_counts_tries}
use Rattle.ns_laws.proofs.workers.applied_counts_tries.Goals as goal

pub returns : goal.returns
returns c = applied_counts_tries
