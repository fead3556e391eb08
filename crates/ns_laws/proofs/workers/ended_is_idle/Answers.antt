use Rattle.ns_laws.proofs.Work.Places.{ended_is_idle}
use Rattle.ns_laws.proofs.workers.ended_is_idle.Goals as goal

pub returns : goal.returns
returns c = ended_is_idle
