use Rattle.ns_laws.proofs.Work.Places.{work_stays_inside}
use Rattle.ns_laws.proofs.workers.work_stays_inside.Goals as goal

pub returns : goal.returns
returns c = work_stays_inside
