use Rattle.ns_laws.proofs.Work.Finish.{finished_is_ended}
use Rattle.ns_laws.proofs.workers.finished_is_ended.Goals as goal

pub returns : goal.returns
returns c = finished_is_ended
