use Rattle.ns_laws.proofs.Endings.Laws.{ended_stays_ended}
use Rattle.ns_laws.proofs.ending.ended_stays_ended.Goals as goal

pub returns : goal.returns
returns c = ended_stays_ended
