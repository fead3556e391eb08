use Rattle.ns_laws.proofs.Service.Laws.{ended_evaluation_stays}
use Rattle.ns_laws.proofs.serving.ended_evaluation_stays.Goals as goal

pub returns : goal.returns
returns c = ended_evaluation_stays
