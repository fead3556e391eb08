use Rattle.ns_laws.proofs.Service.Laws.{none_is_forgotten}
use Rattle.ns_laws.proofs.serving.none_is_forgotten.Goals as goal

pub returns : goal.returns
returns c = none_is_forgotten
