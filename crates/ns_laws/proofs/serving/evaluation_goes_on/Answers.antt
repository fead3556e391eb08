use Rattle.ns_laws.proofs.Service.Laws.{evaluation_goes_on}
use Rattle.ns_laws.proofs.serving.evaluation_goes_on.Goals as goal

pub returns : goal.returns
returns c = evaluation_goes_on
