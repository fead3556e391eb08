use Rattle.ns_laws.proofs.Reading.Requests.{evaluation_is_shown}
use Rattle.ns_laws.proofs.reads.evaluation_is_shown.Goals as goal

pub returns : goal.returns
returns c = evaluation_is_shown
