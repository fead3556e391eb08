use Rattle.ns_laws.proofs.Meanings.{open_evaluations}
use Rattle.ns_laws.proofs.statuses.open_evaluations.Goals as goal

pub returns : goal.returns
returns c = open_evaluations
