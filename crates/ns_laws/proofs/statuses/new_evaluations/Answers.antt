use Rattle.ns_laws.proofs.Meanings.{new_evaluations}
use Rattle.ns_laws.proofs.statuses.new_evaluations.Goals as goal

pub returns : goal.returns
returns c = new_evaluations
