use Rattle.ns_applier.proofs.Whole.{committed_are_there}
use Rattle.ns_applier.proofs.laws.committed_are_there.Goals as goal

pub returns : goal.returns
returns c = committed_are_there
