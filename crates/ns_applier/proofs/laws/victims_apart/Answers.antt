use Rattle.ns_applier.proofs.Ending.{victims_apart}
use Rattle.ns_applier.proofs.laws.victims_apart.Goals as goal

pub returns : goal.returns
returns c = victims_apart
