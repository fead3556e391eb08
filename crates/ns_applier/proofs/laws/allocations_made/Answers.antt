use Rattle.ns_applier.proofs.Whole.{allocations_made}
use Rattle.ns_applier.proofs.laws.allocations_made.Goals as goal

pub returns : goal.returns
returns c = allocations_made
