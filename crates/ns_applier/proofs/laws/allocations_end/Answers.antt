use Rattle.ns_applier.proofs.Ending.{allocations_end}
use Rattle.ns_applier.proofs.laws.allocations_end.Goals as goal

pub returns : goal.returns
returns c = allocations_end
