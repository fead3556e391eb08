use Rattle.ns_applier.proofs.Whole.{allocations_stay}
use Rattle.ns_applier.proofs.laws.allocations_stay.Goals as goal

pub returns : goal.returns
returns c = allocations_stay
