use Rattle.ns_laws.proofs.Plans.Room.{plans_within_capacity}
use Rattle.ns_laws.proofs.planning.plans_within_capacity.Goals as goal

pub returns : goal.returns
returns c = plans_within_capacity
