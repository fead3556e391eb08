use Rattle.ns_laws.proofs.Plans.Room.{evicts_within_capacity}
use Rattle.ns_laws.proofs.surplus.evicts_within_capacity.Goals as goal

pub returns : goal.returns
returns c = evicts_within_capacity
