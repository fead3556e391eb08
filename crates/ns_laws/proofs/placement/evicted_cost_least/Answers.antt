use Rattle.ns_laws.proofs.Choices.Placement.{evicted_cost_least}
use Rattle.ns_laws.proofs.placement.evicted_cost_least.Goals as goal

pub returns : goal.returns
returns c = evicted_cost_least
