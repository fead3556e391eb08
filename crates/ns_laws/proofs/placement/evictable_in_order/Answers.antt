use Rattle.ns_laws.proofs.Choices.Levels.{evictable_in_order}
use Rattle.ns_laws.proofs.placement.evictable_in_order.Goals as goal

pub returns : goal.returns
returns c = evictable_in_order
