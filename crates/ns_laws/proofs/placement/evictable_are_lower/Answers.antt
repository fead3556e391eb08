use Rattle.ns_laws.proofs.Choices.Levels.{evictable_are_lower}
use Rattle.ns_laws.proofs.placement.evictable_are_lower.Goals as goal

pub returns : goal.returns
returns c = evictable_are_lower
