use Rattle.ns_laws.proofs.Choices.Levels.{evictable_are_all}
use Rattle.ns_laws.proofs.placement.evictable_are_all.Goals as goal

pub returns : goal.returns
returns c = evictable_are_all
