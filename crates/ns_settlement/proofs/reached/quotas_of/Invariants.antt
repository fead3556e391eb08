use Rattle.std.proofs.Common.{take}
use Rattle.ns_settlement.specs.Reached.{AreOfNames}
use Rattle.ns_tables.specs.World.{world_of}
use Rattle.ns_settlement.proofs.reached.quotas_of.Given as goal

abbrev pub invariant-loop-name : goal.invariant-loop-name
invariant-loop-name l = AreOfNames (world_of l.tables) (take l.name-index l.names) l.quotas
