use Rattle.std.proofs.Common.{drop}
use Rattle.ns_broker.proofs.Seen.{IsListing}
use Rattle.ns_broker.proofs.snapshot.pool.nodes_in.Given as goal
use Rattle.ns_tables.specs.World.{world_of}

abbrev pub invariant-loop-slot : goal.invariant-loop-slot
invariant-loop-slot l = IsListing (world_of l.tables) l.pool l.slots (drop l.slot-index l.slots) l.nodes l.live
