use Rattle.std.proofs.Common.{drop}
use Rattle.ns_queues.proofs.Taken.{Taking}
use Rattle.ns_queues.proofs.ready.take_all.Given as goal
use Rattle.ns_tables.specs.World.{world_of}

abbrev pub invariant-loop-key : goal.invariant-loop-key
invariant-loop-key l = Taking (world_of l.tables) l.keys l.initial.levels l.levels (drop l.key-index l.keys)
