use Rattle.std.proofs.Common.{◌≡◌, ◌++◌, drop}
use Rattle.ns_change.specs.Settled.{settled_world}
use Rattle.ns_queues.specs.Waiting.{entries_for}
use Rattle.ns_tables.specs.World.{world_of}
use Rattle.ns_queues.proofs.blocked.added_entries.Given as goal

abbrev pub invariant-loop-key : goal.invariant-loop-key
invariant-loop-key l = l.entries ++ entries_for (settled_world (world_of l.tables) l.settled) (drop l.key-index l.key-items)
    ≡ entries_for (settled_world (world_of l.tables) l.settled) l.key-items
