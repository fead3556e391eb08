use Rattle.std.proofs.Common.{◌≡◌, ◌++◌, drop}
use Rattle.std.specs.Prelude.{flat_map}
use Rattle.ns_queues.specs.Waiting.{entries_at}
use Rattle.ns_tables.specs.World.{world_of}
use Rattle.ns_queues.proofs.blocked.entries_in.Given as goal

abbrev pub invariant-loop-slot : goal.invariant-loop-slot
invariant-loop-slot l = let entries = entries_at (world_of l.tables) in
    l.entries ++ flat_map entries (drop l.slot-index l.slot-items) ≡ flat_map entries l.slot-items
