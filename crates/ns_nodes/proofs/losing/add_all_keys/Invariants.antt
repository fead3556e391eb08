use Rattle.std.proofs.Common.{◌≡◌, ◌++◌, drop}
use Rattle.std.specs.Prelude.{flat_map}
use Rattle.ns_nodes.specs.Losing.{losing_keys_at}
use Rattle.ns_nodes.proofs.losing.add_all_keys.Given as goal
use Rattle.ns_tables.specs.World.{world_of}

abbrev pub invariant-loop-slot : goal.invariant-loop-slot
invariant-loop-slot l = l.keys ++ flat_map (losing_keys_at (world_of l.tables) l.pool l.node) (drop l.slot-index l.slots)
    ≡ l.initial.keys ++ flat_map (losing_keys_at (world_of l.tables) l.pool l.node) l.slots
