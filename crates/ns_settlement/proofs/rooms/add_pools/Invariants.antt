use Rattle.std.proofs.Common.{◌≡◌, ◌++◌, drop}
use Rattle.std.specs.Prelude.{flat_map}
use Rattle.ns_release.specs.Released.{changed_classes, in_pool}
use Rattle.ns_tables.specs.World.{world_of}
use Rattle.ns_settlement.proofs.rooms.add_pools.Given as goal

abbrev pub invariant-loop-slot : goal.invariant-loop-slot
invariant-loop-slot l = l.rooms ++ flat_map (λ e. in_pool e.0 (changed_classes (world_of l.tables) e.0 e.1)) (drop l.slot-index l.slots) ≡ l.initial.rooms ++
    flat_map (λ e. in_pool e.0 (changed_classes (world_of l.tables) e.0 e.1)) l.slots
