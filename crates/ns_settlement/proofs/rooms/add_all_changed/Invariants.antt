use Rattle.std.proofs.Common.{◌≡◌, ◌++◌, drop}
use Rattle.std.specs.Prelude.{flat_map}
use Rattle.ns_release.specs.Released.{rooms_at}
use Rattle.ns_tables.specs.World.{pool_of}
use Rattle.ns_settlement.proofs.rooms.add_all_changed.Given as goal

abbrev pub invariant-loop-slot : goal.invariant-loop-slot
invariant-loop-slot l = l.rooms ++ flat_map (rooms_at l.pool (pool_of l.rows)) (drop l.slot-index l.slots) ≡ l.initial.rooms ++
    flat_map (rooms_at l.pool (pool_of l.rows)) l.slots
