use Rattle.std.proofs.Common.{◌≡◌, ◌++◌, drop}
use Rattle.std.specs.Prelude.{flat_map}
use Rattle.ns_release.specs.Released.{ended_one, rooms_left}
use Rattle.ns_tables.specs.World.{tenant_of}
use Rattle.ns_change.specs.Changed.{view}
use Rattle.ns_settlement.proofs.rooms.add_all_ended.Given as goal

abbrev pub invariant-loop-slot : goal.invariant-loop-slot
invariant-loop-slot l = l.rooms ++ flat_map (λ s. flat_map (rooms_left (view l.tables l.change)) (ended_one (tenant_of l.tenant) s.0 s.1))
    (drop l.slot-index l.slots)
    ≡ l.initial.rooms ++ flat_map (λ s. flat_map (rooms_left (view l.tables l.change)) (ended_one (tenant_of l.tenant) s.0 s.1)) l.slots
