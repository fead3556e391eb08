use Rattle.std.proofs.Common.{◌≡◌, ◌++◌, drop}
use Rattle.std.specs.Prelude.{flat_map}
use Rattle.ns_release.specs.Released.{ended_of, quota_left}
use Rattle.ns_tables.specs.World.{world_of}
use Rattle.ns_settlement.proofs.quotas.add_all_left.Given as goal

abbrev pub invariant-loop-slot : goal.invariant-loop-slot
invariant-loop-slot l = l.quotas ++ flat_map (λ s. flat_map (λ e. quota_left e.0) (ended_of (world_of l.tables) s.0 s.1)) (drop l.slot-index l.slots)
    ≡ l.initial.quotas ++ flat_map (λ s. flat_map (λ e. quota_left e.0) (ended_of (world_of l.tables) s.0 s.1)) l.slots
