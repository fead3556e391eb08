use Rattle.std.proofs.Common.{◌≡◌, ◌++◌, drop}
use Rattle.std.specs.Prelude.{flat_map}
use Rattle.ns_release.specs.Released.{quota_relimited}
use Rattle.ns_tables.specs.World.{world_of}
use Rattle.ns_settlement.proofs.quotas.add_all_relimited.Given as goal

abbrev pub invariant-loop-slot : goal.invariant-loop-slot
invariant-loop-slot l = l.quotas ++ flat_map (quota_relimited (world_of l.tables)) (drop l.slot-index l.slots)
    ≡ l.initial.quotas ++ flat_map (quota_relimited (world_of l.tables)) l.slots
