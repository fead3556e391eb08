use Rattle.std.proofs.Common.{◌≡◌, drop, map}
use Rattle.ns_types.specs.State.Names.{Name}
use Rattle.ns_change.specs.Waiting.{lesser}
use Rattle.ns_renewal.specs.Losing.{least_of, victims_at}
use Rattle.ns_renewal.specs.Losses.{number_at}
use Rattle.ns_renewal.proofs.losing.lower_each.Given as goal
use Rattle.ns_tables.specs.World.{world_of}

abbrev pub invariant-loop-eviction : goal.invariant-loop-eviction
invariant-loop-eviction l = (ns job : Name) →
    lesser (number_at l.losses ns job) (least_of (victims_at (world_of l.tables) (map (λ e. e.now) (drop l.eviction-index l.evictions))) ns job)
    ≡ lesser (number_at l.initial.losses ns job) (least_of (victims_at (world_of l.tables) (map (λ e. e.now) l.evictions)) ns job)
