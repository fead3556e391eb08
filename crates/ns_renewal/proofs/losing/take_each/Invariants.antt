use Rattle.std.proofs.Common.{◌≡◌, ◌++◌, drop, map}
use Rattle.ns_renewal.specs.Losing.{keys_left, victims_at}
use Rattle.ns_renewal.specs.Losses.{number_at}
use Rattle.ns_renewal.proofs.losing.take_each.Given as goal
use Rattle.ns_tables.specs.World.{world_of}

abbrev pub invariant-loop-victim : goal.invariant-loop-victim
invariant-loop-victim l =
    l.keys ++ keys_left (number_at l.losses) (victims_at (world_of l.tables) (map (λ e. e.now) (drop l.victim-index l.evictions)))
    ≡ keys_left (number_at l.initial.losses) (victims_at (world_of l.tables) (map (λ e. e.now) l.evictions))
