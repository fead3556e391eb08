use Rattle.std.proofs.Common.{◌≡◌, length}
use Rattle.std.specs.List.{list_any}
use Rattle.ns_renewal.specs.Losing.{is_of_job, victims_at}
use Rattle.ns_renewal.proofs.numbers.any_is_of_job.Given as goal
use Rattle.ns_tables.specs.World.{world_of}

abbrev pub invariant-loop-eviction : goal.invariant-loop-eviction
invariant-loop-eviction g l =
    list_any (is_of_job l.namespace l.job) (victims_at (world_of l.tables) (g.E.Evictions.list l.rest))
    ≡ list_any (is_of_job l.namespace l.job) (victims_at (world_of l.tables) (g.E.Evictions.list l.fn.evictions))

abbrev pub decreases-loop-eviction : goal.decreases-loop-eviction
decreases-loop-eviction g l = length (g.E.Evictions.list l.rest)
