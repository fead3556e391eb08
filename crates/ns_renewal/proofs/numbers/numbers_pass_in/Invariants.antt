use Rattle.std.proofs.Common.{◌≡◌, ◌+◌, length}
use Rattle.ns_renewal.specs.Losing.{losing_in, victims_at}
use Rattle.ns_renewal.proofs.numbers.numbers_pass_in.Given as goal
use Rattle.ns_tables.specs.World.{world_of}

abbrev pub invariant-loop-eviction : goal.invariant-loop-eviction
invariant-loop-eviction g l =
    l.number + losing_in l.namespace (victims_at (world_of l.tables) (g.E.Evictions.list l.rest))
    ≡ l.tenant.evaluation_number + losing_in l.namespace (victims_at (world_of l.tables) (g.E.Evictions.list l.fn.evictions))

abbrev pub decreases-loop-eviction : goal.decreases-loop-eviction
decreases-loop-eviction g l = length (g.E.Evictions.list l.rest)
