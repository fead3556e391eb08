use Rattle.std.proofs.Common.{◌≡◌, length}
use Rattle.std.specs.List.{list_any}
use Rattle.ns_types.specs.declared.plan.Eviction.{Eviction}
use Rattle.ns_renewal.specs.Losing.{numbers_pass_at, victims_at}
use Rattle.ns_renewal.proofs.numbers.numbers_pass.Given as goal
use Rattle.ns_tables.specs.World.{world_of}

abbrev pub invariant-loop-eviction : goal.invariant-loop-eviction
invariant-loop-eviction g l =
    let w = world_of l.tables in
    let passes = λ (e : Eviction). numbers_pass_at w (victims_at w (g.E.Evictions.list l.fn.evictions)) e.namespace in
    list_any passes (g.E.Evictions.list l.rest) ≡ list_any passes (g.E.Evictions.list l.fn.evictions)

abbrev pub decreases-loop-eviction : goal.decreases-loop-eviction
decreases-loop-eviction g l = length (g.E.Evictions.list l.rest)
