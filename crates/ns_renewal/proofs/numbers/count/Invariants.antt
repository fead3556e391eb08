use Rattle.std.proofs.Common.{◌≡◌, ◌≤◌, ◌+◌, length, min}
use Rattle.ns_types.specs.Steps.{greatest}
use Rattle.ns_renewal.proofs.numbers.count.Given as goal

abbrev pub invariant-loop-others : goal.invariant-loop-others
invariant-loop-others g l = record {
  so_far : min (l.count + length (g.E.Evictions.list l.rest)) greatest ≡ min (length (g.E.Evictions.list l.fn.evictions)) greatest;
  fits : l.count ≤ greatest;
}

abbrev pub decreases-loop-others : goal.decreases-loop-others
decreases-loop-others g l = length (g.E.Evictions.list l.rest)
