use Rattle.std.proofs.Common.{◌≡◌, ◌++◌, drop, map}
use Rattle.std.specs.List.{filter}
use Rattle.ns_types.specs.Working.Commit.{counts}
use Rattle.ns_change.specs.Changed.{view}
use Rattle.ns_plan_result.proofs.evicting.add_counting.Given as goal

abbrev pub invariant-loop-eviction : goal.invariant-loop-eviction
invariant-loop-eviction l = map (λ e. e.now) l.victims.items ++ filter (counts (view l.tables l.change) l.pool l.node) (drop l.eviction-index l.evictions)
    ≡ map (λ e. e.now) l.initial.victims.items ++ filter (counts (view l.tables l.change) l.pool l.node) l.evictions
