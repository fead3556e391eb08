use Rattle.std.proofs.Common.{◌≡◌, drop, map}
use Rattle.ns_types.specs.Working.Commit.{evict_all}
use Rattle.ns_change.specs.Changed.{view}
use Rattle.ns_plan_result.proofs.evicting.evict.Given as goal

abbrev pub invariant-loop-victim : goal.invariant-loop-victim
invariant-loop-victim l = evict_all (view l.tables l.change) (map (λ e. e.now) (drop l.victim-index l.victims))
    ≡ evict_all (view l.tables l.initial.change) (map (λ e. e.now) l.victims)
