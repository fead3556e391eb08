use Rattle.std.proofs.Common.{◌≡◌, List, option_copied, take}
use Rattle.ns_types.specs.State.Names.{Key}
use Rattle.ns_types.specs.Working.Commit.{part_of}
use Rattle.ns_types.proofs.Once.{once}
use Rattle.ns_plan.specs.After.{after_stops}
use Rattle.ns_plan.specs.Reader.{AreElsewhere, evictions_of, left_by, quota_left}
use Rattle.ns_plan.proofs.leaving.left_at.Given as goal

abbrev pub invariant-loop-i : goal.invariant-loop-i
invariant-loop-i g l = (keys : List Key) → AreElsewhere (after_stops (g.V.View.world l.view) l.snapshot.namespace l.stops) l.snapshot.pool l.name keys →
    l.fn.whole.used ≡ quota_left (after_stops (g.V.View.world l.view) l.snapshot.namespace l.stops) (option_copied l.quota) (once keys) →
    l.left ≡ left_by (after_stops (g.V.View.world l.view) l.snapshot.namespace l.stops) l.snapshot.pool l.name (option_copied l.quota) keys
    (evictions_of (part_of l.node (take l.i l.placements)))
