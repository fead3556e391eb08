use Rattle.std.proofs.Common.{option_copied, take}
use Rattle.ns_types.specs.Working.Commit.{part_of}
use Rattle.ns_plan.specs.After.{after_stops}
use Rattle.ns_plan.specs.Reader.{Leaves, evictions_of}
use Rattle.ns_plan.proofs.leaving.without_victims.Given as goal

abbrev pub invariant-loop-i : goal.invariant-loop-i
invariant-loop-i g l = Leaves (after_stops (g.V.View.world l.view) l.snapshot.namespace l.stops) l.snapshot.pool l.name (option_copied l.quota)
    (evictions_of (part_of l.placement.node l.before)) l.initial.left (take l.i l.evictions) l.left
