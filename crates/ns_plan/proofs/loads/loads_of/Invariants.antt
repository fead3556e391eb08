use Rattle.std.proofs.Common.{take}
use Rattle.ns_plan.specs.After.{stop_keys}
use Rattle.ns_plan.specs.Loads.{AreLeft}
use Rattle.ns_plan.proofs.loads.loads_of.Given as goal

abbrev pub invariant-loop-place : goal.invariant-loop-place
invariant-loop-place g l = AreLeft (g.V.View.world l.view) l.snapshot (stop_keys l.snapshot.namespace (take l.place l.stops)) l.loads
