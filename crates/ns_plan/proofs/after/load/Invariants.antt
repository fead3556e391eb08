use Rattle.std.proofs.Common.{◌≡◌, take}
use Rattle.ns_types.proofs.Once.{once}
use Rattle.ns_plan.specs.After.{stop_keys}
use Rattle.ns_plan.specs.Reader.{load_left}
use Rattle.ns_plan.proofs.after.load.Given as goal

abbrev pub invariant-loop-i : goal.invariant-loop-i
invariant-loop-i g l = l.left ≡ load_left (g.V.View.world l.view) l.pool l.node (once (stop_keys l.namespace (take l.i l.stops)))
