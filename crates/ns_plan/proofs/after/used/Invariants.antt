use Rattle.std.proofs.Common.{◌≡◌, take}
use Rattle.ns_types.proofs.Once.{once}
use Rattle.ns_plan.specs.After.{names, stop_keys}
use Rattle.ns_plan.specs.Reader.{use_left}
use Rattle.ns_plan.proofs.after.used.Given as goal

abbrev pub invariant-loop-i : goal.invariant-loop-i
invariant-loop-i g l = (l.left ≡ use_left (g.V.View.world l.view) l.quota (once (stop_keys l.namespace (take l.i l.stops))))
    × (l.named ≡ names (g.V.View.world l.view) l.quota l.namespace)
