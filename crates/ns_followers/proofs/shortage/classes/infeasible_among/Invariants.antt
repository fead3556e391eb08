use Rattle.std.proofs.Common.{◌≡◌, drop}
use Rattle.ns_followers.specs.Remembered.{infeasible_among}
use Rattle.ns_followers.proofs.shortage.classes.infeasible_among.Given as goal

abbrev pub invariant-loop-i : goal.invariant-loop-i
invariant-loop-i l = l.classes.items ≡ infeasible_among l.constraints (drop l.i l.nodes)
