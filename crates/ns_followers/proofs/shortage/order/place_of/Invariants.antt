use Rattle.ns_types.specs.State.Names.{class_cmp}
use Rattle.ns_followers.proofs.Placed.{Passed}
use Rattle.ns_followers.proofs.shortage.order.place_of.Given as goal

abbrev pub invariant-loop-i : goal.invariant-loop-i
invariant-loop-i l = Passed class_cmp l.class l.classes l.i
