use Rattle.ns_types.specs.Placing.Placement.{fits, better}
use Rattle.ns_place.proofs.Best.{BestSoFar}
use Rattle.ns_place.proofs.choice.best_node.Given as goal

abbrev pub invariant-loop-i : goal.invariant-loop-i
invariant-loop-i l = BestSoFar (fits l.size) (better l.size) l.candidates l.i l.best
