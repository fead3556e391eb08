use Rattle.std.specs.BTreeSet.{btree_set_len}
use Rattle.ns_preempt.specs.Ranking.{AreRanked}
use Rattle.ns_preempt.proofs.ranking.take_first.Given as goal

abbrev pub invariant-loop-rank : goal.invariant-loop-rank
invariant-loop-rank l = AreRanked l.size l.candidates l.ranks

abbrev pub decreases-loop-rank : goal.decreases-loop-rank
decreases-loop-rank l = btree_set_len l.ranks
