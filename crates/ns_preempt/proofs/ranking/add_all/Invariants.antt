-- the first i are ranked
use Rattle.std.proofs.Common.{◌<◌}
use Rattle.std.specs.Prelude.{IsTrue}
use Rattle.ns_preempt.specs.declared.ranking.Rank.{Rank}
use Rattle.ns_preempt.specs.Ranking.{IsRankOf, has}
use Rattle.ns_preempt.proofs.ranking.add_all.Given as goal

abbrev pub invariant-loop-i : goal.invariant-loop-i
invariant-loop-i l = (rank : Rank) → rank.node < l.i → IsRankOf l.size l.candidates rank → IsTrue (has l.ranks rank)
