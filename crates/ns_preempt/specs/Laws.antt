-- Laws of the ranking of the nodes with victims.
use Rattle.std.specs.Prelude.{ℕ, List}
use Rattle.ns_types.specs.Placing.Placement.{Candidate}
use Rattle.ns_types.specs.Placing.Planning.{update}
use Rattle.ns_preempt.specs.declared.ranking.Ranking.{Ranking}
use Rattle.ns_preempt.specs.Ranking.{IsRankingBut}

-- if one node changes, the others stay ranked
abbrev pub ChangedAloneStayRanked : Type 0
ChangedAloneStayRanked = (ranking : Ranking) (cs : List Candidate) (k : ℕ) (change : Candidate → Candidate) →
    IsRankingBut k ranking cs → IsRankingBut k ranking (update k change cs)
