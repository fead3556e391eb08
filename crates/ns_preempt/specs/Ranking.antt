-- The nodes with victims, ranked by what the victims cost.
use Rattle.std.specs.Prelude.{◌≡◌, ◌≢◌, ◌<◌, ⊤, ℕ, Bool, IsTrue, List, MatchOption, Some, length}
use Rattle.std.specs.BTreeSet.{BTreeSet, contains}
use Rattle.std.specs.List.{HoldsAt}
use Rattle.std.specs.Ordering.{nat_cmp, on, then_cmp}
use Rattle.std.specs.declared.cmp.Ordering.{Ordering}
use Rattle.ns_types.specs.declared.resources.Resources.{Resources}
use Rattle.ns_types.specs.Placing.Placement.{Candidate}
use Rattle.ns_types.specs.State.Names.{name_cmp}
use Rattle.ns_preempt.specs.declared.cost.Cost.{Cost}
use Rattle.ns_preempt.specs.declared.ranking.Rank.{Rank}
use Rattle.ns_preempt.specs.declared.ranking.Ranking.{Ranking}
use Rattle.ns_preempt.specs.Cost.{cost_of}

-- the highest priority among the victims, then their number
abbrev pub compare_costs : Cost → Cost → Ordering
compare_costs = then_cmp (on (λ c. c.highest_priority) nat_cmp) (on (λ c. c.victims) nat_cmp)

-- what the victims cost, then the node's name, then its place
abbrev pub compare_ranks : Rank → Rank → Ordering
compare_ranks =
    then_cmp (on (λ r. r.cost) compare_costs)
    (then_cmp (on (λ r. r.name.now) name_cmp) (on (λ r. r.node) nat_cmp))

abbrev pub has : BTreeSet Rank → Rank → Bool
has ranks rank = contains compare_ranks ranks rank

-- the rank has what the victims on the node cost, and the node's name
pub record IsRank (size : Resources) (rank : Rank) (c : Candidate) : Type 0 where
  pub cost : cost_of size c ≡ Some rank.cost
  pub name : rank.name.now ≡ c.name

-- the rank is right for the node at its place, as that node is now
pub record IsRankOf (size : Resources) (cs : List Candidate) (rank : Rank) : Type 0 where
  pub inside : rank.node < length cs
  pub is : HoldsAt (IsRank size rank) cs rank.node

-- what was ranked is still ranked, and the node at place k is ranked too
pub record Adds (size : Resources) (k : ℕ) (c : Candidate) (old new : BTreeSet Rank) : Type 0 where
  pub kept : (rank : Rank) → IsTrue (has old rank) → IsTrue (has new rank)
  pub added : (rank : Rank) → rank.node ≡ k → IsRank size rank c → IsTrue (has new rank)

-- each node with victims is ranked as it is now
abbrev pub AreRanked : Resources → List Candidate → BTreeSet Rank → Type 0
AreRanked size cs ranks = (rank : Rank) → IsRankOf size cs rank → IsTrue (has ranks rank)

-- each node with victims, except the one at place k, is ranked as it is now
abbrev pub AreRankedBut : ℕ → Resources → List Candidate → BTreeSet Rank → Type 0
AreRankedBut k size cs ranks = (rank : Rank) → rank.node ≢ k → IsRankOf size cs rank → IsTrue (has ranks rank)

-- for its size, the ranking ranks each node with victims as it is now
abbrev pub IsRanking : Ranking → List Candidate → Type 0
IsRanking ranking cs = MatchOption ranking.size ⊤ (λ size. AreRanked size cs ranking.ranks)

-- for its size, the ranking ranks each node with victims, except the one at place k, as it is now
abbrev pub IsRankingBut : ℕ → Ranking → List Candidate → Type 0
IsRankingBut k ranking cs = MatchOption ranking.size ⊤ (λ size. AreRankedBut k size cs ranking.ranks)
