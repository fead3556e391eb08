-- The order in which the nodes with room take allocations of one size: the best first.
use Rattle.std.specs.Prelude.{◌≡◌, ◌<◌, ◌≤◌, ℕ, true, false, List, ◌∷◌, length, map, slice_index, slice_index_or}
use Rattle.std.specs.List.{All, Contains}
use Rattle.std.specs.Ordering.{nat_cmp, on, then_cmp}
use Rattle.std.specs.declared.cmp.Ordering.{Ordering}
use Rattle.ns_place.specs.declared.order.Rank.{Rank}
use Rattle.ns_types.specs.declared.resources.Resources.{Resources}
use Rattle.ns_types.specs.Placing.Placement.{Candidate, fits, better}
use Rattle.ns_types.specs.State.Names.{name_cmp}
use Rattle.ns_types.specs.State.Resources.{by_each, minus, quantity}

-- the places that are left to try for a size
pub record Walk : Type 0 where
  pub size : Resources
  pub rest : List ℕ

abbrev pub walk : Resources → List ℕ → Walk
walk size rest = record { size = size; rest = rest }

-- the node at place a is better than the one at place b, or as good and has the lesser place
pub record Precedes (size : Resources) (cs : List Candidate) (a b : ℕ) : Type 0 where
  pub unbeaten : (d : Candidate) → better size (slice_index_or cs b d) (slice_index_or cs a d) ≡ false
  pub first : b ≤ a → (d : Candidate) → better size (slice_index_or cs a d) (slice_index_or cs b d) ≡ true

-- each node that has room is in the rest, and each node in the rest precedes the nodes after it
pub record IsOrder (w : Walk) (cs : List Candidate) : Type 0 where
  pub whole : (j : ℕ) → j < length cs → ((d : Candidate) → fits w.size (slice_index_or cs j d) ≡ true) →
      Contains w.rest j
  pub inside : All (λ j. j < length cs) w.rest
  pub rising : (a b : ℕ) → a < b → b < length w.rest →
      Precedes w.size cs (slice_index w.rest a) (slice_index w.rest b)

-- the rest begins with the node at place k, which has room
pub record IsNextNode (w : Walk) (cs : List Candidate) (k : ℕ) : Type 0 where
  pub others : List ℕ
  pub is : w.rest ≡ k ∷ others
  pub room : (d : Candidate) → fits w.size (slice_index_or cs k d) ≡ true

-- what would be left of the node, then its name, then its place
abbrev pub compare_ranks : Rank → Rank → Ordering
compare_ranks =
    then_cmp (by_each (λ q r. quantity q r.left))
    (then_cmp (on (λ r. r.name.now) name_cmp) (on (λ r. r.node) nat_cmp))

abbrev pub nodes : List Rank → List ℕ
nodes ranks = map (λ r. r.node) ranks

-- the rank is that of one of the first i nodes: what would be left of it, and its name
pub record IsRankOf (size : Resources) (cs : List Candidate) (i : ℕ) (rank : Rank) : Type 0 where
  pub below : rank.node < i
  pub left : (d : Candidate) → rank.left ≡ minus (slice_index_or cs rank.node d).left size
  pub name : (d : Candidate) → rank.name.now ≡ (slice_index_or cs rank.node d).name

-- the ranks of those of the first i nodes that have room, in the order of the nodes
pub record AreRanks (size : Resources) (cs : List Candidate) (i : ℕ) (ranks : List Rank) : Type 0 where
  pub whole : (j : ℕ) → j < i → ((d : Candidate) → fits size (slice_index_or cs j d) ≡ true) →
      Contains (nodes ranks) j
  pub each : All (IsRankOf size cs i) ranks
  pub rising : (a b : ℕ) → a < b → b < length (nodes ranks) →
      slice_index (nodes ranks) a < slice_index (nodes ranks) b
