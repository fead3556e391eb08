-- The first rank that is a node's as it is now is that of the node whose victims are cheapest.
use Rattle.std.proofs.Common.{◌≡◌, ◌≢◌, ◌<◌, ◌+◌, ℕ, zero, suc, true, false, List, [], ◌∷◌, length, get_or, Option, Some, None, is_some}
use Rattle.std.specs.Prelude.{⊤, cond}
use Rattle.std.proofs.Common.{refl, ap, sym, ◌∙◌, subst, arith, inl, inr}
use Rattle.std.specs.BTreeSet.{BTreeSet, IsLowerBound, Updates}
use Rattle.std.specs.BTreeMap.{is_at}
use Rattle.std.specs.Cmp.{IsTotalOrder, nat_cmp_is}
use Rattle.std.specs.Option.{MatchOption, option_map, option_map_or, unwrap_or}
use Rattle.std.specs.Ordering.{is_eq, is_gt, is_lt, nat_cmp, ordering_reverse, ordering_then}
use Rattle.std.specs.declared.cmp.Ordering.{Ordering}
use Rattle.std.specs.declared.cmp.Ordering.TheVariants.{Less, Equal, Greater}
use Rattle.std.proofs.lemmas.Bool.{true≢false, false≢true, cases_Bool, cases_eq, cases_lt}
use Rattle.std.proofs.lemmas.Cmp.{nat_cmp_total, on_total, then_total, tied_itself}
use Rattle.std.proofs.lemmas.List.{get_or_default}
use Rattle.std.proofs.lemmas.List.Elements.{at_read}
use Rattle.std.proofs.lemmas.Option.{none-some}
use Rattle.ns_types.specs.declared.resources.Resources.{Resources}
use Rattle.ns_types.specs.declared.snapshot.LiveAllocation.{LiveAllocation}
use Rattle.ns_types.specs.Placing.Placement.{Candidate}
use Rattle.ns_types.specs.Placing.Planning.{update}
use Rattle.ns_types.specs.Placing.Preemption.{best_victims, cheaper, compare_victims, highest_priority, victims}
use Rattle.ns_types.specs.State.Names.{name_cmp}
use Rattle.ns_types.proofs.Choosing.{cheaper_order}
use Rattle.ns_types.proofs.Named.{names, one_name, one_number}
use Rattle.ns_types.proofs.Tables.{equal_by}
use Rattle.ns_place.proofs.Best.{best_all, irreflexive}
use Rattle.ns_preempt.specs.declared.cost.Cost.{Cost}
use Rattle.ns_preempt.specs.declared.ranking.Rank.{Rank}
use Rattle.ns_preempt.specs.declared.ranking.Ranking.{Ranking}
use Rattle.ns_preempt.specs.Cost.{cost_of}
use Rattle.ns_preempt.specs.Laws.{ChangedAloneStayRanked}
use Rattle.ns_preempt.specs.Ranking.{Adds, AreRanked, AreRankedBut, IsRank, IsRankOf, IsRanking, IsRankingBut, compare_ranks, has}

-- ---- what the victims on a node cost

abbrev costs : Option (List LiveAllocation) → Option Cost
costs lost = option_map (λ v. record { highest_priority = highest_priority v; victims = length v }) lost

highest_is : (lost : Option (List LiveAllocation)) (cost : Cost) → costs lost ≡ Some cost → highest_priority (unwrap_or lost []) ≡ cost.highest_priority
highest_is None cost e = absurd (none-some cost e)
highest_is (Some v) cost e = ap (λ (o : Option Cost). option_map_or (λ (c : Cost). c.highest_priority) o 0) e

number_is : (lost : Option (List LiveAllocation)) (cost : Cost) → costs lost ≡ Some cost → length (unwrap_or lost []) ≡ cost.victims
number_is None cost e = absurd (none-some cost e)
number_is (Some v) cost e = ap (λ (o : Option Cost). option_map_or (λ (c : Cost). c.victims) o 0) e

some_lost : (lost : Option (List LiveAllocation)) (cost : Cost) → costs lost ≡ Some cost → is_some lost ≡ true
some_lost None cost e = absurd (none-some cost e)
some_lost (Some v) cost e = refl

cost_there : (lost : Option (List LiveAllocation)) → is_some lost ≡ true → (cost : Cost) × (costs lost ≡ Some cost)
cost_there None e = absurd (false≢true e)
cost_there (Some v) e = (record { highest_priority = highest_priority v; victims = length v }, refl)

-- ---- the order of ranks, and that of the nodes

-- a test of two pairs, and the test of the first three
no_later : (a b c d : Ordering) → is_gt (ordering_then (ordering_then a b) (ordering_then c d)) ≡ false
    → (is_gt (ordering_then a (ordering_then b c)) ≡ false) × (d ≡ Greater → is_lt (ordering_then a (ordering_then b c)) ≡ true)
no_later Less b c d e = (refl, λ _. refl)
no_later Greater b c d e = absurd (true≢false e)
no_later Equal Less c d e = (refl, λ _. refl)
no_later Equal Greater c d e = absurd (true≢false e)
no_later Equal Equal Less d e = (refl, λ _. refl)
no_later Equal Equal Greater d e = absurd (true≢false e)
no_later Equal Equal Equal Less e = (refl, λ g. absurd (false≢true (ap is_gt g)))
no_later Equal Equal Equal Equal e = (refl, λ g. absurd (false≢true (ap is_gt g)))
no_later Equal Equal Equal Greater e = absurd (true≢false e)

reversed : (o : Ordering) → is_lt (ordering_reverse o) ≡ is_gt o
reversed Less = refl
reversed Equal = refl
reversed Greater = refl

both_equal : (a b : Ordering) → ordering_then a b ≡ Equal → (a ≡ Equal) × (b ≡ Equal)
both_equal Less b e = absurd (true≢false (ap is_lt e))
both_equal Equal b e = (refl, e)
both_equal Greater b e = absurd (true≢false (ap is_gt e))

victims_total : (size : Resources) → IsTotalOrder (compare_victims size)
victims_total size =
    then_total (on_total (λ (c : Candidate). highest_priority (unwrap_or (victims size c) [])) nat_cmp_total)
    (then_total (on_total (λ (c : Candidate). length (unwrap_or (victims size c) [])) nat_cmp_total) (on_total (λ (c : Candidate). c.name) names))

module _ (size : Resources) (k q : Rank) (c e : Candidate) (is_c : IsRank size k c) (is_e : IsRank size q e) where
  compared : ordering_then (nat_cmp k.cost.highest_priority q.cost.highest_priority)
      (ordering_then (nat_cmp k.cost.victims q.cost.victims) (name_cmp k.name.now q.name.now)) ≡ compare_victims size c e
  compared = sym (λ i. ordering_then (nat_cmp (highest_is (victims size c) k.cost is_c.cost i) (highest_is (victims size e) q.cost is_e.cost i))
      (ordering_then (nat_cmp (number_is (victims size c) k.cost is_c.cost i) (number_is (victims size e) q.cost is_e.cost i))
      (name_cmp (sym is_c.name i) (sym is_e.name i))))

  -- a rank that is not after another one
  not_after : is_gt (compare_ranks k q) ≡ false → (cheaper size e c ≡ false) × (q.node < k.node → cheaper size c e ≡ true)
  not_after h =
      let p = no_later (nat_cmp k.cost.highest_priority q.cost.highest_priority) (nat_cmp k.cost.victims q.cost.victims)
      (name_cmp k.name.now q.name.now) (nat_cmp k.node q.node) h in (
        ap is_lt ((victims_total size).antisymm e c ∙ ap ordering_reverse (sym compared)) ∙ (reversed _ ∙ p.0),
        λ lt. ap is_lt (sym compared) ∙ p.1 (sym (nat_cmp_is k.node q.node Greater lt)),
      )

-- ranks that tie are of one node, and say the same
module _ (k q : Rank) (tie : is_at (compare_ranks k) q ≡ true) where
  parts : (compare_ranks k q ≡ Equal)
  parts = equal_by (compare_ranks k q) tie

  one_node : k.node ≡ q.node
  one_node = one_number k.node q.node (both_equal _ _ (both_equal _ _ parts).1).1

  one_cost : k.cost ≡ q.cost
  one_cost =
      let costs_tie = both_equal (nat_cmp k.cost.highest_priority q.cost.highest_priority) (nat_cmp k.cost.victims q.cost.victims)
      (both_equal _ _ parts).0 in
      λ i. record {
        highest_priority = one_number k.cost.highest_priority q.cost.highest_priority costs_tie.0 i;
        victims = one_number k.cost.victims q.cost.victims costs_tie.1 i;
      }

  said : (size : Resources) (c : Candidate) → IsRank size q c → IsRank size k c
  said size c h = record {
    cost = h.cost ∙ ap Some (sym one_cost);
    name = one_name k.name.now q.name.now (both_equal _ _ (both_equal _ _ parts).1).0 ∙ h.name;
  }

  alike : (size : Resources) (cs : List Candidate) → IsRankOf size cs q → IsRankOf size cs k
  alike size cs h = record {
    inside = subst (λ (n : ℕ). n < length cs) (sym one_node) h.inside;
    is = λ d. said size (get_or cs k.node d) (subst (λ (n : ℕ). IsRank size q (get_or cs n d)) (sym one_node) (h.is d));
  }

-- ---- taking the first

module _ (size : Resources) (cs : List Candidate) (s n : BTreeSet Rank) (h : AreRanked size cs s) where
  -- a rank that is no node's any more goes: the others are ranked
  pub passed_over : (k : Rank) → Updates compare_ranks s n k false → (IsRankOf size cs k → ⊥) → AreRanked size cs n
  passed_over k gone stale q is = elim (cases_Bool (is_at (compare_ranks k) q)) [
    | inl tie ↦ absurd (stale (alike k q tie size cs is))
    | inr apart ↦ gone.2 q apart ∙ h q is
  ]

  -- and where a node's goes, all but that
  pub taken_out : (k : Rank) → Updates compare_ranks s n k false → AreRankedBut k.node size cs n
  taken_out k gone q other is = elim (cases_Bool (is_at (compare_ranks k) q)) [
    | inl tie ↦ absurd (other (sym (one_node k q tie)))
    | inr apart ↦ gone.2 q apart ∙ h q is
  ]

module _ (size : Resources) (cs : List Candidate) (s : BTreeSet Rank) (h : AreRanked size cs s) where
  -- the rank of the node at j, which has victims
  rank_at : (j : ℕ) → j < length cs → (d : Candidate) → is_some (victims size (get_or cs j d)) ≡ true
      → (rank : Rank) × (rank.node ≡ j) × IsRankOf size cs rank × (has s rank ≡ true)
  rank_at j lt d some =
      let found = cost_there (victims size (get_or cs j d)) some in
      let rank : Rank = record { cost = found.0; name = record { ref_ptr = (0, 0); now = (get_or cs j d).name }; node = j } in
      let is : IsRankOf size cs rank = record {
        inside = lt;
        is = λ e. subst (λ (c : Candidate). IsRank size rank c) (get_or_default cs j d e lt) (record { cost = found.1; name = refl });
      } in
      (rank, refl, is, h rank is)

  pub none_ranked : s.keys ≡ [] → None ≡ best_victims size cs
  none_ranked empty =
      best_all (λ c. is_some (victims size c)) (cheaper size) (cheaper_order size) cs None (λ j lt d.
      elim (cases_Bool (is_some (victims size (get_or cs j d)))) [
        | inl some ↦ let r = rank_at j lt d some in absurd (false≢true (sym (ap (λ (ks : List Rank). has (record { keys = ks }) r.0) empty) ∙ r.3))
        | inr none ↦ none
      ])

  pub first_is_best : (k : Rank) → IsLowerBound compare_ranks s k → IsRankOf size cs k → Some k.node ≡ best_victims size cs
  first_is_best k least is =
      best_all (λ c. is_some (victims size c)) (cheaper size) (cheaper_order size) cs (Some k.node) (record {
        below = is.inside;
        passing = λ d. some_lost (victims size (get_or cs k.node d)) k.cost (is.is d).cost;
        unbeaten = λ j lt d some.
            let r = rank_at j lt d some in
            (not_after size k r.0 (get_or cs k.node d) (get_or cs j d) (is.is d)
            (subst (λ (n : ℕ). IsRank size r.0 (get_or cs n d)) r.1 (r.2.is d)) (least r.0 r.3)).0;
        first = λ j lt d some.
            let inside : j < length cs = let e = is.inside in omega (arith, lt, e) in
            let r = rank_at j inside d some in
            (not_after size k r.0 (get_or cs k.node d) (get_or cs j d) (is.is d)
            (subst (λ (n : ℕ). IsRank size r.0 (get_or cs n d)) r.1 (r.2.is d)) (least r.0 r.3)).1
            (subst (λ (n : ℕ). n < k.node) (sym r.1) lt);
      })

-- ---- one node more, or anew

ranks_total : IsTotalOrder compare_ranks
ranks_total =
    then_total (on_total (λ (r : Rank). r.cost) (then_total (on_total (λ (c : Cost). c.highest_priority) nat_cmp_total)
    (on_total (λ (c : Cost). c.victims) nat_cmp_total)))
    (then_total (on_total (λ (r : Rank). r.name.now) names) (on_total (λ (r : Rank). r.node) nat_cmp_total))

ties : (r q : Rank) → r.cost ≡ q.cost → r.name.now ≡ q.name.now → r.node ≡ q.node → is_at (compare_ranks r) q ≡ true
ties r q one_cost one_name' one_node' =
    ap is_eq (sym (λ i. ordering_then
    (ordering_then (nat_cmp r.cost.highest_priority (one_cost i).highest_priority) (nat_cmp r.cost.victims (one_cost i).victims))
    (ordering_then (name_cmp r.name.now (one_name' i)) (nat_cmp r.node (one_node' i)))) ∙ tied_itself ranks_total r)

module _ (size : Resources) (k : ℕ) (c : Candidate) (s : BTreeSet Rank) where
  -- without victims there is nothing to rank
  pub nothing_added : cost_of size c ≡ None → Adds size k c s s
  nothing_added none = record { kept = λ q there. there; added = λ q at is. absurd (none-some q.cost (sym none ∙ is.cost)) }

  pub rank_added : (n : BTreeSet Rank) (r : Rank) → r.node ≡ k → IsRank size r c → Updates compare_ranks s n r true → Adds size k c s n
  rank_added n r at_k is_r more = record {
    kept = λ q there. elim (cases_Bool (is_at (compare_ranks r) q)) [
      | inl tie ↦ more.0 q ∙ ap (λ b. cond b true (has s q)) tie
      | inr apart ↦ more.2 q apart ∙ there
    ];
    added = λ q at is.
        let tie = ties r q (ap (λ (o : Option Cost). unwrap_or o r.cost) (sym is_r.cost ∙ is.cost)) (is_r.name ∙ sym is.name) (at_k ∙ sym at) in
        more.0 q ∙ ap (λ b. cond b true (has s q)) tie;
  }

module _ (size : Resources) (cs : List Candidate) (k : ℕ) (x : Candidate) (s n : BTreeSet Rank) (inside : k < length cs)
    (reads : x ≡ get_or cs k x) (more : Adds size k x s n) where
  added_at : (q : Rank) → q.node ≡ k → IsRankOf size cs q → has n q ≡ true
  added_at q at is =
      more.added q at (subst (λ (c : Candidate). IsRank size q c) (sym reads) (subst (λ (j : ℕ). IsRank size q (get_or cs j x)) at (is.is x)))

  -- the first k are ranked, and then the next
  pub one_more : ((q : Rank) → q.node < k → IsRankOf size cs q → has s q ≡ true)
      → (q : Rank) → q.node < k + 1 → IsRankOf size cs q → has n q ≡ true
  one_more h q lt is = elim (cases_lt q.node k) [
    | inl before ↦ more.kept q (h q before is)
    | inr here ↦ added_at q (omega arith) is
  ]

  -- all are ranked again
  pub ranked_again : AreRankedBut k size cs s → AreRanked size cs n
  ranked_again h q is = elim (cases_eq q.node k) [
    | inl at ↦ added_at q at is
    | inr other ↦ more.kept q (h q other is)
  ]

-- for the size that a ranking is for
pub added_again : (o : Option Resources) (size : Resources) (cs : List Candidate) (k : ℕ) (x : Candidate) (s n : BTreeSet Rank) → o ≡ Some size
    → k < length cs → x ≡ get_or cs k x → MatchOption o ⊤ (λ own. AreRankedBut k own cs s) → Adds size k x s n
    → MatchOption o ⊤ (λ own. AreRanked own cs n)
added_again o size cs k x s n is inside reads others more =
    subst (λ (p : Option Resources). MatchOption p ⊤ (λ own. AreRanked own cs n)) (sym is)
    (ranked_again size cs k x s n inside reads more (subst (λ (p : Option Resources). MatchOption p ⊤ (λ own. AreRankedBut k own cs s)) is others))

-- ---- a rank that is looked at again

module _ (size : Resources) (cs : List Candidate) (x : Candidate) (rank now : Rank) (reads : x ≡ get_or cs rank.node x) (at : now.node ≡ rank.node)
    (is_now : IsRank size now x) where
  pub is_still : rank.node < length cs → is_eq (compare_ranks rank now) ≡ true → IsRankOf size cs rank
  is_still inside tie = record { inside = inside; is = at_read cs (IsRank size rank) rank.node x inside reads (said rank now tie size x is_now) }

  pub was_so : IsRankOf size cs rank → is_eq (compare_ranks rank now) ≡ true
  was_so is =
      let was : IsRank size rank x = subst (λ (c : Candidate). IsRank size rank c) (sym reads) (is.is x) in
      ties rank now (ap (λ (o : Option Cost). unwrap_or o rank.cost) (sym was.cost ∙ is_now.cost)) (was.name ∙ sym is_now.name) (sym at)

-- it is none where the node has no victims
pub was_none : (size : Resources) (cs : List Candidate) (x : Candidate) (rank : Rank) → x ≡ get_or cs rank.node x → cost_of size x ≡ None
    → IsRankOf size cs rank → ⊥
was_none size cs x rank reads none is =
    none-some rank.cost (sym none ∙ (ap (λ (c : Candidate). cost_of size c) reads ∙ (is.is x).cost))

-- ---- one node changes

length_update : {X : Type 0} (i : ℕ) (f : X → X) (xs : List X) → length (update i f xs) ≡ length xs
length_update i f [] = refl
length_update zero f (x ∷ xs) = refl
length_update (suc i) f (x ∷ xs) = ap suc (length_update i f xs)

elsewhere : {X : Type 0} (i j : ℕ) (f : X → X) (xs : List X) (d : X) → j ≢ i → get_or (update i f xs) j d ≡ get_or xs j d
elsewhere i j f [] d ne = refl
elsewhere zero zero f (x ∷ xs) d ne = absurd (ne refl)
elsewhere zero (suc j) f (x ∷ xs) d ne = refl
elsewhere (suc i) zero f (x ∷ xs) d ne = refl
elsewhere (suc i) (suc j) f (x ∷ xs) d ne = elsewhere i j f xs d (λ e. ne (ap suc e))

module _ (cs : List Candidate) (k : ℕ) (change : Candidate → Candidate) (s : BTreeSet Rank) where
  stay_ranked : (o : Option Resources) → MatchOption o ⊤ (λ size. AreRankedBut k size cs s)
      → MatchOption o ⊤ (λ size. AreRankedBut k size (update k change cs) s)
  stay_ranked None h = tt
  stay_ranked (Some size) h = λ q other is.
      h q other (record {
        inside = subst (λ (n : ℕ). q.node < n) (length_update k change cs) is.inside;
        is = λ d. subst (λ (c : Candidate). IsRank size q c) (elsewhere k q.node change cs d other) (is.is d);
      })

pub changed_alone_stay_ranked : ChangedAloneStayRanked
changed_alone_stay_ranked ranking cs k change h = stay_ranked cs k change ranking.ranks ranking.size h

-- all are ranked, so all but one are
pub all_but : (k : ℕ) (ranking : Ranking) (cs : List Candidate) → IsRanking ranking cs → IsRankingBut k ranking cs
all_but k ranking cs = each ranking.size
  where
    each : (o : Option Resources) → MatchOption o ⊤ (λ size. AreRanked size cs ranking.ranks) → MatchOption o ⊤ (λ size. AreRankedBut k size cs ranking.ranks)
    each None h = tt
    each (Some size) h = λ q other is. h q is
