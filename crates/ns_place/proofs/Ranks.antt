-- The ranks of the nodes with room, and that they are the order once they are sorted.
use Rattle.std.proofs.Common.{◌≡◌, ◌≢◌, ◌<◌, ◌+◌, ℕ, true, false, Bool, List, [], ◌∷◌, ◌++◌, length, get_or, eqb, cond}
use Rattle.std.proofs.Common.{ap, sym, ◌∙◌, subst, arith, refl, inl, inr}
use Rattle.std.specs.Cmp.{IsStrictWeakOrder, IsTotalOrder}
use Rattle.std.specs.List.{All, Contains, IsDistinct}
use Rattle.std.specs.List.Sorted.{IsPermutation, IsSortedBy}
use Rattle.std.specs.Ordering.{is_lt, nat_cmp, ordering_then, ordering_reverse}
use Rattle.std.specs.declared.cmp.Ordering.{Ordering}
use Rattle.std.specs.declared.cmp.Ordering.TheVariants.{Less, Equal, Greater}
use Rattle.std.proofs.lemmas.Bool.{false≢true, true≢false, cases_lt, cond-true, lt-ltb, eqb-false, ne_eqb}
use Rattle.std.proofs.lemmas.Cmp.{nat_cmp_total, nat_eq_equiv, then_total, on_total}
use Rattle.std.proofs.lemmas.List.{get_or_default, get_or_append_left, get_or-map, length-map, length-append, map-append}
use Rattle.std.proofs.lemmas.List.Elements.{All-push, All-weaker, All-map, Contains-append_left, Contains-push}
use Rattle.std.proofs.lemmas.List.MinMax.{ranks_by}
use Rattle.std.proofs.lemmas.List.Sorted.{sorted_far, IsPermutation-map, Contains-permutation, All-permutation}
use Rattle.std.proofs.lemmas.Map.Keys.{IsDistinct-IsPermutation, IsDistinct-from_apart, apart_from_distinct}
use Rattle.std.proofs.Math.Seq.{get_or-append_seam}
use Rattle.ns_types.specs.declared.resources.Resources.{Resources}
use Rattle.ns_types.specs.Placing.Placement.{Candidate, fits, better, compare_left}
use Rattle.ns_types.specs.State.Names.{name_cmp}
use Rattle.ns_types.specs.State.Resources.{by_each, minus, quantity}
use Rattle.ns_types.proofs.Amounts.{by_each_total}
use Rattle.ns_types.proofs.Choosing.{left_total}
use Rattle.ns_types.proofs.Named.{names}
use Rattle.ns_place.specs.declared.order.Rank.{Rank}
use Rattle.ns_place.specs.Order.{walk, Precedes, IsOrder, compare_ranks, nodes, IsRankOf, AreRanks}

ranks_total : IsTotalOrder compare_ranks
ranks_total =
    then_total (by_each_total (λ q (r : Rank). quantity q r.left))
    (then_total (on_total (λ (r : Rank). r.name.now) names) (on_total (λ (r : Rank). r.node) nat_cmp_total))

abbrev pub ranks_before : Rank → Rank → Bool
ranks_before x y = is_lt (compare_ranks x y)

pub ranks_order : IsStrictWeakOrder ranks_before
ranks_order = ranks_by ranks_total (λ (r : Rank). r)

abbrev Rises : List ℕ → Type 0
Rises ns = (a b : ℕ) → a < b → b < length ns → get_or ns a 0 < get_or ns b 0

-- numbers that rise, and one above them all
rising_push : (ns : List ℕ) (n : ℕ) → Rises ns → All (λ m. m < n) ns → Rises (ns ++ n ∷ [])
rising_push ns n h below a b lt inside =
    let long : length (ns ++ n ∷ []) ≡ length ns + 1 = length-append ns (n ∷ []) in
    elim (cases_lt b (length ns)) [
      | inl in' ↦
          let left : get_or (ns ++ n ∷ []) a 0 ≡ get_or ns a 0 = get_or_append_left ns (n ∷ []) 0 a (omega arith) in
          let right : get_or (ns ++ n ∷ []) b 0 ≡ get_or ns b 0 = get_or_append_left ns (n ∷ []) 0 b in' in
          let s : get_or ns a 0 < get_or ns b 0 = h a b lt in' in
          omega arith
      | inr out ↦
          let last : b ≡ length ns = omega arith in
          let left : get_or (ns ++ n ∷ []) a 0 ≡ get_or ns a 0 = get_or_append_left ns (n ∷ []) 0 a (omega arith) in
          let right : get_or (ns ++ n ∷ []) b 0 ≡ n = ap (λ (j : ℕ). get_or (ns ++ n ∷ []) j 0) last ∙ get_or-append_seam ns n [] 0 in
          let s : get_or ns a 0 < n = below a 0 (omega arith) in
          omega arith
    ]

module _ (size : Resources) (cs : List Candidate) where
  later : (i : ℕ) (r : Rank) → IsRankOf size cs i r → IsRankOf size cs (i + 1) r
  later i r h = record { below = let e = h.below in omega arith; left = h.left; name = h.name }

  nodes_below : (i : ℕ) (rs : List Rank) → AreRanks size cs i rs → All (λ n. n < i) (nodes rs)
  nodes_below i rs h =
      All-map (λ n. n < i) (λ (r : Rank). r.node) rs (All-weaker (IsRankOf size cs i) (λ r. r.node < i) (λ r k. k.below) rs h.each)

  module _ (i : ℕ) (x : Candidate) (rs : List Rank) (inside : i < length cs) (reads : x ≡ get_or cs i x) (h : AreRanks size cs i rs) where
    there : (d : Candidate) → get_or cs i d ≡ x
    there d = get_or_default cs i d x inside ∙ sym reads

    pub rank_skips : fits size x ≡ false → AreRanks size cs (i + 1) rs
    rank_skips fails = record {
      whole = λ j lt ok.
          elim (cases_lt j i) [
            | inl before ↦ h.whole j before ok
            | inr here ↦
                let e : j ≡ i = omega arith in
                absurd (false≢true (sym fails
                ∙ (ap (fits size) (sym (there x)) ∙ subst (λ (n : ℕ). fits size (get_or cs n x) ≡ true) e (ok x))))
          ];
      each = All-weaker (IsRankOf size cs i) (IsRankOf size cs (i + 1)) (later i) rs h.each;
      rising = h.rising;
    }

    pub rank_takes : (r : Rank) → r.node ≡ i → r.left ≡ minus x.left size → r.name.now ≡ x.name → AreRanks size cs (i + 1) (rs ++ r ∷ [])
    rank_takes r at_i left name =
        let split : nodes (rs ++ r ∷ []) ≡ nodes rs ++ r.node ∷ [] = map-append (λ (q : Rank). q.node) rs (r ∷ []) in
        record {
          whole = λ j lt ok.
              subst (λ (ns : List ℕ). Contains ns j) (sym split)
              (elim (cases_lt j i) [
                | inl before ↦ Contains-append_left (nodes rs) (r.node ∷ []) j (h.whole j before ok)
                | inr here ↦
                    let e : r.node ≡ j = omega arith in
                    subst (λ (n : ℕ). Contains (nodes rs ++ r.node ∷ []) n) e (Contains-push (nodes rs) r.node)
              ]);
          each =
              All-push (IsRankOf size cs (i + 1)) rs r (All-weaker (IsRankOf size cs i) (IsRankOf size cs (i + 1)) (later i) rs h.each)
              (record {
                below = omega arith;
                left = λ d. left ∙ ap (λ (c : Candidate). minus c.left size) (sym (ap (λ (n : ℕ). get_or cs n d) at_i ∙ there d));
                name = λ d. name ∙ ap (λ (c : Candidate). c.name) (sym (ap (λ (n : ℕ). get_or cs n d) at_i ∙ there d));
              });
          rising =
              subst Rises (sym split)
              (rising_push (nodes rs) r.node h.rising (subst (λ (n : ℕ). All (λ m. m < n) (nodes rs)) (sym at_i) (nodes_below i rs h)));
        }

-- a test of three parts, and the test of the first two
first_two : (a b k : Ordering) → is_lt (ordering_then a (ordering_then b k)) ≡ false
    → (is_lt (ordering_then a b) ≡ false) × (k ≡ Less → is_lt (ordering_reverse (ordering_then a b)) ≡ true)
first_two Less b k e = absurd (true≢false e)
first_two Greater b k e = (refl, λ _. refl)
first_two Equal Less k e = absurd (true≢false e)
first_two Equal Greater k e = (refl, λ _. refl)
first_two Equal Equal Less e = absurd (true≢false e)
first_two Equal Equal Greater e = (refl, λ l. absurd (false≢true (ap is_lt l)))
first_two Equal Equal Equal e = (refl, λ l. absurd (false≢true (sym e ∙ ap is_lt l)))

module _ (size : Resources) (x y : Rank) (c e : Candidate) (x_left : x.left ≡ minus c.left size) (x_name : x.name.now ≡ c.name)
    (y_left : y.left ≡ minus e.left size) (y_name : y.name.now ≡ e.name) where
  left_is : ordering_then (by_each quantity y.left x.left) (name_cmp y.name.now x.name.now) ≡ compare_left size e c
  left_is = rw (x_left, x_name, y_left, y_name) refl

  ranked : ranks_before y x ≡ false → (better size e c ≡ false) × (y.node < x.node → better size c e ≡ true)
  ranked h =
      let p = first_two (by_each quantity y.left x.left) (name_cmp y.name.now x.name.now) (nat_cmp y.node x.node) h in (
        ap is_lt (sym left_is) ∙ p.0,
        λ lt. ap is_lt ((left_total size).antisymm c e ∙ ap ordering_reverse (sym left_is))
            ∙ p.1 (cond-true _ Less (cond (eqb y.node x.node) Equal Greater) (lt-ltb y.node x.node lt)),
      )

apart : (ns : List ℕ) → Rises ns → IsDistinct eqb ns
apart ns h =
    IsDistinct-from_apart eqb ns (λ i j d lt inside.
    let s = h i j lt inside in
    let left : get_or ns i d ≡ get_or ns i 0 = get_or_default ns i d 0 (omega arith) in
    let right : get_or ns j d ≡ get_or ns j 0 = get_or_default ns j d 0 inside in
    ne_eqb _ _ (λ e. absurd (omega arith)))

pair : (size : Resources) (cs : List Candidate) (ys : List Rank) → All (IsRankOf size cs (length cs)) ys → IsDistinct eqb (nodes ys)
    → IsSortedBy ranks_before ys → (a b : ℕ) → a < b → b < length (nodes ys)
    → Precedes size cs (get_or (nodes ys) a 0) (get_or (nodes ys) b 0)
pair size cs [] each differ up a b lt inside = absurd (omega arith)
pair size cs (y ∷ ys) each differ up a b lt inside =
    let all = y ∷ ys in
    let long : length (nodes all) ≡ length all = length-map all (λ (r : Rank). r.node) in
    let r = get_or all a y in
    let s = get_or all b y in
    let a_in : a < length all = omega arith in
    let b_in : b < length all = omega arith in
    let at_a : get_or (nodes all) a 0 ≡ r.node = get_or-map (λ (q : Rank). q.node) all a y 0 a_in in
    let at_b : get_or (nodes all) b 0 ≡ s.node = get_or-map (λ (q : Rank). q.node) all b y 0 b_in in
    let ha = each a y a_in in
    let hb = each b y b_in in
    let ordered : ranks_before s r ≡ false = sorted_far ranks_before ranks_order all up a b y (omega arith) b_in in
    let both = λ (d : Candidate). ranked size r s (get_or cs r.node d) (get_or cs s.node d) (ha.left d) (ha.name d) (hb.left d) (hb.name d) ordered in
    let differs = eqb-false _ _ (apart_from_distinct eqb (nodes all) a b 0 differ lt inside) in
    let ne : r.node ≢ s.node = λ e. differs (at_a ∙ (e ∙ sym at_b)) in
    subst (λ (n : ℕ). Precedes size cs n (get_or (nodes all) b 0)) (sym at_a)
    (subst (λ (n : ℕ). Precedes size cs r.node n) (sym at_b)
    (record { unbeaten = λ d. (both d).0; first = λ le d. (both d).1 (omega arith) }))

-- in order once they are sorted
pub sorted_ranks : (size : Resources) (cs : List Candidate) (rs ys : List Rank) → AreRanks size cs (length cs) rs → IsPermutation rs ys
    → IsSortedBy ranks_before ys → IsOrder (walk size (nodes ys)) cs
sorted_ranks size cs rs ys h moved up =
    let moved_nodes = IsPermutation-map (λ (r : Rank). r.node) rs ys moved in
    let each = All-permutation (IsRankOf size cs (length cs)) rs ys moved h.each in
    let differ : IsDistinct eqb (nodes ys) =
    IsDistinct-IsPermutation eqb nat_eq_equiv.symm (nodes rs) (nodes ys) moved_nodes (apart (nodes rs) h.rising) in
    record {
      whole = λ j lt ok. Contains-permutation (nodes rs) (nodes ys) j moved_nodes (h.whole j lt ok);
      inside = All-permutation (λ n. n < length cs) (nodes rs) (nodes ys) moved_nodes (nodes_below size cs (length cs) rs h);
      rising = λ a b lt inside. pair size cs ys each differ up a b lt inside;
    }
