-- Down the order: the first that has room is the best, and stays it when it takes a size.
use Rattle.std.proofs.Common.{◌≡◌, ◌≢◌, ◌<◌, ◌≤◌, ◌-◌, ◌+◌, ℕ, zero, suc, true, false, List, [], ◌∷◌, length, get_or, drop}
use Rattle.std.proofs.Common.{Option, Some, None, refl, ap, sym, ◌∙◌, subst, arith, inl, inr, ◌⊎◌}
use Rattle.std.proofs.Math.ListN.{set}
use Rattle.std.specs.List.{Contains}
use Rattle.std.specs.Option.{MatchOption}
use Rattle.std.specs.Ordering.{is_lt, nat_cmp, ordering_then}
use Rattle.std.specs.declared.cmp.Ordering.{Ordering}
use Rattle.std.proofs.lemmas.Bool.{false≢true, cases_Bool, cases_eq, cond-true, cond-false, le-ltb, eq-eqb, ne_eqb}
use Rattle.std.proofs.lemmas.Cmp.{tied_itself}
use Rattle.std.proofs.lemmas.List.{get_or_default, get_or-set_same, get_or-set_other, length-set, drop_more, drop_all}
use Rattle.std.proofs.lemmas.List.Elements.{All-head, All-tail, All-cons, All-nil}
use Rattle.ns_types.specs.declared.resources.Resources.{Resources}
use Rattle.ns_types.specs.Placing.Placement.{Candidate, fits, better, best_fit}
use Rattle.ns_types.specs.Placing.Planning.{placed_on, update}
use Rattle.ns_types.specs.State.Resources.{Resource, none, quantity}
use Rattle.ns_types.proofs.Amounts.{not_before}
use Rattle.ns_types.proofs.Choosing.{better_order}
use Rattle.ns_types.proofs.Named.{names}
use Rattle.ns_place.specs.Laws.{ChangedAloneIsOrder, NextKeepsOrder}
use Rattle.ns_place.specs.Order.{Walk, walk, Precedes, IsOrder, IsNextNode}
use Rattle.ns_place.proofs.Best.{best_all, irreflexive}

itself : (size : Resources) (c : Candidate) → better size c c ≡ false
itself size c = irreflexive (better size) (better_order size) c

nobody : Candidate
nobody = record { name = []; feasible = false; left = none; evictable = [] }

-- a node that took the size is no worse than it was
no_worse : (size : Resources) (c : Candidate) → better size c (placed_on size [] c) ≡ false
no_worse size c =
    not_before (λ r (left : Resource → ℕ). left r - quantity r size) (λ r. quantity r c.left) (λ r. (quantity r c.left + 0) - quantity r size) _
    (λ r. omega arith) (ap is_lt (tied_itself names c.name))

not_bettered : (size : Resources) (c x : Candidate) → better size x c ≡ false → better size x (placed_on size [] c) ≡ false
not_bettered size c x e = (better_order size).chain x c (placed_on size [] c) e (no_worse size c)

still_better : (size : Resources) (c x : Candidate) → better size c x ≡ true → better size (placed_on size [] c) x ≡ true
still_better size c x e =
    elim (cases_Bool (better size (placed_on size [] c) x)) [
      | inl f ↦ f
      | inr f ↦ absurd (false≢true (sym ((better_order size).chain c (placed_on size [] c) x (no_worse size c) f) ∙ e))
    ]

in_rest : (k : ℕ) (ks : List ℕ) (j : ℕ) → Contains (k ∷ ks) j → (j ≡ k) ⊎ Contains ks j
in_rest k ks j (zero, lt, e) = inl (sym e)
in_rest k ks j (suc i, lt, e) = inr (i, omega arith, e)

in_none : (j : ℕ) → Contains [] j → ⊥
in_none j (i, lt, e) = absurd (omega arith)

module _ (size : Resources) (cs : List Candidate) where
  at_each : (j : ℕ) → j < length cs → (d : Candidate) → fits size (get_or cs j d) ≡ true → (e : Candidate) → fits size (get_or cs j e) ≡ true
  at_each j lt d ok e = ap (fits size) (get_or_default cs j e d lt) ∙ ok

  -- nothing is left to try: none has room
  none_left : IsOrder (walk size []) cs → None ≡ best_fit size cs
  none_left o =
      best_all (fits size) (better size) (better_order size) cs None
      (λ k lt d. elim (cases_Bool (fits size (get_or cs k d))) [ inl e ↦ absurd (in_none k (o.whole k lt (at_each k lt d e))) | inr e ↦ e ])

  -- the only node whose place changed is the only one that can have room
  alone : (k : ℕ) (y : Candidate) → k < length cs → IsOrder (walk size []) cs → IsOrder (walk size (k ∷ [])) (set cs k y)
  alone k y inside o = record {
    whole = λ j lt ok.
        elim (cases_eq j k) [
          | inl e ↦ (0, omega arith, sym e)
          | inr ne ↦
              absurd (in_none j (o.whole j (subst (λ (n : ℕ). j < n) (length-set cs k y) lt)
              (λ d. ap (fits size) (sym (get_or-set_other cs k j y d ne)) ∙ ok d)))
        ];
    inside =
        All-cons (λ n. n < length (set cs k y)) k [] (subst (λ (n : ℕ). k < n) (sym (length-set cs k y)) inside)
        (All-nil (λ n. n < length (set cs k y)));
    rising = λ a b lt in'. absurd (omega arith);
  }

module _ (size : Resources) (cs : List Candidate) (k : ℕ) (ks : List ℕ) (o : IsOrder (walk size (k ∷ ks)) cs) where
  first_inside : k < length cs
  first_inside = All-head (λ n. n < length cs) k ks o.inside

  head_precedes : (j : ℕ) → Contains ks j → Precedes size cs k j
  head_precedes j (i, lt, e) =
      subst (λ (n : ℕ). Precedes size cs k n) (get_or_default ks i 0 j lt ∙ e) (o.rising 0 (suc i) (omega arith) (omega arith))

  -- the first, if it has room, is the best
  head_best : ((d : Candidate) → fits size (get_or cs k d) ≡ true) → Some k ≡ best_fit size cs
  head_best ok =
      best_all (fits size) (better size) (better_order size) cs (Some k) (record {
        below = first_inside;
        passing = ok;
        unbeaten = λ j lt d e.
            elim (in_rest k ks j (o.whole j lt (at_each size cs j lt d e))) [
              | inl same ↦ subst (λ (n : ℕ). better size (get_or cs n d) (get_or cs k d) ≡ false) (sym same) (itself size (get_or cs k d))
              | inr there ↦ (head_precedes j there).unbeaten d
            ];
        first = λ j lt d e.
            let below : k < length cs = first_inside in
            elim (in_rest k ks j (o.whole j (omega arith) (at_each size cs j (omega arith) d e))) [
              | inl same ↦ absurd (omega arith)
              | inr there ↦ (head_precedes j there).first (omega arith) d
            ];
      })

  -- without room it is tried no more
  skipped : ((d : Candidate) → fits size (get_or cs k d) ≡ false) → IsOrder (walk size ks) cs
  skipped fails = record {
    whole = λ j lt ok.
        elim (in_rest k ks j (o.whole j lt ok)) [
          | inl same ↦
              absurd (false≢true (sym (subst (λ (n : ℕ). fits size (get_or cs n nobody) ≡ false) (sym same) (fails nobody)) ∙ ok nobody))
          | inr there ↦ there
        ];
    inside = All-tail (λ n. n < length cs) k ks o.inside;
    rising = λ a b lt in'. o.rising (suc a) (suc b) (omega arith) (omega arith);
  }

  apart : (b : ℕ) → b < length ks → get_or ks b 0 ≢ k
  apart b lt e =
      let p = o.rising 0 (suc b) (omega arith) (omega arith) in
      false≢true (sym (itself size (get_or cs k nobody))
      ∙ subst (λ (n : ℕ). better size (get_or cs k nobody) (get_or cs n nobody) ≡ true) e (p.first (omega arith) nobody))

  module _ (c : Candidate) (reads : c ≡ get_or cs k c) where
    there_now : (d : Candidate) → get_or (set cs k (placed_on size [] c)) k d ≡ placed_on size [] c
    there_now d = get_or-set_same cs k (placed_on size [] c) d first_inside

    there_before : (d : Candidate) → get_or cs k d ≡ c
    there_before d = get_or_default cs k d c first_inside ∙ sym reads

    elsewhere : (j : ℕ) → j ≢ k → (d : Candidate) → get_or (set cs k (placed_on size [] c)) j d ≡ get_or cs j d
    elsewhere j ne d = get_or-set_other cs k j (placed_on size [] c) d ne

    rises : (a b : ℕ) → a < b → b < length (k ∷ ks)
        → Precedes size (set cs k (placed_on size [] c)) (get_or (k ∷ ks) a 0) (get_or (k ∷ ks) b 0)
    rises a zero lt in' = absurd (omega arith)
    rises zero (suc b) lt in' =
        let p = o.rising 0 (suc b) lt in' in
        let j = get_or ks b 0 in
        let ne = apart b (omega arith) in
        record {
          unbeaten = λ d.
              rw (there_now d, elsewhere j ne d)
              (not_bettered size c (get_or cs j d) (ap (better size (get_or cs j d)) (sym (there_before d)) ∙ p.unbeaten d));
          first = λ le d.
              rw (there_now d, elsewhere j ne d)
              (still_better size c (get_or cs j d) (ap (λ (z : Candidate). better size z (get_or cs j d)) (sym (there_before d)) ∙ p.first le d));
        }
    rises (suc a) (suc b) lt in' =
        let p = o.rising (suc a) (suc b) lt in' in
        let ne_a = apart a (omega arith) in
        let ne_b = apart b (omega arith) in
        record {
          unbeaten = λ d. rw (elsewhere (get_or ks a 0) ne_a d, elsewhere (get_or ks b 0) ne_b d) (p.unbeaten d);
          first = λ le d. rw (elsewhere (get_or ks a 0) ne_a d, elsewhere (get_or ks b 0) ne_b d) (p.first le d);
        }

    -- the first takes the size, and the order stands
    taken : IsOrder (walk size (k ∷ ks)) (set cs k (placed_on size [] c))
    taken = record {
      whole = λ j lt ok.
          elim (cases_eq j k) [
            | inl e ↦ (0, omega arith, sym e)
            | inr ne ↦
                o.whole j (subst (λ (n : ℕ). j < n) (length-set cs k (placed_on size [] c)) lt)
                (λ d. ap (fits size) (sym (elsewhere j ne d)) ∙ ok d)
          ];
      inside = λ i d lt. subst (λ (n : ℕ). get_or (k ∷ ks) i d < n) (sym (length-set cs k (placed_on size [] c))) (o.inside i d lt);
      rising = rises;
    }

-- The rest from i on.
module _ (size : Resources) (cs : List Candidate) (ns : List ℕ) (i : ℕ) (inside : i < length ns)
    (o : IsOrder (walk size (drop i ns)) cs) where
  begins : IsOrder (walk size (get_or ns i 0 ∷ drop (i + 1) ns)) cs
  begins = subst (λ (rest : List ℕ). IsOrder (walk size rest) cs) (drop_more ns i 0 inside) o

  pub here_inside : get_or ns i 0 < length cs
  here_inside = first_inside size cs (get_or ns i 0) (drop (i + 1) ns) begins

  pub here_skipped : ((d : Candidate) → fits size (get_or cs (get_or ns i 0) d) ≡ false) → IsOrder (walk size (drop (i + 1) ns)) cs
  here_skipped = skipped size cs (get_or ns i 0) (drop (i + 1) ns) begins

  here_best : ((d : Candidate) → fits size (get_or cs (get_or ns i 0) d) ≡ true) → Some (get_or ns i 0) ≡ best_fit size cs
  here_best = head_best size cs (get_or ns i 0) (drop (i + 1) ns) begins

  here_next : ((d : Candidate) → fits size (get_or cs (get_or ns i 0) d) ≡ true) → IsNextNode (walk size (drop i ns)) cs (get_or ns i 0)
  here_next room = record { others = drop (i + 1) ns; is = drop_more ns i 0 inside; room = room }

-- what is left to try, and that it begins with the one that is found
abbrev IsFound : Walk → List Candidate → Option ℕ → Type 0
IsFound w cs r = (r ≡ best_fit w.size cs) × MatchOption r (w.rest ≡ []) (IsNextNode w cs)

-- What the place says at which a search for room stopped.
module _ (size : Resources) (cs : List Candidate) (ms ns : List ℕ) (same : ms ≡ ns) (i : ℕ) (o : IsOrder (walk size (drop i ms)) cs)
    (room : i < length ms → (d : Candidate) → fits size (get_or cs (get_or ms i 0) d) ≡ true) (r : Option ℕ) where
  order_here : IsOrder (walk size (drop i ns)) cs
  order_here = subst (λ (xs : List ℕ). IsOrder (walk size (drop i xs)) cs) same o

  room_here : i < length ns → (d : Candidate) → fits size (get_or cs (get_or ns i 0) d) ≡ true
  room_here = subst (λ (xs : List ℕ). i < length xs → (d : Candidate) → fits size (get_or cs (get_or xs i 0) d) ≡ true) same room

  pub found : (k : ℕ) → i < length ns → k ≡ get_or ns i k → r ≡ Some k → IsFound (walk size (drop i ns)) cs r
  found k inside reads e =
      let k_is : k ≡ get_or ns i 0 = reads ∙ get_or_default ns i k 0 inside in
      let r_is : r ≡ Some (get_or ns i 0) = e ∙ ap Some k_is in (
        r_is ∙ here_best size cs ns i inside order_here (room_here inside),
        subst (λ (q : Option ℕ). MatchOption q (drop i ns ≡ []) (IsNextNode (walk size (drop i ns)) cs)) (sym r_is)
            (here_next size cs ns i inside order_here (room_here inside)),
      )

  pub ended : length ns ≤ i → r ≡ None → IsFound (walk size (drop i ns)) cs r
  ended le e =
      let gone : drop i ns ≡ [] = drop_all i ns le in (
        e ∙ none_left size cs (subst (λ (rest : List ℕ). IsOrder (walk size rest) cs) gone order_here),
        subst (λ (q : Option ℕ). MatchOption q (drop i ns ≡ []) (IsNextNode (walk size (drop i ns)) cs)) (sym e) gone,
      )

update_is : {X : Type 0} (f : X → X) (xs : List X) (i : ℕ) (d : X) → i < length xs → update i f xs ≡ set xs i (f (get_or xs i d))
update_is f [] i d lt = absurd (omega arith)
update_is f (x ∷ xs) zero d lt = refl
update_is f (x ∷ xs) (suc i) d lt = ap (λ ys. x ∷ ys) (update_is f xs i d (omega arith))

pub next_keeps_order : NextKeepsOrder
next_keeps_order w cs k o n =
    let c = get_or cs k nobody in
    let begins : IsOrder (walk w.size (k ∷ n.others)) cs = subst (λ (rest : List ℕ). IsOrder (walk w.size rest) cs) n.is o in
    let inside = first_inside w.size cs k n.others begins in
    subst (λ (nodes : List Candidate). IsOrder w nodes) (sym (update_is (placed_on w.size []) cs k nobody inside))
    (subst (λ (rest : List ℕ). IsOrder (walk w.size rest) (set cs k (placed_on w.size [] c))) (sym n.is)
    (taken w.size cs k n.others begins c (get_or_default cs k nobody c inside)))

pub changed_alone_is_order : ChangedAloneIsOrder
changed_alone_is_order size cs k change inside o =
    subst (λ (nodes : List Candidate). IsOrder (walk size (k ∷ [])) nodes) (sym (update_is change cs k nobody inside))
    (alone size cs k (change (get_or cs k nobody)) inside o)
