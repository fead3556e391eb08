-- The best so far of a list's first elements: how it starts, how one more element changes it, and what it is at the end.
use Rattle.std.proofs.Common.{ℕ, ◌+◌, ◌<◌, ◌≤◌, ◌≡◌, Bool, true, false, List, [], ◌∷◌, length, get_or, Option, Some, None}
use Rattle.std.proofs.Common.{arith, below_more, refl, ap, ◌∙◌, sym, inl, inr, subst}
use Rattle.std.specs.Cmp.{IsStrictWeakOrder}
use Rattle.std.specs.List.{position_or_len}
use Rattle.std.specs.Option.{MatchOption}
use Rattle.std.proofs.lemmas.Bool.{and_left, and_right, and_from, not_from_true, not_from_false, cases_Bool}
use Rattle.std.proofs.lemmas.Bool.{cond-true, cond-false, lt-ltb, le-ltb, false≢true}
use Rattle.std.proofs.lemmas.List.Sums.{position_or_len_is, list_all-from_AllPass}
use Rattle.std.proofs.lemmas.List.{get_or_default}
use Rattle.std.proofs.lemmas.List.Elements.{at_read, pair_read}
use Rattle.std.proofs.lemmas.List.Folds.{list_all_at}
use Rattle.ns_types.specs.Placing.Choice.{is_unbeaten, best}

-- none of the first i passes
abbrev pub NonePasses : {X : Type 0} → (X → Bool) → List X → ℕ → Type 0
NonePasses {X} passes xs i = (k : ℕ) → k < i → (d : X) → passes (get_or xs k d) ≡ false

-- the element at b is the best of the first i, and the first such
pub record IsBestSoFar {X : Type 0} (passes : X → Bool) (beats : X → X → Bool) (xs : List X) (i b : ℕ) : Type 0 where
  pub below : b < i
  pub passing : (d : X) → passes (get_or xs b d) ≡ true
  pub unbeaten : (k : ℕ) → k < i → (d : X) → passes (get_or xs k d) ≡ true → beats (get_or xs k d) (get_or xs b d) ≡ false
  pub first : (k : ℕ) → k < b → (d : X) → passes (get_or xs k d) ≡ true → beats (get_or xs b d) (get_or xs k d) ≡ true

abbrev pub BestSoFar : {X : Type 0} → (X → Bool) → (X → X → Bool) → List X → ℕ → Option ℕ → Type 0
BestSoFar passes beats xs i r = MatchOption r (NonePasses passes xs i) (IsBestSoFar passes beats xs i)

pub irreflexive : {X : Type 0} (beats : X → X → Bool) → IsStrictWeakOrder beats → (x : X) → beats x x ≡ false
irreflexive beats o x = elim (cases_Bool (beats x x)) [ inl e ↦ o.one_way x x e | inr e ↦ e ]

module _ {X : Type 0} (passes : X → Bool) (beats : X → X → Bool) (o : IsStrictWeakOrder beats) (xs : List X) where
  fails_at_true : (x : X) → passes x ≡ false → passes x ≡ true → ⊥
  fails_at_true x e f = false≢true (sym e ∙ f)

  best_skips : (i : ℕ) (r : Option ℕ) → ((d : X) → passes (get_or xs i d) ≡ false) → BestSoFar passes beats xs i r
      → BestSoFar passes beats xs (i + 1) r
  best_skips i None fails h = below_more _ _ h fails
  best_skips i (Some b) fails h = record {
    below = let e = h.below in omega arith;
    passing = h.passing;
    unbeaten = below_more _ _ h.unbeaten (λ d e. absurd (fails_at_true _ (fails d) e));
    first = h.first;
  }

  best_begins : (i : ℕ) → ((d : X) → passes (get_or xs i d) ≡ true) → NonePasses passes xs i → IsBestSoFar passes beats xs (i + 1) i
  best_begins i ok h = record {
    below = omega arith;
    passing = ok;
    unbeaten = below_more _ _ (λ k lt d e. absurd (fails_at_true _ (h k lt d) e)) (λ d _. irreflexive beats o _);
    first = λ k lt d e. absurd (fails_at_true _ (h k lt d) e);
  }

  -- x beats b, and b is not beaten by y: x beats y
  beats_through : (x b y : X) → beats x b ≡ true → beats y b ≡ false → beats x y ≡ true
  beats_through x b y e f =
      elim (cases_Bool (beats x y)) [ inl g ↦ g | inr g ↦ absurd (false≢true (sym (o.chain x y b g f) ∙ e)) ]

  best_takes : (i b : ℕ) → ((d : X) → passes (get_or xs i d) ≡ true) → ((d : X) → beats (get_or xs i d) (get_or xs b d) ≡ true)
      → IsBestSoFar passes beats xs i b → IsBestSoFar passes beats xs (i + 1) i
  best_takes i b ok beaten h =
      let wins : (k : ℕ) → k < i → (d : X) → passes (get_or xs k d) ≡ true → beats (get_or xs i d) (get_or xs k d) ≡ true =
      λ k lt d e. beats_through _ _ _ (beaten d) (h.unbeaten k lt d e) in
      record {
        below = omega arith;
        passing = ok;
        unbeaten = below_more _ _ (λ k lt d e. o.one_way _ _ (wins k lt d e)) (λ d _. irreflexive beats o _);
        first = wins;
      }

  best_keeps : (i b : ℕ) → ((d : X) → beats (get_or xs i d) (get_or xs b d) ≡ false) → IsBestSoFar passes beats xs i b
      → IsBestSoFar passes beats xs (i + 1) b
  best_keeps i b beaten h = record {
    below = let e = h.below in omega arith;
    passing = h.passing;
    unbeaten = below_more _ _ h.unbeaten (λ d _. beaten d);
    first = h.first;
  }

  unbeaten_at : (b : ℕ) (d : X) → IsBestSoFar passes beats xs (length xs) b → is_unbeaten passes beats xs (get_or xs b d) ≡ true
  unbeaten_at b d h =
      and_from _ _ (h.passing d)
      (list_all-from_AllPass _ xs (λ k e lt.
      let at_b : get_or xs b e ≡ get_or xs b d = get_or_default xs b e d h.below in
      not_from_false _ (elim (cases_Bool (passes (get_or xs k e))) [
        | inl p ↦ and_right _ _ (subst (λ (y : X). beats (get_or xs k e) y ≡ false) at_b (h.unbeaten k lt e p))
        | inr p ↦ and_left _ _ p
      ])))

  beaten_before : (b k : ℕ) (d : X) → k < b → IsBestSoFar passes beats xs (length xs) b → is_unbeaten passes beats xs (get_or xs k d) ≡ false
  beaten_before b k d lt h =
      elim (cases_Bool (passes (get_or xs k d))) [
        | inl p ↦ and_right _ _ (list_all_at _ xs b d h.below (not_from_true _ (and_from _ _ (h.passing d) (h.first k lt d p))))
        | inr p ↦ and_left _ _ p
      ]

  position_is : (b : ℕ) → b < length xs → position_or_len (is_unbeaten passes beats xs) xs ≡ b → Some b ≡ best passes beats xs
  position_is b lt e = let below : position_or_len (is_unbeaten passes beats xs) xs < length xs = omega arith in
      sym (cond-true _ _ _ (lt-ltb _ _ below) ∙ ap Some e)

  best_by : (r : Option ℕ) (d : X) → BestSoFar passes beats xs (length xs) r → r ≡ best passes beats xs
  best_by None d h =
      let e : position_or_len (is_unbeaten passes beats xs) xs ≡ length xs =
      position_or_len_is _ xs (length xs) d (omega arith) (λ k lt. and_left _ _ (h k lt d)) (λ lt. absurd (omega arith)) in
      let over : length xs ≤ position_or_len (is_unbeaten passes beats xs) xs = omega arith in
      sym (cond-false _ _ _ (le-ltb _ _ over))
  best_by (Some b) d h =
      position_is b h.below
      (position_or_len_is _ xs b d (let e = h.below in omega arith) (λ k lt. beaten_before b k d lt h) (λ lt. unbeaten_at b d h))

pub best_all : {X : Type 0} (passes : X → Bool) (beats : X → X → Bool) → IsStrictWeakOrder beats → (xs : List X) (r : Option ℕ)
    → BestSoFar passes beats xs (length xs) r → r ≡ best passes beats xs
best_all passes beats o [] None h = refl
best_all passes beats o [] (Some b) h = absurd (let e = h.below in omega arith)
best_all passes beats o (x ∷ xs) r h = best_by passes beats o (x ∷ xs) r x h

-- The four ways through an iteration of a scan, at the element x of place i; y is the best so far, at b.
module _ {X : Type 0} (passes : X → Bool) (beats : X → X → Bool) (o : IsStrictWeakOrder beats) (xs : List X) (i : ℕ) (x : X)
    (inside : i < length xs) (reads : x ≡ get_or xs i x) where
  pub scan_skips : (r s : Option ℕ) → s ≡ r → passes x ≡ false → BestSoFar passes beats xs i r → BestSoFar passes beats xs (i + 1) s
  scan_skips r s same fails h =
      subst (λ (q : Option ℕ). BestSoFar passes beats xs (i + 1) q) (sym same)
      (best_skips passes beats o xs i r (at_read xs (λ z. passes z ≡ false) i x inside reads fails) h)

  pub scan_begins : (r s : Option ℕ) → r ≡ None → s ≡ Some i → passes x ≡ true → BestSoFar passes beats xs i r
      → BestSoFar passes beats xs (i + 1) s
  scan_begins r s was now ok h =
      subst (λ (q : Option ℕ). BestSoFar passes beats xs (i + 1) q) (sym now)
      (best_begins passes beats o xs i (at_read xs (λ z. passes z ≡ true) i x inside reads ok)
      (subst (λ (q : Option ℕ). BestSoFar passes beats xs i q) was h))

  pub scan_takes : (r s : Option ℕ) (b : ℕ) (y : X) → r ≡ Some b → s ≡ Some i → y ≡ get_or xs b y → passes x ≡ true → beats x y ≡ true
      → BestSoFar passes beats xs i r → BestSoFar passes beats xs (i + 1) s
  scan_takes r s b y was now reads_best ok beaten h =
      let k : IsBestSoFar passes beats xs i b = subst (λ (q : Option ℕ). BestSoFar passes beats xs i q) was h in
      let lt : b < length xs = let e = k.below in omega arith in
      subst (λ (q : Option ℕ). BestSoFar passes beats xs (i + 1) q) (sym now)
      (best_takes passes beats o xs i b (at_read xs (λ z. passes z ≡ true) i x inside reads ok)
      (pair_read xs (λ z w. beats z w ≡ true) i b x y inside lt reads reads_best beaten) k)

  pub scan_keeps : (r s : Option ℕ) (b : ℕ) (y : X) → r ≡ Some b → s ≡ Some b → y ≡ get_or xs b y → beats x y ≡ false
      → BestSoFar passes beats xs i r → BestSoFar passes beats xs (i + 1) s
  scan_keeps r s b y was now reads_best kept h =
      let k : IsBestSoFar passes beats xs i b = subst (λ (q : Option ℕ). BestSoFar passes beats xs i q) was h in
      let lt : b < length xs = let e = k.below in omega arith in
      subst (λ (q : Option ℕ). BestSoFar passes beats xs (i + 1) q) (sym now)
      (best_keeps passes beats o xs i b (pair_read xs (λ z w. beats z w ≡ false) i b x y inside lt reads reads_best kept) k)
