-- A list taken level by level: each level's elements, the lower levels first.
use Rattle.std.specs.Prelude.{◌≡◌, ℕ, zero, suc, ◌+◌, ◌-◌, ◌<◌, ◌≤◌, ◌==◌, List, [], ◌∷◌, ◌++◌, filter, reverse}
use Rattle.std.proofs.Common.{sym, ap, ◌∙◌, arith, ◌⊎◌, inl, inr}
use Rattle.std.specs.List.{AllPairs, flat_map, range_with_len}
use Rattle.std.proofs.lemmas.Bool.{eqb-true, eq-eqb, ne_eqb, cases_order}
use Rattle.std.proofs.lemmas.List.{append-nil}
use Rattle.std.proofs.lemmas.List.Kept.{AllPairs-cons}
use Rattle.ns_types.specs.State.Lists.{Each}
use Rattle.ns_types.specs.Placing.Preemption.{evictable}
use Rattle.ns_types.proofs.Lists.{each_map, filter-append, filter_none, filter_all}
use Rattle.ns_types.proofs.Elements.{each_append, each_kept, each_true, all_from}
use Rattle.ns_laws.specs.Placement.{EvictableAreLower, EvictableInOrder, EvictableAreAll}

module _ {X : Type 0} (key : X → ℕ) (xs : List X) where
  abbrev pub level : ℕ → List X
  level p = filter (λ x. key x == p) xs

  abbrev pub levels : ℕ → ℕ → List X
  levels a n = flat_map level (range_with_len a n)

  each_at : (p : ℕ) → Each (λ x. key x ≡ p) (level p)
  each_at p = each_map (λ x h. eqb-true (key x) p h.1) (level p) (each_kept (λ _. Unit {0}) (λ x. key x == p) xs (each_true xs))

  pub each_within : (a n : ℕ) → Each (λ x. (a ≤ key x) × (key x < a + n)) (levels a n)
  each_within a zero = tt
  each_within a (suc n) = each_append _ (level a) (levels (a + 1) n)
      (each_map (λ x h. (omega (arith, h), omega (arith, h))) (level a) (each_at a))
      (each_map (λ x h. (omega (arith, h.0), omega (arith, h.1))) (levels (a + 1) n) (each_within (a + 1) n))

  -- elements of one level before others that are not below it
  in_order : (a : ℕ) (ys zs : List X) → Each (λ x. key x ≡ a) ys → Each (λ x. a ≤ key x) zs → AllPairs (λ x y. key x ≤ key y) zs →
      AllPairs (λ x y. key x ≤ key y) (ys ++ zs)
  in_order a [] zs h k pairs = pairs
  in_order a (y ∷ ys) zs h k pairs = AllPairs-cons (λ x y. key x ≤ key y) y (ys ++ zs)
      (all_from (λ z. key y ≤ key z) (ys ++ zs) (each_append _ ys zs (each_map (λ x e. omega (arith, e, h.0)) ys h.1)
      (each_map (λ x e. omega (arith, e, h.0)) zs k)))
      (in_order a ys zs h.1 k pairs)

  pairs_none : AllPairs (λ (x y : X). key x ≤ key y) []
  pairs_none i j d lt within = absurd (omega (arith, within))

  each_in_order : (a n : ℕ) → AllPairs (λ x y. key x ≤ key y) (levels a n)
  each_in_order a zero = pairs_none
  each_in_order a (suc n) = in_order a (level a) (levels (a + 1) n) (each_at a)
      (each_map (λ x h. omega (arith, h.0)) (levels (a + 1) n) (each_within (a + 1) n)) (each_in_order (a + 1) n)

  other_level : (p q : ℕ) → (p ≡ q → ⊥) → filter (λ x. key x == q) (level p) ≡ []
  other_level p q ne = filter_none (λ x. key x == q) (level p) (each_map (λ x h. ne_eqb (key x) q (λ e. ne (sym h ∙ e))) (level p) (each_at p))

  none_from : (a n p : ℕ) → p < a → filter (λ x. key x == p) (levels a n) ≡ []
  none_from a n p lt = filter_none (λ x. key x == p) (levels a n)
      (each_map (λ x h. ne_eqb (key x) p (λ e. omega (arith, e, h.0, lt))) (levels a n) (each_within a n))

  whole_level : (a n p : ℕ) → a ≤ p → p < a + n → filter (λ x. key x == p) (levels a n) ≡ level p
  whole_level a zero p le lt = absurd (omega (arith, le, lt))
  whole_level a (suc n) p le lt = filter-append (λ x. key x == p) (level a) (levels (a + 1) n) ∙ by (cases_order a p) (whole_level (a + 1) n p)
    where
      by : (a ≡ p) ⊎ ((a < p) ⊎ (p < a)) → (a + 1 ≤ p → p < a + 1 + n → filter (λ x. key x == p) (levels (a + 1) n) ≡ level p)
          → filter (λ x. key x == p) (level a) ++ filter (λ x. key x == p) (levels (a + 1) n) ≡ level p
      by (inl e) go = (λ i. own e i ++ none_from (a + 1) n p (omega (arith, e)) i) ∙ append-nil (level p)
        where
          own : a ≡ p → filter (λ x. key x == p) (level a) ≡ level p
          own e = filter_all (λ x. key x == p) (level a) (each_map (λ x h. eq-eqb (key x) p (h ∙ e)) (level a) (each_at a)) ∙ ap level e
      by (inr (inl less)) go = ap (λ l. l ++ filter (λ x. key x == p) (levels (a + 1) n)) (other_level a p (λ e. omega (arith, e, less))) ∙
          go (omega (arith, less)) (omega (arith, lt))
      by (inr (inr more)) go = absurd (omega (arith, more, le))

pub evictable_are_lower : EvictableAreLower
evictable_are_lower priority live = each_map (λ a h. omega (arith, h.1)) (evictable priority live)
    (each_within (λ a. a.priority) (reverse live) 0 (priority - 9))

pub evictable_in_order : EvictableInOrder
evictable_in_order priority live = each_in_order (λ a. a.priority) (reverse live) 0 (priority - 9)

pub evictable_are_all : EvictableAreAll
evictable_are_all priority level live h = whole_level (λ a. a.priority) (reverse live) 0 (priority - 9) level (omega arith) (omega (arith, h))
