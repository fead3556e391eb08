-- Numbers that rise.
use Rattle.std.specs.Prelude.{◌≡◌, ℕ, ◌-◌, ◌<◌, ◌≤◌, ◌⊎◌, Bool, true, false, List, Some, is_ok, length, ltb, take, nat_eq}
use Rattle.std.specs.List.{IsAllAdjacentAnswer}
use Rattle.std.specs.List.Sorted.{IsBinarySearchResult, IsNonDecreasing}
use Rattle.std.specs.Ordering.{is_le, is_some_and, nat_cmp}
use Rattle.std.proofs.Common.{Ok, Err, Result, arith, get_or, inl, inr, ltb-false, ltb-true, refl, sym, ap, true≢false, ◌∙◌}
use Rattle.std.proofs.lemmas.Bool.{eqb-true}
use Rattle.std.proofs.lemmas.List.{get_or-take, get_or_default, length-take-le}
use Rattle.std.proofs.lemmas.List.Elements.{All-from_get_or}
use Rattle.std.proofs.lemmas.List.Folds.{list_any_at, list_any_none}
use Rattle.std.proofs.lemmas.List.Sorted.{non_decreasing_from_is_sorted, searched}
use Rattle.ns_types.specs.State.Names.{has_number, same_number}
use Rattle.ns_types.proofs.Lists.{not_both}
use Rattle.ns_types.proofs.Named.{number_ties, other_number, same_number_refl}

order : (m n : ℕ) → (m < n) ⊎ (n ≤ m)
order m n = by (ltb m n) refl
  where
    by : (b : Bool) → ltb m n ≡ b → (m < n) ⊎ (n ≤ m)
    by true e = inl (ltb-true m n e)
    by false e = inr (ltb-false m n e)

-- what `is_sorted` finds
pub rising_by : (xs : List ℕ) (r : Bool) → IsAllAdjacentAnswer (λ x y b. is_some_and is_le (Some (nat_cmp x y)) ≡ b) xs r → r ≡ true → IsNonDecreasing xs
rising_by xs true h e = non_decreasing_from_is_sorted xs true h
rising_by xs false h e = absurd (true≢false (sym e))

-- a binary search finds one that stands there, and no other
pub in_rising : (xs : List ℕ) (x : ℕ) (r : Result ℕ ℕ) → IsBinarySearchResult (λ y. nat_cmp y x) xs r → IsNonDecreasing xs → is_ok r ≡ has_number xs x
in_rising xs x (Ok i) h up =
    let at = searched xs x (Ok i) h (λ a b. up a b 0) in
    sym (list_any_at (same_number x) xs i 0 at.0 (ap (same_number x) at.1 ∙ same_number_refl x))
in_rising xs x (Err i) h up =
    let at = searched xs x (Err i) h (λ a b. up a b 0) in
    sym (list_any_none (same_number x) xs (All-from_get_or (λ y. same_number x y ≡ false) xs 0
    (λ k inside. other_number x (get_or xs k 0) (λ e. elim (order k i) [
      | inl l ↦ let below = at.1 k l in omega (arith, below, e)
      | inr l ↦ let above = at.2 k l inside in omega (arith, above, e)
    ]))))

module _ (xs : List ℕ) (i : ℕ) (up : IsNonDecreasing xs) (more : 0 < i) (inside : i < length xs) where
  abbrev before : ℕ
  before = get_or xs (i - 1) 0

  abbrev x : ℕ
  x = get_or xs i 0

  -- one that stands earlier is the one before
  pub repeated : (d : ℕ) → nat_eq before x ≡ has_number (take i xs) (get_or xs i d)
  repeated d = by (nat_eq before x) refl ∙ ap (has_number (take i xs)) (get_or_default xs i 0 d inside)
    where
      long : length (take i xs) ≡ i
      long = length-take-le i xs (omega (arith, inside))

      apart : nat_eq before x ≡ false → (k : ℕ) → k < i → x ≡ get_or (take i xs) k 0 → ⊥
      apart e k l same =
          let here = get_or-take i xs k 0 l in
          let low = up k (i - 1) 0 (omega (arith, l, more)) (omega (arith, inside)) in
          let high = up (i - 1) i 0 (omega arith) inside in
          let equal : before ≡ x = omega (arith, here, low, high, same) in
          not_both (number_ties before x ∙ ap (same_number before) (sym equal) ∙ same_number_refl before) e

      by : (b : Bool) → nat_eq before x ≡ b → b ≡ has_number (take i xs) x
      by true e = sym (list_any_at (same_number x) (take i xs) (i - 1) 0 (omega (arith, long, more))
          (ap (same_number x) (get_or-take i xs (i - 1) 0 (omega (arith, more)) ∙ eqb-true before x e) ∙ same_number_refl x))
      by false e = sym (list_any_none (same_number x) (take i xs) (All-from_get_or (λ y. same_number x y ≡ false) (take i xs) 0
          (λ k l. other_number x (get_or (take i xs) k 0) (apart e k (omega (arith, long, l))))))
