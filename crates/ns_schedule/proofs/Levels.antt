-- Those whom a job may evict take no more than all that is live on the node.
use Rattle.std.proofs.Common.{◌≡◌, ℕ, zero, suc, ◌+◌, ◌-◌, ◌≤◌, ◌<◌, ◌^◌, ◌∷◌, ◌++◌, [], Bool, cond, List, sum_by, reverse, ap, arith, inl, inr}
use Rattle.std.specs.Prelude.{◌==◌, nat_le, filter}
use Rattle.std.specs.List.{flat_map, range_with_len}
use Rattle.std.proofs.lemmas.Bool.{cond-true, cond-false, cases_order, eq-eqb, ne_eqb, le-leb, lt-leb}
use Rattle.std.proofs.lemmas.List.{reverse-append}
use Rattle.std.proofs.lemmas.List.Sums.{sum_by-append, sum_by-cons, sum_by-le-sum_by}
use Rattle.ns_types.specs.declared.snapshot.LiveAllocation.{LiveAllocation}
use Rattle.ns_types.specs.declared.resources.Resources.{Resources}
use Rattle.ns_types.specs.Placing.Preemption.{evictable}
use Rattle.ns_types.specs.State.Resources.{IsCounted, minus, plus, quantity, total}
use Rattle.ns_types.proofs.Amounts.{at, every}
use Rattle.ns_types.proofs.Sums.{sum_add, sum_filter, sum_kept}

-- what is of the level a, and what is above it
at_or_above : (a k n : ℕ) → cond (k == a) n 0 + cond (nat_le (a + 1) k) n 0 ≤ cond (nat_le a k) n 0
at_or_above a k n =
    elim (cases_order k a) [
      | inl e ↦
          let here : cond (k == a) n 0 ≡ n = cond-true _ _ _ (eq-eqb k a e) in
          let above : cond (nat_le (a + 1) k) n 0 ≡ 0 = cond-false _ _ _ (lt-leb (a + 1) k (omega arith)) in
          let all : cond (nat_le a k) n 0 ≡ n = cond-true _ _ _ (le-leb a k (omega arith)) in
          omega (arith, here, above, all)
      | inr (inl lt) ↦
          let here : cond (k == a) n 0 ≡ 0 = cond-false _ _ _ (ne_eqb k a (λ e. absurd (omega arith))) in
          let above : cond (nat_le (a + 1) k) n 0 ≡ 0 = cond-false _ _ _ (lt-leb (a + 1) k (omega arith)) in
          omega (arith, here, above)
      | inr (inr gt) ↦
          let here : cond (k == a) n 0 ≡ 0 = cond-false _ _ _ (ne_eqb k a (λ e. absurd (omega arith))) in
          let above : cond (nat_le (a + 1) k) n 0 ≡ n = cond-true _ _ _ (le-leb (a + 1) k (omega arith)) in
          let all : cond (nat_le a k) n 0 ≡ n = cond-true _ _ _ (le-leb a k (omega arith)) in
          omega (arith, here, above, all)
    ]

module _ {X : Type 0} (f key : X → ℕ) where
  levels_within : (a n : ℕ) (xs : List X)
      → sum_by f (flat_map (λ p. filter (λ x. key x == p) xs) (range_with_len a n)) ≤ sum_by f (filter (λ x. nat_le a (key x)) xs)
  levels_within a zero xs = omega arith
  levels_within a (suc n) xs =
      let parts = sum_by-append f (filter (λ x. key x == a) xs) (flat_map (λ p. filter (λ x. key x == p) xs) (range_with_len (a + 1) n)) in
      let rest = levels_within (a + 1) n xs in
      let here = sum_filter f (λ x. key x == a) xs in
      let above = sum_filter f (λ x. nat_le (a + 1) (key x)) xs in
      let all = sum_filter f (λ x. nat_le a (key x)) xs in
      let both = sum_add (λ x. cond (key x == a) (f x) 0) (λ x. cond (nat_le (a + 1) (key x)) (f x) 0) xs in
      let less = sum_by-le-sum_by (λ x. cond (key x == a) (f x) 0 + cond (nat_le (a + 1) (key x)) (f x) 0) (λ x. cond (nat_le a (key x)) (f x) 0) xs
      (λ x. at_or_above a (key x) (f x)) in
      omega (arith, parts, rest, here, above, all, both, less)

  sum_reverse : (xs : List X) → sum_by f (reverse xs) ≡ sum_by f xs
  sum_reverse [] = omega arith
  sum_reverse (x ∷ xs) =
      let turned : sum_by f (reverse (x ∷ xs)) ≡ sum_by f (reverse xs ++ x ∷ []) = ap (sum_by f) (reverse-append (x ∷ []) xs) in
      let parts : sum_by f (reverse xs ++ x ∷ []) ≡ sum_by f (reverse xs) + (0 + f x) = sum_by-append f (reverse xs) (x ∷ []) in
      let rest = sum_reverse xs in
      let whole = sum_by-cons f x xs in
      omega (arith, turned, parts, rest, whole)

  some_within : (p : X → Bool) (n : ℕ) (xs : List X)
      → sum_by f (filter p (flat_map (λ q. filter (λ x. key x == q) (reverse xs)) (range_with_len 0 n))) ≤ sum_by f xs
  some_within p n xs =
      let some = sum_kept f p (flat_map (λ q. filter (λ x. key x == q) (reverse xs)) (range_with_len 0 n)) in
      let levels = levels_within 0 n (reverse xs) in
      let lower = sum_kept f (λ x. nat_le 0 (key x)) (reverse xs) in
      let turned = sum_reverse xs in
      omega (arith, some, levels, lower, turned)

-- so what is left and what evictions can free is counted where the capacity and all that is live are
pub opened_counted : (capacity load : Resources) (p : LiveAllocation → Bool) (priority : ℕ) (live : List LiveAllocation)
    → IsCounted (plus capacity (total (λ a. a.size) live))
    → IsCounted (plus (minus capacity load) (total (λ a. a.size) (filter p (evictable priority live))))
opened_counted capacity load p priority live h =
    every (λ r. (quantity r capacity - quantity r load) + sum_by (λ a. quantity r a.size) (filter p (evictable priority live)) < 2 ^ 64) (λ r.
    let some = some_within (λ (a : LiveAllocation). quantity r a.size) (λ a. a.priority) p (priority - 9) live in
    let all = at (λ r. quantity r capacity + sum_by (λ a. quantity r a.size) live < 2 ^ 64) h r in
    omega (arith, some, all))
