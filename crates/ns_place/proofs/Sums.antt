-- What the elements of a list take together, one element at a time.
use Rattle.std.proofs.Common.{ℕ, ◌+◌, ◌-◌, ◌<◌, ◌≤◌, ◌≡◌, ◌^◌, List, length, take, drop, get_or, sum_by, arith, ap}
use Rattle.std.proofs.lemmas.List.Sums.{sum_by_more, sum_by_more_le, sum_by-take-drop}
use Rattle.ns_types.specs.declared.resources.Resources.{Resources}
use Rattle.ns_types.specs.State.Resources.{IsCounted, minus, plus, quantity, total}
use Rattle.ns_types.proofs.Amounts.{at, every, same_of_each}

module _ {X : Type 0} (size : X → Resources) (xs : List X) (i : ℕ) (d : X) (inside : i < length xs) where
  pub total_more : (l : Resources) → plus l (total size (take (i + 1) xs)) ≡ plus (plus l (total size (take i xs))) (size (get_or xs i d))
  total_more l =
      same_of_each (λ r. quantity r l + sum_by (λ x. quantity r (size x)) (take (i + 1) xs))
      (λ r. (quantity r l + sum_by (λ x. quantity r (size x)) (take i xs)) + quantity r (size (get_or xs i d))) (λ r.
      let more = sum_by_more (λ x. quantity r (size x)) xs i d inside in
      omega (arith, more))

  pub total_more_below : (l : Resources) → IsCounted (plus l (total size xs)) → IsCounted (plus (plus l (total size (take i xs))) (size (get_or xs i d)))
  total_more_below l h =
      every (λ r. (quantity r l + sum_by (λ x. quantity r (size x)) (take i xs)) + quantity r (size (get_or xs i d)) < 2 ^ 64) (λ r.
      let more = sum_by_more_le (λ x. quantity r (size x)) xs i d inside in
      let all = at (λ r. quantity r l + sum_by (λ x. quantity r (size x)) xs < 2 ^ 64) h r in
      omega (arith, more, all))

module _ {X : Type 0} (size : X → Resources) (xs : List X) (i : ℕ) where
  -- the sum so far and the next element are within the whole
  pub total_next_below : (x : X) → i < length xs → x ≡ get_or xs i x → IsCounted (total size xs) → IsCounted (plus (total size (take i xs)) (size x))
  total_next_below x inside reads h =
      every (λ r. sum_by (λ z. quantity r (size z)) (take i xs) + quantity r (size x) < 2 ^ 64) (λ r.
      let more = sum_by_more_le (λ z. quantity r (size z)) xs i x inside in
      let is : quantity r (size x) ≡ quantity r (size (get_or xs i x)) = ap (λ (z : X). quantity r (size z)) reads in
      let all = at (λ r. sum_by (λ z. quantity r (size z)) xs < 2 ^ 64) h r in
      omega (arith, more, is, all))

  -- what is freed by the first i and taken again leaves the bound
  pub total_moved_below : (l s : Resources) → IsCounted (plus l (total size xs))
      → IsCounted (plus (minus (plus l (total size (take i xs))) s) (total size (drop i xs)))
  total_moved_below l s h =
      every (λ r. ((quantity r l + sum_by (λ x. quantity r (size x)) (take i xs)) - quantity r s) + sum_by (λ x. quantity r (size x))
      (drop i xs) < 2 ^ 64) (λ r.
      let parts = sum_by-take-drop (λ x. quantity r (size x)) xs i in
      let all = at (λ r. quantity r l + sum_by (λ x. quantity r (size x)) xs < 2 ^ 64) h r in
      omega (arith, parts, all))
