-- How a scan finds the shortest prefix that serves.
use Rattle.std.proofs.Common.{ℕ, suc, zero, ◌<◌, ◌≤◌, ◌≡◌, Bool, true, false, List, [], ◌∷◌, length, take, Some, None, arith, ap, ◌∙◌}
use Rattle.std.specs.Option.{option_map}
use Rattle.std.proofs.lemmas.Bool.{cond-true, cond-false}
use Rattle.ns_types.specs.Placing.Choice.{shortest_prefix}

pub shortest_prefix_none : {X : Type 0} (serves : List X → Bool) (xs : List X) → ((n : ℕ) → n ≤ length xs → serves (take n xs) ≡ false)
    → shortest_prefix serves xs ≡ None
shortest_prefix_none serves [] h = cond-false _ _ _ (h 0 (omega arith))
shortest_prefix_none serves (x ∷ xs) h =
    cond-false _ _ _ (h 0 (omega arith))
    ∙ ap (option_map (λ ys. x ∷ ys)) (shortest_prefix_none (λ ys. serves (x ∷ ys)) xs (λ n lt. h (suc n) (omega arith)))

pub shortest_prefix_some : {X : Type 0} (serves : List X → Bool) (xs : List X) (n : ℕ) → n ≤ length xs → serves (take n xs) ≡ true
    → ((m : ℕ) → m < n → serves (take m xs) ≡ false) → shortest_prefix serves xs ≡ Some (take n xs)
shortest_prefix_some serves [] zero le ok h = cond-true _ _ _ ok
shortest_prefix_some serves [] (suc n) le ok h = absurd (omega arith)
shortest_prefix_some serves (x ∷ xs) zero le ok h = cond-true _ _ _ ok
shortest_prefix_some serves (x ∷ xs) (suc n) le ok h =
    cond-false _ _ _ (h 0 (omega arith))
    ∙ ap (option_map (λ ys. x ∷ ys)) (shortest_prefix_some (λ ys. serves (x ∷ ys)) xs n (omega arith) ok (λ m lt. h (suc m) (omega arith)))
