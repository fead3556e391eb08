-- The last items of a list to which more are added.
use Rattle.std.proofs.Common.{◌≡◌, ◌≤◌, ℕ, ◌+◌, ◌-◌, List, [], ◌∷◌, ◌++◌, length, drop, sym, ap, ◌∙◌, append_assoc, arith}
use Rattle.std.proofs.lemmas.List.{drop-append-le, drop-drop, length-append, length-drop}
use Rattle.circular_buffer.specs.Buffer.{Buffer, buffer, keep_last}
use Rattle.ns_types.specs.State.Lists.{last}

module _ {X : Type 0} where
  -- the last n are taken once
  last_over : (n : ℕ) (xs ys : List X) → last n (last n xs ++ ys) ≡ last n (xs ++ ys)
  last_over n xs ys =
      let k = length xs - n in
      let within : k ≤ length xs = omega arith in
      let whole : last n xs ++ ys ≡ drop k (xs ++ ys) = sym (drop-append-le k xs ys within) in
      let cut : k + (length xs + length ys - k - n) ≡ length xs + length ys - n = omega arith in
      let left : length (drop k (xs ++ ys)) ≡ length xs + length ys - k =
      length-drop k (xs ++ ys) ∙ ap (λ l. l - k) (length-append xs ys) in
      ap (last n) whole ∙ ap (λ l. drop (l - n) (drop k (xs ++ ys))) left ∙ drop-drop (length xs + length ys - k - n) k (xs ++ ys)
      ∙ ap (λ m. drop m (xs ++ ys)) (cut ∙ ap (λ l. l - n) (sym (length-append xs ys)))

  -- one more is pushed into a ring, and the others come after
  pub pushed : (old new : Buffer X) (n : ℕ) (x : X) (xs all : List X) → last n (old.items ++ x ∷ xs) ≡ all → old.capacity ≡ n →
      new ≡ buffer (keep_last old.capacity (old.items ++ x ∷ [])) old.capacity → (last n (new.items ++ xs) ≡ all) × (new.capacity ≡ n)
  pushed old new n x xs all rest room is = (
    ap (λ b. last n (b.items ++ xs)) is ∙ ap (λ c. last n (keep_last c (old.items ++ x ∷ []) ++ xs)) room
        ∙ last_over n (old.items ++ x ∷ []) xs ∙ ap (last n) (append_assoc old.items (x ∷ []) xs) ∙ rest,
    ap (λ b. b.capacity) is ∙ room,
  )
