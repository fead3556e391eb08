-- The keys of slots that pass a test, found slot by slot.
use Rattle.std.specs.Prelude.{◌≡◌, ℕ, Bool, true, false, cond, List, [], ◌∷◌, ◌++◌, filter, flat_map, Option, Some, None}
use Rattle.std.proofs.Common.{refl, ap, ◌∙◌}
use Rattle.keyed.specs.Queue.{keys_in, passing_at}
use Rattle.ns_types.specs.State.Names.{Key}

pub passing_is : (passes : Key → Bool) (slots : List (ℕ × Option Key)) → flat_map (passing_at passes) slots ≡ filter passes (keys_in slots)
passing_is passes [] = refl
passing_is passes ((n, None) ∷ slots) = passing_is passes slots
passing_is passes ((n, Some key) ∷ slots) = ap (λ l. filter passes (key ∷ []) ++ l) (passing_is passes slots) ∙ by (passes key)
  where
    by : (b : Bool) → cond b (key ∷ []) [] ++ filter passes (keys_in slots) ≡ cond b (key ∷ filter passes (keys_in slots)) (filter passes (keys_in slots))
    by true = refl
    by false = refl
