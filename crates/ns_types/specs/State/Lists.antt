-- Functions on lists.
use Rattle.std.specs.Prelude.{ℕ, ◌-◌, Bool, true, false, not, List, [], ◌∷◌, filter, drop, length, map}
use Rattle.std.specs.FinMap.{keys, from_entries, values}
use Rattle.std.specs.Ordering.{nat_cmp}
use Rattle.ns_types.specs.State.Names.{Name, name_cmp}

abbrev pub is_empty : {X : Type 0} → List X → Bool
is_empty [] = true
is_empty (x ∷ xs) = false

-- the list without repetitions: of elements that are the same, the first stays
abbrev pub first_each : {X : Type 0} → (X → X → Bool) → List X → List X
first_each same [] = []
first_each same (x ∷ xs) = x ∷ filter (λ y. not (same x y)) (first_each same xs)

-- the last n elements of the list
abbrev pub last : {X : Type 0} → ℕ → List X → List X
last n xs = drop (length xs - n) xs

-- the names in their order, each once
abbrev pub sorted_names : List Name → List Name
sorted_names names = keys (from_entries {R = name_cmp} (map (λ n. (n, n)) names))

-- the elements in the order of their numbers, if no two have the same number
abbrev pub by_number : {X : Type 0} → (X → ℕ) → List X → List X
by_number number xs = values (from_entries {R = nat_cmp} (map (λ x. (number x, x)) xs))

-- Neither the headline nor the wire rests on this: laws of lists use it.
-- P holds of each element
abbrev pub Each : {X : Type 0} → (X → Type 0) → List X → Type 0
Each P [] = Unit {0}
Each P (x ∷ xs) = P x × Each P xs
