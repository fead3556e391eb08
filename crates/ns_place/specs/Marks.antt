-- Flags of numbers.
use Rattle.std.specs.Prelude.{◌≡◌, ℕ, ◌<◌, Bool, false, List, slice_index_or}
use Rattle.ns_types.specs.State.Names.{has_number}

-- each number below 1,000 has its flag, which says whether it stands in the list
abbrev pub AreFlags : List Bool → List ℕ → Type 0
AreFlags flags numbers = (k : ℕ) → k < 1000 → slice_index_or flags k false ≡ has_number numbers k
