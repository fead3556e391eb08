-- The namespaces of a node's live allocations, each given by the place of its name in a list of names.
use Rattle.std.specs.Prelude.{◌≡◌, ℕ, List, Option, Some, SomeIff, map, slice_get}
use Rattle.ns_types.specs.declared.snapshot.LiveAllocation.{LiveAllocation}
use Rattle.ns_types.specs.declared.resources.Resources.{Resources}
use Rattle.ns_types.specs.State.Resources.{IsCounted, total}
use Rattle.ns_types.specs.State.Names.{Name}

-- for each row, the list of names has the row's namespace at the place that `owners` gives
abbrev pub AreOwned : List Name → List ℕ → List LiveAllocation → Type 0
AreOwned names owners rows = map (slice_get names) owners ≡ map (λ a. Some a.namespace) rows

-- each name of the old list is at the same place in the new one
abbrev pub KeepsNames : List Name → List Name → Type 0
KeepsNames old new = (n : ℕ) (name : Name) → slice_get old n ≡ Some name → slice_get new n ≡ Some name

-- a live allocation without its namespace: its number, priority and size
abbrev pub without_name : LiveAllocation → ℕ × (ℕ × Resources)
without_name a = (a.number, (a.priority, a.size))

-- the load is what the rows take together, if that fits 64 bits, and none if it does not
abbrev pub IsLoad : List LiveAllocation → Option Resources → Type 0
IsLoad rows load = SomeIff load (IsCounted (total (λ a. a.size) rows)) (total (λ a. a.size) rows)
