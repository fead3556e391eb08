-- The live allocations of a node up to a place, and those after it.
use Rattle.std.specs.Prelude.{ℕ, Bool, true, not, ◌&&◌, List, [], ◌∷◌, Option, Some, None, filter, if◌then◌else◌, map, nat_lt}
use Rattle.ns_types.specs.declared.allocation.Allocation.{Allocation}
use Rattle.ns_types.specs.declared.snapshot.LiveAllocation.{LiveAllocation}
use Rattle.ns_types.specs.State.Lists.{by_number}
use Rattle.ns_types.specs.State.Names.{Name}
use Rattle.ns_types.specs.State.Rows.{World, is_live_on}
use Rattle.ns_types.specs.Working.Snapshot.{allocations_on, seen_live}

-- the place comes after the last one; true if there is no last one
abbrev pub is_past : Option ℕ → ℕ → Bool
is_past None place = true
is_past (Some last) place = nat_lt last place

abbrev pub is_until : Option ℕ → ℕ → Bool
is_until last place = not (is_past last place)

-- the live allocations on the node at places up to the last one, in the order in which they were placed
unfoldable pub live_until : World → Name → Name → Option ℕ → List LiveAllocation
live_until w pool node last = map seen_live (by_number (λ a. a.1.1.place)
    (filter (λ a. is_until last a.1.1.place) (allocations_on w pool node)))

-- the live allocations on the node at places after the last one, in the order in which they were placed
unfoldable pub live_after : World → Name → Name → Option ℕ → List LiveAllocation
live_after w pool node last = map seen_live (by_number (λ a. a.1.1.place)
    (filter (λ a. is_past last a.1.1.place) (allocations_on w pool node)))

-- the number of the last entry, or the given one if there is no entry
abbrev pub last_number : {X : Type 0} → Option ℕ → List (ℕ × X) → Option ℕ
last_number last [] = last
last_number last (e ∷ es) = last_number (Some e.0) es

-- ---- one row

-- the row, if it passes
abbrev pub row_if : (Allocation → Bool) → Option Allocation → Option Allocation
row_if passes None = None
row_if passes (Some row) = if passes row then Some row else None

abbrev pub is_live_until : Name → Name → Option ℕ → Allocation → Bool
is_live_until pool node last row = is_live_on pool node row && is_until last row.place

-- the row, if it is live on the node at a place up to the last one
abbrev pub row_until : Name → Name → Option ℕ → Option Allocation → Option Allocation
row_until pool node last = row_if (is_live_until pool node last)
