-- The allocations that a step ends: one change, made to the row at each of a list of keys.
-- Neither the headline nor the wire rests on this: code that changes many rows, and laws of what that frees, are specified by it.
use Rattle.std.specs.Prelude.{ℕ, cond, List, fold}
use Rattle.std.specs.FinMap.{get, insert}
use Rattle.std.specs.Option.{option_map_or}
use Rattle.ns_types.specs.declared.allocation.Allocation.{Allocation}
use Rattle.ns_types.specs.Settling.Making.{change_tenant}
use Rattle.ns_types.specs.State.Names.{Name, Key, has_key}
use Rattle.ns_types.specs.State.Rows.{World, Tenant}
use Rattle.ns_types.specs.State.Tables.{map_rows}

-- the allocation with that number, if there is one, is changed by g
abbrev pub with_row : ℕ → (Allocation → Allocation) → Tenant → Tenant
with_row n g t = option_map_or (λ a. record t { allocations = insert t.allocations n (g a) }) (get t.allocations n) t

abbrev pub row_gone : (Allocation → Allocation) → World → Key → World
row_gone g w key = change_tenant key.0 (with_row key.1 g) w

abbrev pub rows_gone : (Allocation → Allocation) → World → List Key → World
rows_gone g w keys = fold (row_gone g) w keys

-- the same change, row by row: an allocation is changed if its key is in the list
abbrev pub gone_row : (Allocation → Allocation) → List Key → Name → ℕ → Allocation → Allocation
gone_row g keys ns n a = cond (has_key keys (ns, n)) (g a) a

abbrev pub gone_in : (Allocation → Allocation) → List Key → Name → Tenant → Tenant
gone_in g keys ns t = record t { allocations = map_rows (gone_row g keys ns) t.allocations }
