-- Tables of rows with a counter.
use Rattle.std.specs.Prelude.{◌≡◌, Bool, false, Option, Some}
use Rattle.std.specs.FinMap.{FinMap}
use Rattle.keyed.specs.Table.{row_at}
use Rattle.ns_types.specs.State.Names.{Name, name_cmp}

-- the counter of no row is at its bound
abbrev pub NoneAtBound : {V : Type 0} → (V → Bool) → FinMap name_cmp (Option V) → Type 0
NoneAtBound {V = V} at_bound m = (name : Name) (row : V) → row_at m name ≡ Some row → at_bound row ≡ false
