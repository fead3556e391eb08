-- The rows of tables, as the model has them.
use Rattle.std.specs.Prelude.{◌≡◌, Option, Some}
use Rattle.std.specs.declared.cmp.Ordering.{Ordering}
use Rattle.std.specs.FinMap.{FinMap}
use Rattle.keyed.specs.Table.{row_at, rows}
use Rattle.ns_types.specs.State.Tables.{table_of}

module _ {K V : Type 0} {R : K → K → Ordering} where
  abbrev pub seen_rows : {A : Type 0} → (V → A) → FinMap R (Option V) → FinMap R A
  seen_rows seen m = table_of (λ _ row. seen row) (rows m)

  -- each row of the table meets the condition
  abbrev pub EachRow : (V → Type 0) → FinMap R (Option V) → Type 0
  EachRow So m = (k : K) (row : V) → row_at m k ≡ Some row → So row
