-- A table with changes made to its rows.
use Rattle.std.specs.Prelude.{◌++◌, Option, Some, None, IsTrue}
use Rattle.std.specs.declared.cmp.Ordering.{Ordering}
use Rattle.std.specs.FinMap.{FinMap, entries, from_entries, insert, remove}
use Rattle.keyed.specs.Table.{rows, has_slot}
use Rattle.ns_types.specs.State.Tables.{table_of}

module _ {K X : Type 0} {R : K → K → Ordering} where
  -- a slot with a row is the row's new value, a vacant one takes the row away, and the other rows stay
  unfoldable pub over : FinMap R X → FinMap R (Option X) → FinMap R X
  over m o = rows (from_entries (entries o ++ entries (table_of (λ _ x. Some x) m)))

  -- the table has a slot for each changed row, so that the changes can be made without memory
  abbrev pub HasRoomFor : FinMap R (Option X) → FinMap R (Option X) → Type 0
  HasRoomFor o m = (k : K) → IsTrue (has_slot o k) → IsTrue (has_slot m k)

  -- the table with one row changed
  abbrev pub put_in : FinMap R X → K × Option X → FinMap R X
  put_in m (k, None) = remove m k
  put_in m (k, Some x) = insert m k x
