-- Tables: finite maps from keys to slots. A slot has a row, or is vacant: room for a row.
use Rattle.std.specs.Prelude.{◌≡◌, ℕ, ◌<◌, ◌≤◌, IsTrue, Bool, false, cond, List, [], ◌∷◌, is_some, Option, Some, None}
use Rattle.std.specs.Ordering.{nat_cmp}
use Rattle.std.specs.declared.cmp.Ordering.{Ordering}
use Rattle.std.specs.FinMap.{contains_key, entries, FinMap, from_sorted, get, insert, remove}

-- the row of a slot, if there is a slot and it has a row
abbrev pub flat : {X : Type 0} → Option (Option X) → Option X
flat None = None
flat (Some x) = x

module _ {K V : Type 0} where
  -- the slots' rows, with their keys
  abbrev pub with_row : K → Option V → List (K × V) → List (K × V)
  with_row k None es = es
  with_row k (Some v) es = (k, v) ∷ es

  abbrev pub row_list : List (K × Option V) → List (K × V)
  row_list [] = []
  row_list (e ∷ es) = with_row e.0 e.1 (row_list es)

  -- the slot has a row, and the row passes the test
  abbrev pub at_slot : (K × V → Bool) → K × Option V → Bool
  at_slot p (k, None) = false
  at_slot p (k, Some v) = p (k, v)

module _ {K V : Type 0} {R : K → K → Ordering} where
  -- the rows of a table
  unfoldable pub rows : FinMap R (Option V) → FinMap R V
  rows m = from_sorted (row_list (entries m))

  -- there is a slot for the key, so that a row there takes no memory
  abbrev pub has_slot : FinMap R (Option V) → K → Bool
  has_slot m k = contains_key m k

  -- with a slot for the key
  abbrev pub with_slot : FinMap R (Option V) → K → FinMap R (Option V)
  with_slot m k = cond (has_slot m k) m (insert m k None)

  -- with the slot of the key vacant, if there is one
  abbrev pub emptied : FinMap R (Option V) → K → FinMap R (Option V)
  emptied m k = cond (has_slot m k) (insert m k None) m

  -- without the slot of the key, if it is vacant
  abbrev pub without_vacant : FinMap R (Option V) → K → FinMap R (Option V)
  without_vacant m k = cond (is_some (flat (get m k))) m (remove m k)

  -- the row at the key
  abbrev pub row_at : FinMap R (Option V) → K → Option V
  row_at m k = flat (get m k)

  -- with that row at the key, unless there is one
  abbrev pub added : FinMap R (Option V) → K → V → FinMap R (Option V)
  added m k v = cond (is_some (row_at m k)) m (insert m k (Some v))

  -- no slot is lost
  abbrev pub KeepsSlots : FinMap R (Option V) → FinMap R (Option V) → Type 0
  KeepsSlots old new = (k : K) → IsTrue (has_slot old k) → IsTrue (has_slot new k)

module _ {V : Type 0} where
  -- the number of the first row from `from` on; none if there is none
  abbrev pub IsNextRow : FinMap nat_cmp (Option V) → ℕ → Option ℕ → Type 0
  IsNextRow m from None = (n : ℕ) → from ≤ n → row_at m n ≡ None
  IsNextRow m from (Some k) =
      (from ≤ k) × IsTrue (is_some (row_at m k)) × ((n : ℕ) → from ≤ n → n < k → row_at m n ≡ None)
