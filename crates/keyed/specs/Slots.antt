-- A table as a list of slots whose keys strictly rise. A slot has a row, or is vacant: room for a row.
use Rattle.std.specs.Prelude.{◌≡◌, ℕ, ◌<◌, ◌≤◌, T, length, Bool, cond, not, List, is_some, Result, Ok, Err, Option}
use Rattle.std.specs.Prelude.{Some, None, IfSome, IsSomeAnd}
use Rattle.std.specs.declared.cmp.Ordering.{Ordering}
use Rattle.std.specs.declared.cmp.Ordering.TheVariants.{Greater}
use Rattle.std.specs.Ordering.{eq_by_cmp}
use Rattle.std.specs.List.{filter, insert, remove}
use Rattle.std.specs.Map.{keys_of}
use Rattle.std.proofs.Common.{get_or, set}
use Rattle.std.specs.FinMap.Entries.{find, put, is_sorted}
use Rattle.keyed.specs.Table.{flat, row_list}

module _ {K X : Type 0} (R : K → K → Ordering) where
  -- the entries without the key
  abbrev pub without : K → List (K × X) → List (K × X)
  without k = filter (λ e. not (eq_by_cmp R k e.0))

module _ {K V : Type 0} (R : K → K → Ordering) where
  -- the keys of the slots strictly rise, and `filled` of the slots have a row
  abbrev pub IsTable : List (K × Option V) → ℕ → Type 0
  IsTable es filled = T (is_sorted R es) × (filled ≡ length (row_list es))

-- ---- what is known of the keys, without a search: all of them in their order, or nothing

module _ {K X : Type 0} where
  abbrev pub Knows : Option (List K) → List (K × X) → Type 0
  Knows known es = IfSome known (λ keys. keys ≡ keys_of es)

module _ {K : Type 0} where
  -- after a key was put at a place, the keys that were known are known with this one, or nothing is known
  abbrev pub Inserts : ℕ → K → Option (List K) → Option (List K) → Type 0
  Inserts place key old new =
      IfSome new (λ keys. IsSomeAnd old (λ before. keys ≡ insert before place key))

-- ---- the place of a key

module _ {K X : Type 0} (R : K → K → Ordering) where
  -- the key is above those of the entries before n
  abbrev pub Passed : K → List (K × X) → ℕ → Type 0
  Passed k es n = (j : ℕ) (d : K × X) → j < n → j < length es → R k (get_or es j d).0 ≡ Greater

  -- the entry of the key is at place i
  pub record Stands (k : K) (es : List (K × X)) (i : ℕ) : Type 0 where
    pub within : i < length es
    pub find_is : (d : K × X) → find R k es ≡ Some (get_or es i d).1
    pub put_is : (v : X) (d : K × X) → set es i ((get_or es i d).0, v) ≡ put R k v es
    pub without_is : remove es i ≡ without R k es
    pub put_sorted : (v : X) → T (is_sorted R (put R k v es))
    pub without_sorted : T (is_sorted R (without R k es))
    pub passed : Passed k es i

  -- no entry has the key, which belongs at place i
  pub record Belongs (k : K) (es : List (K × X)) (i : ℕ) : Type 0 where
    pub within : i ≤ length es
    pub find_is : find R k es ≡ None
    pub put_is : (v : X) → insert es i (k, v) ≡ put R k v es
    pub without_is : without R k es ≡ es
    pub put_sorted : (v : X) → T (is_sorted R (put R k v es))
    pub passed : Passed k es i

  -- no entry has the key
  pub record Lacks (k : K) (es : List (K × X)) : Type 0 where
    pub find_is : find R k es ≡ None
    pub without_is : without R k es ≡ es

  -- the place of the key's entry; none if no entry has the key
  abbrev pub Found : K → List (K × X) → Option ℕ → Type 0
  Found k es (Some i) = Stands k es i
  Found k es None = Lacks k es

  -- what a search for the key found: the place of its entry, or the place where it belongs
  abbrev pub Placed : K → List (K × X) → Result ℕ ℕ → Type 0
  Placed k es (Ok i) = Stands k es i
  Placed k es (Err i) = Belongs k es i

module _ {K V : Type 0} (R : K → K → Ordering) where
  -- whether a slot has this key
  abbrev pub has_slot : K → List (K × Option V) → Bool
  has_slot k es = is_some (find R k es)

  -- with a slot for the key, which is vacant unless it was there
  abbrev pub with_slot : K → List (K × Option V) → List (K × Option V)
  with_slot k es = cond (has_slot k es) es (put R k None es)

  -- with that row at the key, unless there is one
  abbrev pub added : K → V → List (K × Option V) → List (K × Option V)
  added k v es = cond (is_some (flat (find R k es))) es (put R k (Some v) es)

  -- with the slot of the key vacant, if there is one
  abbrev pub emptied : K → List (K × Option V) → List (K × Option V)
  emptied k es = cond (has_slot k es) (put R k None es) es

  -- without the slot of the key, if it is vacant
  abbrev pub without_vacant : K → List (K × Option V) → List (K × Option V)
  without_vacant k es = cond (is_some (flat (find R k es))) es (without R k es)

  -- the row at the key
  abbrev pub row : K → List (K × Option V) → Option V
  row k es = flat (find R k es)

module _ {K V : Type 0} where
  abbrev pub is_row : K × Option V → Bool
  is_row e = is_some e.1

  -- the slots that have a row
  abbrev pub filled : List (K × Option V) → List (K × Option V)
  filled es = filter is_row es
