-- The name under which the number of a row is filed: that of its job.
use Rattle.std.specs.Prelude.{◌≡◌, ℕ, Bool, false, not, if◌then◌else◌, ◌&&◌, IsTrue, List, Option, Some, None, map}
use Rattle.std.specs.Option.{option_map_or}
use Rattle.std.specs.FinMap.{get}
use Rattle.keyed.specs.Levels.{holds_key, holds_number, has_key_room}
use Rattle.keyed.specs.Table.{row_at}
use Rattle.keyed.specs.declared.key_set.KeySet.{KeySet}
use Rattle.ns_types.specs.State.Names.{ByNumber, Key, Name, same_key, same_name}
use Rattle.ns_types.specs.declared.allocation.Allocation.{Allocation}
use Rattle.ns_types.specs.declared.evaluation.Evaluation.{Evaluation}
use Rattle.ns_types.specs.declared.evaluation.Status.{Status}

-- ---- the name of a row

abbrev pub allocation_job : Allocation → Option Name
allocation_job a = Some a.job

abbrev pub evaluation_job : Evaluation → Option Name
evaluation_job e = Some e.job

-- the job of an evaluation whose status passes
abbrev pub job_where : (Status → Bool) → Evaluation → Option Name
job_where passes e = if passes e.status then Some e.job else None

-- ---- by this name

module _ {X : Type 0} (name_of : X → Option Name) where
  -- the name of a row; none if there is no row, or it has no name
  abbrev pub name_at : Option X → Option Name
  name_at row = option_map_or name_of row None

  -- there is a row, and this is its name
  abbrev pub stands_under : Name → Option X → Bool
  stands_under name row = option_map_or (same_name name) (name_at row) false

  -- the set holds a number under a name if and only if the row of that number has that name
  abbrev pub IsIndexOf : KeySet → ByNumber X → Type 0
  IsIndexOf set rows = (key : Key) → holds_key set key ≡ stands_under key.0 (get rows key.1)

  -- these are the numbers of all rows that have the name, and of no others
  abbrev pub AreNumbersUnder : Name → ByNumber (Option X) → Option (ByNumber (Option Unit)) → Type 0
  AreNumbersUnder name slots numbers =
      (n : ℕ) → option_map_or (λ m. holds_number m n) numbers false ≡ stands_under name (row_at slots n)

  -- room for the number of a slot's row under its name
  abbrev pub HasRoomAt : KeySet → ℕ × Option X → Type 0
  HasRoomAt set slot = (name : Name) → name_at slot.1 ≡ Some name → IsTrue (has_key_room set (name, slot.0))

  -- ---- one change after another

  -- the key is the name of the slot's row with the slot's number
  abbrev pub is_filed : ℕ × Option X → Key → Bool
  is_filed slot key = option_map_or (λ name. same_key key (name, slot.0)) (name_at slot.1) false

  -- the number was under the key with the row before, and is not with the slot's row
  abbrev pub is_left : ByNumber (Option X) → ℕ × Option X → Key → Bool
  is_left before slot key = is_filed (slot.0, row_at before slot.0) key && not (is_filed slot key)

-- the rows at these numbers
abbrev pub slots_at : {X : Type 0} → ByNumber (Option X) → List (ℕ × Option Unit) → List (ℕ × Option X)
slots_at slots numbers = map (λ e. (e.0, row_at slots e.0)) numbers
