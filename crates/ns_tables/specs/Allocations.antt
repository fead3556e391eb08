-- A namespace's allocations by number, their numbers by job, and the total that is kept of what the live ones take together.
use Rattle.std.specs.Prelude.{ℕ, ◌+◌, cond, List, Option, sum_by}
use Rattle.std.specs.Option.{option_map_or}
use Rattle.std.specs.FinMap.{entries}
use Rattle.keyed.specs.Over.{HasRoomFor}
use Rattle.keyed.specs.Table.{row_at, rows}
use Rattle.keyed.specs.declared.key_set.KeySet.{KeySet}
use Rattle.ns_types.specs.State.Lists.{Each}
use Rattle.ns_types.specs.State.Names.{ByNumber}
use Rattle.ns_types.specs.State.Resources.{each_resource, quantity}
use Rattle.ns_types.specs.State.Rows.{is_live}
use Rattle.ns_types.specs.declared.allocation.Allocation.{Allocation}
use Rattle.ns_types.specs.declared.resources.Resources.{Resources}
use Rattle.ns_tables.specs.Filing.{HasRoomAt, IsIndexOf, allocation_job}
use Rattle.ns_types.specs.State.Resources.{IsAlike, IsTotal}

pub record AllocationTable : Type 0 where
  pub slots : ByNumber (Option Allocation)
  -- the numbers of each job's allocations, as keys of a job and a number
  pub jobs : KeySet

-- room for each changed row, and for its number among those of its job
pub record HasAllocationRoom (changes : ByNumber (Option Allocation)) (t : AllocationTable) : Type 0 where
  pub slots : HasRoomFor changes t.slots
  pub jobs : Each (HasRoomAt allocation_job t.jobs) (entries changes)

-- ---- the total

-- the sum of an amount over the live rows
abbrev pub live_sum : (Resources → ℕ) → ByNumber Allocation → ℕ
live_sum amount m = sum_by (λ e. cond (is_live e.1) (amount e.1.size) 0) (entries m)

abbrev pub rows_use : ByNumber Allocation → Resources
rows_use m = each_resource (λ r. live_sum (quantity r) m)

-- what the live rows of the slots take together
abbrev pub live_use : ByNumber (Option Allocation) → Resources
live_use slots = rows_use (rows slots)

abbrev pub IsTotalOf : Resources → ByNumber (Option Allocation) → Type 0
IsTotalOf total slots = IsTotal total (live_use slots)

-- the numbers are filed by job, and the sum is the total of the live rows
pub record IsKept (numbers : KeySet) (sum : Resources) (slots : ByNumber (Option Allocation)) : Type 0 where
  pub jobs : IsIndexOf allocation_job numbers (rows slots)
  pub total : IsTotalOf sum slots

-- ---- changed rows

-- what a row takes: 0 if there is none, or if it is not live
abbrev pub row_amount : (Resources → ℕ) → Option Allocation → ℕ
row_amount amount row = option_map_or (λ a. cond (is_live a) (amount a.size) 0) row 0

abbrev pub row_use : Option Allocation → Resources
row_use row = each_resource (λ r. row_amount (quantity r) row)

-- what the changed rows take
abbrev pub use_after : (Resources → ℕ) → List (ℕ × Option Allocation) → ℕ
use_after amount changes = sum_by (λ e. row_amount amount e.1) changes

-- what the rows at their numbers took before
abbrev pub use_before : (Resources → ℕ) → ByNumber (Option Allocation) → List (ℕ × Option Allocation) → ℕ
use_before amount slots changes = sum_by (λ e. row_amount amount (row_at slots e.0)) changes

-- the new total has what the changed rows take, and no longer what the rows before them took
abbrev pub IsMoved : (Resources → ℕ) → ByNumber (Option Allocation) → List (ℕ × Option Allocation) → Resources →
    Resources → Type 0
IsMoved amount slots changes old new =
    IsAlike (amount new + use_before amount slots changes) (amount old + use_after amount changes)
