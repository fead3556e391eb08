-- What live allocations take together, and the total of it that follows changed rows.
use Rattle.std.specs.Prelude.{◌≡◌, ℕ, ◌+◌, ◌<◌, ◌≤◌, ◌%◌, ◌^◌, cond, List, Option, length, sum_by}
use Rattle.std.proofs.Common.{sym, ap, subst, ◌∙◌, arith, get_or, take}
use Rattle.std.proofs.lemmas.List.{take_all}
use Rattle.std.proofs.lemmas.List.Sums.{sum_by_more}
use Rattle.std.specs.FinMap.{empty, entries}
use Rattle.keyed.proofs.Summed.{before, sum-over}
use Rattle.keyed.proofs.Tables.{get-rows, rows-empty}
use Rattle.keyed.specs.Levels.{holds_key}
use Rattle.keyed.specs.Over.{over}
use Rattle.keyed.specs.Table.{row_at, rows}
use Rattle.keyed.specs.declared.key_set.KeySet.{KeySet}
use Rattle.ns_types.proofs.Amounts.{at, counted_at, every, quantity_none, quantity_of}
use Rattle.ns_types.proofs.Named.{numbers, one_number}
use Rattle.ns_types.proofs.TableRows.{entries_empty}
use Rattle.ns_types.specs.State.Names.{ByNumber, Key}
use Rattle.ns_types.specs.State.Resources.{InEach, IsCounted, Resource, none, quantity}
use Rattle.ns_types.specs.State.Rows.{is_live}
use Rattle.ns_types.specs.declared.allocation.Allocation.{Allocation}
use Rattle.ns_types.specs.declared.resources.Resources.{Resources}
use Rattle.ns_tables.specs.Allocations.{IsKept, IsMoved, IsTotalOf, live_sum, row_amount, row_use, rows_use, use_after, use_before}
use Rattle.ns_tables.specs.Filing.{IsIndexOf, allocation_job}
use Rattle.ns_types.specs.State.Resources.{IsAlike, IsTotal}

pub total_none : (total : Resources) (slots : ByNumber (Option Allocation)) → total ≡ none → slots ≡ empty → IsTotalOf total slots
total_none total slots none_yet is = every (λ r. quantity r total ≡ live_sum (quantity r) (rows slots) % 2 ^ 64) (λ r.
    ap (quantity r) none_yet ∙ quantity_none r ∙ sym (ap (λ n. n % 2 ^ 64) (no_use (quantity r))))
  where
    no_use : (amount : Resources → ℕ) → live_sum amount (rows slots) ≡ 0
    no_use amount = ap (live_sum amount) (ap rows is ∙ rows-empty) ∙ ap (sum_by (λ (e : ℕ × Allocation). cond (is_live e.1) (amount e.1.size) 0))
        (entries_empty numbers one_number)

-- vacant slots take nothing
total_stays : (total : Resources) (slots after : ByNumber (Option Allocation)) → IsTotalOf total slots → rows after ≡ rows slots → IsTotalOf total after
total_stays total slots after h same = subst (λ m. IsTotal total (rows_use m)) (sym same) h

-- a set of the same keys is right for the same rows
pub still_kept : (old new : KeySet) (total : Resources) (slots after : ByNumber (Option Allocation)) → IsKept old total slots →
    ((key : Key) → holds_key new key ≡ holds_key old key) → rows after ≡ rows slots → IsKept new total after
still_kept old new total slots after h held same = record {
  jobs = λ key. held key ∙ subst (IsIndexOf allocation_job old) (sym same) h.jobs key;
  total = total_stays total slots after h.total same;
}

-- ---- changed rows

pub amount_of_use : (row : Option Allocation) (r : Resource) → quantity r (row_use row) ≡ row_amount (quantity r) row
amount_of_use row = quantity_of (λ r. row_amount (quantity r) row)

module _ (amount : Resources → ℕ) (slots : ByNumber (Option Allocation)) (changes : List (ℕ × Option Allocation)) (total : Resources) where
  pub moved_next : (i : ℕ) (e : ℕ × Option Allocation) (sum next : Resources) (then now : ℕ) → i < length changes → e ≡ get_or changes i e →
      then ≡ row_amount amount (row_at slots e.0) → now ≡ row_amount amount e.1 → IsAlike (amount next + then) (amount sum + now) →
      IsMoved amount slots (take i changes) total sum → IsMoved amount slots (take (i + 1) changes) total next
  moved_next i e sum next then now lt is then_is now_is one h =
      let gone = sum_by_more (λ (e : ℕ × Option Allocation). row_amount amount (row_at slots e.0)) changes i e lt in
      let come = sum_by_more (λ (e : ℕ × Option Allocation). row_amount amount e.1) changes i e lt in
      let gone_is = ap (λ (e : ℕ × Option Allocation). row_amount amount (row_at slots e.0)) is in
      let come_is = ap (λ (e : ℕ × Option Allocation). row_amount amount e.1) is in
      omega (arith, gone, come, gone_is, come_is, then_is, now_is, one, h)

  pub moved_all : (i : ℕ) (sum : Resources) → length changes ≤ i → IsMoved amount slots (take i changes) total sum → IsMoved amount slots changes total sum
  moved_all i sum past h = subst (λ es. IsMoved amount slots es total sum) (take_all i changes past) h

module _ (slots changes : ByNumber (Option Allocation)) where
  total_amount : (amount : Resources → ℕ) (total new : ℕ) → total ≡ live_sum amount (rows slots) % 2 ^ 64 → new < 2 ^ 64 →
      IsAlike (new + use_before amount slots (entries changes)) (total + use_after amount (entries changes)) →
      new ≡ live_sum amount (over (rows slots) changes) % 2 ^ 64
  total_amount amount total new h small moved =
      let law = sum-over numbers one_number (λ _ a. cond (is_live a) (amount a.size) 0) (rows slots) changes in
      let same_before : sum_by (before numbers one_number (λ _ a. cond (is_live a) (amount a.size) 0) (rows slots)) (entries changes)
      ≡ use_before amount slots (entries changes)
      = λ i. sum_by (λ e. row_amount amount (get-rows numbers slots e.0 i)) (entries changes) in
      omega (arith, law, same_before, h, small, moved)

  pub total_moved : (es : List (ℕ × Option Allocation)) (total new : Resources) → es ≡ entries changes → IsTotalOf total slots → IsCounted new →
      InEach (λ r. IsMoved (quantity r) slots es total new) → IsTotal new (rows_use (over (rows slots) changes))
  total_moved es total new is h counted moved =
      every (λ r. quantity r new ≡ live_sum (quantity r) (over (rows slots) changes) % 2 ^ 64) (λ r.
      total_amount (quantity r) (quantity r total) (quantity r new) (at (λ r. quantity r total ≡ live_sum (quantity r) (rows slots) % 2 ^ 64) h r)
      (counted_at new counted r)
      (subst (λ es. IsMoved (quantity r) slots es total new) is (at (λ r. IsMoved (quantity r) slots es total new) moved r)))
