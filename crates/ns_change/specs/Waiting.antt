-- The first row by number that passes a test.
use Rattle.std.specs.Prelude.{◌≡◌, ℕ, ◌<◌, Bool, true, false, not, ◌&&◌, Option, Some, None, option_map}
use Rattle.std.specs.Prelude.{find, min}
use Rattle.std.specs.Option.{option_map_or}
use Rattle.std.specs.Ordering.{nat_cmp}
use Rattle.std.specs.FinMap.{FinMap, contains_key, entries, get}
use Rattle.ns_types.specs.declared.evaluation.Evaluation.{Evaluation}
use Rattle.ns_types.specs.declared.evaluation.Status.{Status}
use Rattle.ns_types.specs.State.Rows.{is_blocked, is_pending}
use Rattle.ns_types.specs.State.Names.{Name, same_name}

abbrev pub first : {X : Type 0} → (ℕ → X → Bool) → FinMap nat_cmp X → Option ℕ
first p m = option_map (λ e. e.0) (find (λ e. p e.0 e.1) (entries m))

-- no number passes, or this is the least that passes
abbrev pub Leads : (ℕ → Bool) → Option ℕ → Type 0
Leads passes None = (q : ℕ) → passes q ≡ false
Leads passes (Some k) = (passes k ≡ true) × ((q : ℕ) → q < k → passes q ≡ false)

-- whether the row of that number passes
abbrev pub row_passes : {X : Type 0} → (ℕ → X → Bool) → FinMap nat_cmp X → ℕ → Bool
row_passes p m q = option_map_or (p q) (get m q) false

abbrev pub IsFirst : {X : Type 0} → (ℕ → X → Bool) → FinMap nat_cmp X → Option ℕ → Type 0
IsFirst p m r = Leads (row_passes p m) r

-- the lesser of two numbers, or the one that is there
abbrev pub lesser : Option ℕ → Option ℕ → Option ℕ
lesser None b = b
lesser (Some a) None = Some a
lesser (Some a) (Some b) = Some (min a b)

-- the table's row of that number passes, and the change has no slot for it
abbrev pub unheld_passes : {X : Type 0} → (ℕ → X → Bool) → FinMap nat_cmp X → FinMap nat_cmp (Option X) → ℕ → Bool
unheld_passes p m c q = not (contains_key c q) && row_passes p m q

-- whether the evaluation is of the job and its status passes
abbrev pub of_job : (Status → Bool) → Name → ℕ → Evaluation → Bool
of_job is job _ e = same_name job e.job && is e.status

-- whether a status is the wanted one, which is pending or blocked
abbrev pub stands : Status → Status → Bool
stands Status.Pending s = is_pending s
stands Status.Blocked s = is_blocked s
stands _ s = false

abbrev pub standing : Status → Name → ℕ × Evaluation → Bool
standing wanted job e = of_job (stands wanted) job e.0 e.1
