-- Laws of the lists of evaluations: which evaluation comes next, which ones wake, and which one waits first.
use Rattle.std.specs.Prelude.{◌≡◌, ◌<◌, ◌≤◌, ◌&&◌, false, List, [], ◌∷◌, ◌++◌, Some, None, IsTrue, ℕ, IsFalse}
use Rattle.std.specs.Option.{option_map_or}
use Rattle.ns_types.specs.declared.evaluation.Evaluation.{Evaluation}
use Rattle.ns_types.specs.State.Lists.{Each}
use Rattle.ns_types.specs.State.Names.{Key, has_key, Name}
use Rattle.ns_types.specs.Working.Queue.{served, priority_at, first_waiting}
use Rattle.ns_types.specs.Settling.Releases.{woken, wakes}
use Rattle.ns_types.specs.State.Rows.{World, evaluation_at, is_blocked, Tenant, is_pending}
use Rattle.ns_types.specs.Validity.{IsSound}
use Rattle.ns_laws.specs.Sublist.{IsSublist}
use Rattle.std.specs.FinMap.{get}

-- ---- the next evaluation

-- the key is in the list, no key of the list has a greater priority, and each key before it has a lower one
pub record IsFirstOfGreatest (w : World) (keys : List Key) (key : Key) : Type 0 where
  pub before : List Key
  pub later : List Key
  pub listed : keys ≡ before ++ key ∷ later
  pub none_greater : Each (λ other. priority_at w other ≤ priority_at w key) keys
  pub less_before : Each (λ other. priority_at w other < priority_at w key) before

-- The next evaluation of a list is the first of those with the greatest priority.
abbrev pub ServedIsFirst : Type 0
ServedIsFirst = (w : World) (keys : List Key) (key : Key) → served w keys ≡ Some key → IsFirstOfGreatest w keys key

-- Conversely, the first of those with the greatest priority is the next one.
abbrev pub FirstIsServed : Type 0
FirstIsServed = (w : World) (keys : List Key) (key : Key) → IsFirstOfGreatest w keys key → served w keys ≡ Some key

-- If a list has no next evaluation, it is empty.
abbrev pub NoneServedOfNone : Type 0
NoneServedOfNone = (w : World) (keys : List Key) → served w keys ≡ None → keys ≡ []

-- ---- the evaluations that wake

-- Blocked evaluations wake in the order in which they stand in `blocked`.
abbrev pub WokenInOrder : Type 0
WokenInOrder = (w w' : World) → IsSublist (woken w w') w.blocked

-- Exactly those evaluations wake that were in `blocked` before the step, are still there after its own change, and that
-- one of its releases wakes.
abbrev pub WokenAreCalled : Type 0
WokenAreCalled = (w w' : World) (key : Key) → has_key (woken w w') key
    ≡ (has_key w.blocked key && (has_key w'.blocked key && option_map_or (wakes w w') (evaluation_at w key) false))

abbrev pub IsBlockedAt : World → Key → Type 0
IsBlockedAt w key = (row : Evaluation) × (evaluation_at w key ≡ Some row) × IsTrue (is_blocked row.status)

-- In a sound world, each evaluation that wakes had the status `blocked` before the step.
abbrev pub WokenWereBlocked : Type 0
WokenWereBlocked = (w w' : World) → IsSound w → Each (IsBlockedAt w) (woken w w')

-- ---- the evaluation that waits first

-- the evaluation is a pending one of the job, and no other such evaluation has a lesser number
pub record IsFirstWaiting (t : Tenant) (job : Name) (n : ℕ) : Type 0 where
  pub row : Evaluation
  pub there : get t.evaluations n ≡ Some row
  pub of_job : row.job ≡ job
  pub pending : IsTrue (is_pending row.status)
  pub least : (m : ℕ) (other : Evaluation) → get t.evaluations m ≡ Some other → other.job ≡ job →
      IsTrue (is_pending other.status) → n ≤ m

-- If a job has a first waiting evaluation, it is the job's pending evaluation with the least number.
abbrev pub FirstWaitingIsLeast : Type 0
FirstWaitingIsLeast = (t : Tenant) (job : Name) (n : ℕ) → first_waiting job t ≡ Some n → IsFirstWaiting t job n

-- If a job has no first waiting evaluation, none of its evaluations is pending.
abbrev pub NoneWaitsOfNone : Type 0
NoneWaitsOfNone = (t : Tenant) (job : Name) (n : ℕ) (row : Evaluation) → first_waiting job t ≡ None →
    get t.evaluations n ≡ Some row → row.job ≡ job → IsFalse (is_pending row.status)
