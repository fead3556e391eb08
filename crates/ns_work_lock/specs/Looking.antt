-- Looks at a worker, and at the worker whose plan is next.
use Rattle.std.specs.Prelude.{◌≡◌, ◌<◌, ℕ, Bool, true, false, ◌&&◌, Option, Some, None, MatchOption, nat_eq}
use Rattle.std.specs.Option.{option_map_or}
use Rattle.ns_types.specs.declared.worker.Phase.{Phase}
use Rattle.ns_types.specs.State.Names.{Key, Name, same_name}
use Rattle.ns_types.specs.State.Rows.{World}
use Rattle.ns_types.specs.Working.Looks.{first_plan, row_of, worker_at}
use Rattle.ns_types.specs.Working.Work.{workers_end}
use Rattle.ns_work_lock.specs.declared.changes.BusyWorker.{BusyWorker}
use Rattle.ns_work_lock.specs.declared.changes.Planner.{Planner}

abbrev pub fields_of : BusyWorker → Name × ℕ × Phase × ℕ
fields_of b = (b.namespace, b.evaluation, b.phase, b.tries)

-- ---- a worker that is busy with an evaluation

abbrev pub is_busy_with : World → ℕ → Key → Bool
is_busy_with w worker key =
    option_map_or (λ row. same_name row.0 key.0 && nat_eq row.1.evaluation key.1) (row_of w worker) false

-- the worker's row in the evaluation's namespace has the evaluation
abbrev pub has_evaluation : World → ℕ → Key → Bool
has_evaluation w worker key = option_map_or (λ row. nat_eq row.evaluation key.1) (worker_at w worker key.0) false

-- the first worker that is busy with the evaluation, with its namespace, if there is one
abbrev pub IsFirstAt : World → Key → Option Planner → Type 0
IsFirstAt w key None = (k : ℕ) → k < workers_end → is_busy_with w k key ≡ false
IsFirstAt w key (Some planner) =
    (planner.namespace ≡ key.0) × (is_busy_with w planner.worker key ≡ true) ×
    ((k : ℕ) → k < planner.worker → is_busy_with w k key ≡ false)

-- the first worker that is busy with the evaluation whose plan is next, if there is one
abbrev pub IsFirstPlanner : World → Option Planner → Type 0
IsFirstPlanner w found = MatchOption (first_plan w) (found ≡ None) (λ key. IsFirstAt w key found)
