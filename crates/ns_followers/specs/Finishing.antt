-- What a worker's finish answers and changes, by the plan of the snapshot that its row keeps.
use Rattle.std.specs.Prelude.{◌≡◌, ℕ, ◌+◌, ◌≤◌, Bool, true, ◌&&◌, ◌||◌, Some, Result, Ok, Err, nat_lt}
use Rattle.std.specs.FinMap.{get}
use Rattle.ns_types.specs.declared.evaluation.Evaluation.{Evaluation}
use Rattle.ns_types.specs.declared.refusal.Refusal.{Refusal}
use Rattle.ns_types.specs.declared.snapshot.Snapshot.{Snapshot}
use Rattle.ns_types.specs.Settling.Outcome.{NotEnabled}
use Rattle.ns_types.specs.State.Names.{Name}
use Rattle.ns_types.specs.State.Rows.{World, Tenant, is_pending}
use Rattle.ns_types.specs.Steps.{greatest}
use Rattle.ns_types.specs.Validity.{IsSound}
use Rattle.ns_types.specs.Working.Looks.{InEnding, RefusesFinish}
use Rattle.ns_types.specs.Working.Work.{finish, may_finish}
use Rattle.ns_types.specs.Working.Worker.{Worker}
use Rattle.ns_broker.specs.Snapping.{kept_at}
use Rattle.ns_change.specs.declared.change.Prepared.{Prepared}
use Rattle.ns_change.specs.Prepared.{Prepares, bounded}
use Rattle.ns_tables.specs.declared.tables.Tables.{Tables}
use Rattle.ns_tables.specs.World.{world_of}

-- the evaluation that the worker has is pending, and its number is one that was given
abbrev pub HasPendingWork : World → ℕ → Name → Type 0
HasPendingWork w number ns = (t : Tenant) (worker : Worker) (e : Evaluation) → get w.tenants ns ≡ Some t →
    get t.workers number ≡ Some worker → get t.evaluations worker.evaluation ≡ Some e →
    (is_pending e.status ≡ true) × (worker.evaluation ≤ t.evaluation_number)

-- In a valid world each worker's evaluation is pending, and its number is one that was given.
abbrev pub SoundHasPendingWork : Type 0
SoundHasPendingWork = (w : World) → IsSound w → (number : ℕ) (ns : Name) → HasPendingWork w number ns

-- the worker may finish by that plan: its work on the evaluation is at an end, the plan is of the snapshot that it
-- keeps, and the plan was submitted or does nothing
pub record IsAdmitted (w : World) (number : ℕ) (ns : Name) (planned : Snapshot) (worker : Worker) : Type 0 where
  pub at_end : InEnding w number ns worker
  pub kept : worker.kept ≡ Some planned
  pub may : may_finish worker planned ≡ true

-- the namespace's next index would pass its bound, or a follower is made and its number would
abbrev pub passes_bound : Bool → Tenant → Bool
passes_bound follows t = nat_lt greatest (t.index + 1) || (follows && nat_lt greatest (t.evaluation_number + 1))

-- The step is the model's, of the snapshot that the worker keeps; or the finish is refused. Want of memory comes last,
-- where the step would have been made.
abbrev pub Finishes : ℕ → Name → Snapshot → Tables → Result Prepared Refusal → Type 0
Finishes number ns planned t (Ok x) = (kept_at (world_of t) number ns ≡ Some planned) ×
    Prepares (bounded (world_of t) (finish number ns (world_of t))) t (Ok x)
Finishes number ns planned t (Err Refusal.Memory) = (kept_at (world_of t) number ns ≡ Some planned) ×
    Prepares (bounded (world_of t) (finish number ns (world_of t))) t (Err Refusal.Memory)
Finishes number ns planned t (Err Refusal.Full) = (kept_at (world_of t) number ns ≡ Some planned) ×
    Prepares (bounded (world_of t) (finish number ns (world_of t))) t (Err Refusal.Full)
Finishes number ns planned t (Err refusal) = RefusesFinish (world_of t) number ns planned refusal

-- If a finish is refused with `NotEnabled`, the model's step is not enabled.
abbrev pub RefusedIsNotEnabled : Type 0
RefusedIsNotEnabled = (w : World) (number : ℕ) (ns : Name) (planned : Snapshot) →
    RefusesFinish w number ns planned Refusal.NotEnabled → finish number ns w ≡ NotEnabled
