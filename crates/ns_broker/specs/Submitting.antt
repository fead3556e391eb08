-- The outcome of a plan that a worker submits.
use Rattle.std.specs.Prelude.{◌≡◌, ℕ, false, IsTrue, Some, Result, Ok, Err, is_some}
use Rattle.ns_types.specs.declared.refusal.Refusal.{Refusal}
use Rattle.ns_types.specs.declared.snapshot.Snapshot.{Snapshot}
use Rattle.ns_types.specs.declared.worker.Phase.TheVariants as Phase
use Rattle.ns_types.specs.Working.Worker.{Worker}
use Rattle.ns_types.specs.Placing.Plan.{plan, does_nothing}
use Rattle.ns_types.specs.Settling.Making.{change_tenant}
use Rattle.ns_types.specs.Settling.Outcome.{NotEnabled}
use Rattle.ns_types.specs.State.Names.{Name}
use Rattle.ns_types.specs.State.Rows.{World, evaluation_at}
use Rattle.ns_types.specs.Validity.{IsSound}
use Rattle.ns_types.specs.Working.Looks.{InTurn, RefusesPlan, worker_at}
use Rattle.ns_types.specs.Working.Work.{submit, with_worker}
use Rattle.ns_change.specs.declared.change.Prepared.{Prepared}
use Rattle.ns_change.specs.Changed.{with_plan}
use Rattle.ns_change.specs.Prepared.{Prepares}
use Rattle.ns_broker.specs.Snapping.{kept_at}
use Rattle.ns_tables.specs.declared.tables.Tables.{Tables}
use Rattle.ns_tables.specs.World.{world_of}

-- the evaluation that the worker has is there
abbrev pub HasWork : World → ℕ → Name → Type 0
HasWork w number ns = (worker : Worker) → worker_at w number ns ≡ Some worker →
    IsTrue (is_some (evaluation_at w (ns, worker.evaluation)))

-- in a valid world, the evaluation that a worker has is there
abbrev pub SoundHasWork : Type 0
SoundHasWork = (w : World) → IsSound w → (number : ℕ) (ns : Name) → HasWork w number ns

-- the worker may submit that plan: its phase allows it, the plan is of the snapshot that it keeps, and it does something
pub record IsAdmitted (w : World) (number : ℕ) (ns : Name) (planned : Snapshot) (worker : Worker) : Type 0 where
  pub in_turn : InTurn w number ns worker
  pub kept : worker.kept ≡ Some planned
  pub does : does_nothing (plan planned) ≡ false

-- the worker has submitted its plan, which waits behind the others
abbrev pub handed_in : ℕ → Name → Worker → World → World
handed_in number ns worker w = with_plan (ns, worker.evaluation)
    (change_tenant ns (with_worker number (record worker { phase = Phase.Submitted })) w)

-- The step is the model's, for the snapshot that the worker keeps; or the plan is refused. Want of memory comes last, where
-- the step would have been made.
abbrev pub Submits : ℕ → Name → Snapshot → Tables → Result Prepared Refusal → Type 0
Submits number ns planned t (Ok x) =
    (kept_at (world_of t) number ns ≡ Some planned) × Prepares (submit number ns (world_of t)) t (Ok x)
Submits number ns planned t (Err Refusal.Memory) =
    (kept_at (world_of t) number ns ≡ Some planned) × Prepares (submit number ns (world_of t)) t (Err Refusal.Memory)
Submits number ns planned t (Err refusal) = RefusesPlan (world_of t) number ns planned refusal

-- if a plan is refused with `NotEnabled`, the model's step is not enabled
abbrev pub RefusedIsNotEnabled : Type 0
RefusedIsNotEnabled = (w : World) (number : ℕ) (ns : Name) (planned : Snapshot) →
    RefusesPlan w number ns planned Refusal.NotEnabled → submit number ns w ≡ NotEnabled
