-- Laws of turns: an idle worker takes the evaluation that is next, the plan that is next is applied, and none is stuck.
use Rattle.std.specs.Prelude.{◌≡◌, ◌≢◌, ◌↔◌, ◌<◌, ℕ, Some, None, IsTrue}
use Rattle.ns_types.specs.declared.step.Step.{Step}
use Rattle.ns_types.specs.Steps.{after}
use Rattle.ns_types.specs.State.Names.{Key, Name, has_key}
use Rattle.ns_types.specs.State.Rows.{State, World}
use Rattle.ns_types.specs.Validity.{IsValid}
use Rattle.ns_types.specs.Working.Looks.{first_plan, row_of, served_ready, worker_at}
use Rattle.ns_types.specs.Working.Worker.{Worker}
use Rattle.ns_laws.specs.Queue.{IsFirstOfGreatest}

-- The evaluation that the server shows as the next one to take is the first of those ready with the greatest priority.
abbrev pub NextIsShown : Type 0
NextIsShown = (w : World) (key : Key) → (served_ready w ≡ Some key) ↔ IsFirstOfGreatest w w.ready key

-- The plan that the server shows as the next one to apply is the first of the submitted ones with the greatest priority.
abbrev pub NextPlanIsShown : Type 0
NextPlanIsShown = (w : World) (key : Key) → (first_plan w ≡ Some key) ↔ IsFirstOfGreatest w w.plans key

-- the worker is busy for no namespace
abbrev pub IsIdle : World → ℕ → Type 0
IsIdle w number = (ns : Name) → worker_at w number ns ≡ None

-- The server shows no row of a worker exactly if the worker is idle.
abbrev pub IdleIsShown : Type 0
IdleIsShown = (w : World) (number : ℕ) → (row_of w number ≡ None) ↔ IsIdle w number

-- The row that the server shows of a busy worker is the worker's in the namespace that it shows.
abbrev pub BusyIsShown : Type 0
BusyIsShown = (w : World) (number : ℕ) (ns : Name) (worker : Worker) → row_of w number ≡ Some (ns, worker)
    → worker_at w number ns ≡ Some worker

-- it is one of the 64 workers, it is idle, and of those ready with the greatest priority the evaluation is the first
abbrev pub MayTake : World → ℕ → Key → Type 0
MayTake w number key = (number < 64) × IsIdle w number × IsFirstOfGreatest w w.ready key

-- In a valid state, a worker can take an evaluation exactly if it is idle and the evaluation is the next one.
abbrev pub NextIsTaken : Type 0
NextIsTaken = (s : State) (number : ℕ) (ns : Name) (n : ℕ) → IsValid s →
    (after (Step.Dequeue number ns n) s ≢ None) ↔ MayTake s.world number (ns, n)

-- the worker is busy for the namespace, and of the submitted plans with the greatest priority its own is the first
abbrev pub HasFirstPlan : World → ℕ → Name → Type 0
HasFirstPlan w number ns = (worker : Worker) × (worker_at w number ns ≡ Some worker) ×
    IsFirstOfGreatest w w.plans (ns, worker.evaluation)

-- In a valid state, a worker's plan can be applied exactly if it is the next one.
abbrev pub NextPlanIsApplied : Type 0
NextPlanIsApplied = (s : State) (number : ℕ) (ns : Name) → IsValid s →
    (after (Step.Apply number ns) s ≢ None) ↔ HasFirstPlan s.world number ns

-- its plan is in the list of submitted plans, or it can look, submit its plan or end its evaluation
pub data CanGoOn (s : State) (number : ℕ) (ns : Name) (worker : Worker) : Type 0 where
  awaits : IsTrue (has_key s.world.plans (ns, worker.evaluation)) → CanGoOn s number ns worker
  looks : after (Step.Snap number ns) s ≢ None → CanGoOn s number ns worker
  submits : after (Step.Submit number ns) s ≢ None → CanGoOn s number ns worker
  finishes : after (Step.Finish number ns) s ≢ None → CanGoOn s number ns worker

-- In a valid state, no busy worker is stuck: it can go on without giving its evaluation back.
abbrev pub NoWorkerIsStuck : Type 0
NoWorkerIsStuck = (s : State) (number : ℕ) (ns : Name) (worker : Worker) → IsValid s →
    worker_at s.world number ns ≡ Some worker → CanGoOn s number ns worker
