-- What the calls for a worker's steps do. The calls that take a plan come first.
use Rattle.std.specs.Prelude.{◌≡◌, ℕ, Some, Ok, Err}
use Rattle.ns_types.specs.declared.refusal.Refusal.{Refusal}
use Rattle.ns_types.specs.declared.snapshot.Snapshot.{Snapshot}
use Rattle.ns_types.specs.declared.step.Step.{Step}
use Rattle.ns_types.specs.State.Names.{Name}
use Rattle.ns_types.specs.Steps.{Answer}
use Rattle.ns_types.specs.Working.Looks.{RefusesPlan, RefusesFinish}
use Rattle.ns_broker.specs.Snapping.{kept_at}
use Rattle.ns_driver.specs.declared.worker_step.WorkerStep.{WorkerStep}
use Rattle.ns_driver.specs.WorkerSteps.{worker_step}
use Rattle.ns_work_log.specs.Logs.{History, HasPlace, IsFull, IsLogged, Logs}

-- the plan is of the snapshot that the worker keeps, and the step was made and logged
abbrev pub LogsPlanned : Step → ℕ → Name → Snapshot → History → Answer → History → Type 0
LogsPlanned step worker ns planned old answer new =
    HasPlace old × (kept_at old.state.world worker ns ≡ Some planned) × IsLogged step old answer new

-- A call for Submit hands in a plan of the snapshot that the worker keeps, and the step is logged. A call that makes no step
-- changes nothing: a full log is reported first, and want of memory may come next; then the plan may be refused.
abbrev pub LogsSubmit : ℕ → Name → Snapshot → History → Answer → History → Type 0
LogsSubmit worker ns planned old (Err Refusal.LogFull) new = IsFull old × (new ≡ old)
LogsSubmit worker ns planned old (Err Refusal.Memory) new = HasPlace old × (new ≡ old)
LogsSubmit worker ns planned old (Ok reply) new =
    LogsPlanned (Step.Submit worker ns) worker ns planned old (Ok reply) new
LogsSubmit worker ns planned old (Err refusal) new =
    HasPlace old × RefusesPlan old.state.world worker ns planned refusal × (new ≡ old)

-- A call for Finish ends the worker's evaluation by such a plan, and the step is logged. The step may also be refused because a
-- counter would pass its bound, and is logged then. A call that makes no step changes nothing, as with Submit.
abbrev pub LogsFinish : ℕ → Name → Snapshot → History → Answer → History → Type 0
LogsFinish worker ns planned old (Err Refusal.LogFull) new = IsFull old × (new ≡ old)
LogsFinish worker ns planned old (Err Refusal.Memory) new = HasPlace old × (new ≡ old)
LogsFinish worker ns planned old (Err Refusal.Full) new =
    LogsPlanned (Step.Finish worker ns) worker ns planned old (Err Refusal.Full) new
LogsFinish worker ns planned old (Ok reply) new =
    LogsPlanned (Step.Finish worker ns) worker ns planned old (Ok reply) new
LogsFinish worker ns planned old (Err refusal) new =
    HasPlace old × RefusesFinish old.state.world worker ns planned refusal × (new ≡ old)

-- what a call for any step of a worker does, with or without a plan
abbrev pub LogsWorkerStep : WorkerStep → ℕ → Name → History → Answer → History → Type 0
LogsWorkerStep (WorkerStep.Submit planned) worker ns old answer new = LogsSubmit worker ns planned old answer new
LogsWorkerStep (WorkerStep.Finish planned) worker ns old answer new = LogsFinish worker ns planned.now old answer new
LogsWorkerStep step worker ns old answer new = Logs (worker_step step worker ns) old answer new
