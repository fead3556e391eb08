-- A worker's step, with the plan that it brings, and what a call for it does.
use Rattle.std.specs.Prelude.{ℕ}
use Rattle.ns_types.specs.declared.refusal.Refusal.{Refusal}
use Rattle.ns_types.specs.declared.step.Step.{Step}
use Rattle.ns_types.specs.State.Names.{Name}
use Rattle.ns_types.specs.State.Rows.{State}
use Rattle.ns_types.specs.Steps.{Answer, Makes}
use Rattle.ns_steps.specs.declared.work.Work.{Work}
use Rattle.ns_steps.specs.Works.{step_of}
use Rattle.ns_driver.specs.declared.worker_step.WorkerStep.{WorkerStep}
use Rattle.ns_driver.specs.Attempting.{Attempts, AttemptsFinish, AttemptsSubmit}
use Rattle.ns_driver.specs.Calls.{FinishesBy, HandsIn}

abbrev pub kind_of : WorkerStep → Work
kind_of (WorkerStep.Dequeue evaluation) = Work.Dequeue evaluation
kind_of (WorkerStep.Submit planned) = Work.Submit
kind_of WorkerStep.Apply = Work.Apply
kind_of (WorkerStep.Finish planned) = Work.Finish
kind_of WorkerStep.Nack = Work.Nack

-- the model's step, for that worker and namespace
abbrev pub worker_step : WorkerStep → ℕ → Name → Step
worker_step step worker ns = step_of (kind_of step) worker ns

-- what a call for the step does at a server that is a state of the model
abbrev pub MakesWorkerStep : WorkerStep → ℕ → Name → State → Answer → State → Type 0
MakesWorkerStep (WorkerStep.Submit planned) worker ns old answer new = HandsIn worker ns planned old answer new
MakesWorkerStep (WorkerStep.Finish planned) worker ns old answer new =
    FinishesBy worker ns planned.now old answer new
MakesWorkerStep step worker ns old answer new = Makes (worker_step step worker ns) old answer new

-- what a call for the step does at a server whose value stands for a state and keeps more than that
abbrev pub AttemptsWorkerStep : {S : Type 0} → (S → State) → (S → Step → Answer → S → Type 0) →
    (S → Step → Refusal → Type 0) → WorkerStep → ℕ → Name → S → Answer → S → Type 0
AttemptsWorkerStep state notes lacks (WorkerStep.Submit planned) worker ns old answer new =
    AttemptsSubmit state notes lacks worker ns planned old answer new
AttemptsWorkerStep state notes lacks (WorkerStep.Finish planned) worker ns old answer new =
    AttemptsFinish state notes lacks worker ns planned.now old answer new
AttemptsWorkerStep state notes lacks step worker ns old answer new =
    Attempts state notes lacks old (worker_step step worker ns) answer new
