-- A worker's step, whatever it is: it may change something, it is made and logged or is none, and why it was none.
use Rattle.std.specs.Prelude.{◌≡◌, ℕ, Option, true}
use Rattle.std.proofs.Common.{refl}
use Rattle.ns_types.specs.declared.worker.Worker.{Worker}
use Rattle.ns_types.specs.State.Names.{Name}
use Rattle.ns_types.specs.State.Rows.{World}
use Rattle.ns_types.specs.Steps.{Answer}
use Rattle.ns_types.specs.Working.Looks.{worker_at}
use Rattle.ns_driver.specs.declared.worker_step.WorkerStep.{WorkerStep}
use Rattle.ns_driver.specs.WorkerSteps.{worker_step}
use Rattle.ns_replies.specs.Laws.{may_change, row_of}
use Rattle.ns_work_log.specs.Logs.{History}
use Rattle.ns_work_log.specs.Planned.{LogsWorkerStep}
use Rattle.ns_work_log.proofs.Adding.{Adds, finish_adds, logs_adds, submit_adds}
use Rattle.ns_work_lock.proofs.Refusing.{IsRefused, finish_refused, logs_refused, submit_refused}

module _ (worker : ℕ) (ns : Name) where
  pub work_changes : (step : WorkerStep) → may_change (worker_step step worker ns) ≡ true
  work_changes (WorkerStep.Dequeue evaluation) = refl
  work_changes (WorkerStep.Submit planned) = refl
  work_changes WorkerStep.Apply = refl
  work_changes (WorkerStep.Finish planned) = refl
  work_changes WorkerStep.Nack = refl

  -- its answer needs room by the worker's row
  pub work_row : (step : WorkerStep) (w : World) → worker_at w worker ns ≡ row_of (worker_step step worker ns) w
  work_row (WorkerStep.Dequeue evaluation) w = refl
  work_row (WorkerStep.Submit planned) w = refl
  work_row WorkerStep.Apply w = refl
  work_row (WorkerStep.Finish planned) w = refl
  work_row WorkerStep.Nack w = refl

  module _ (old : History) (answer : Answer) (new : History) where
    pub work_adds : (step : WorkerStep) → LogsWorkerStep step worker ns old answer new → Adds (worker_step step worker ns) old answer new
    work_adds (WorkerStep.Dequeue evaluation) l = logs_adds (worker_step (WorkerStep.Dequeue evaluation) worker ns) old answer new l
    work_adds (WorkerStep.Submit planned) l = submit_adds worker ns planned old answer new l
    work_adds WorkerStep.Apply l = logs_adds (worker_step WorkerStep.Apply worker ns) old answer new l
    work_adds (WorkerStep.Finish planned) l = finish_adds worker ns planned.now old answer new l
    work_adds WorkerStep.Nack l = logs_adds (worker_step WorkerStep.Nack worker ns) old answer new l

    pub work_refused : (step : WorkerStep) → LogsWorkerStep step worker ns old answer new → IsRefused (worker_step step worker ns) answer
    work_refused (WorkerStep.Dequeue evaluation) l = logs_refused (worker_step (WorkerStep.Dequeue evaluation) worker ns) old answer new l
    work_refused (WorkerStep.Submit planned) l = submit_refused worker ns planned old answer new l
    work_refused WorkerStep.Apply l = logs_refused (worker_step WorkerStep.Apply worker ns) old answer new l
    work_refused (WorkerStep.Finish planned) l = finish_refused worker ns planned.now old answer new l
    work_refused WorkerStep.Nack l = logs_refused (worker_step WorkerStep.Nack worker ns) old answer new l
