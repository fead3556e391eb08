-- A step of the core is made, or lacks something.
use Rattle.std.specs.Prelude.{◌≡◌, ℕ, Ok, Err}
use Rattle.std.proofs.Common.{inl, inr, refl, ap, sym, ◌∙◌}
use Rattle.ns_types.specs.declared.refusal.Refusal.{Refusal}
use Rattle.ns_types.specs.declared.snapshot.Snapshot.{Snapshot}
use Rattle.ns_types.specs.declared.step.Step.{Step}
use Rattle.ns_types.specs.State.Names.{Name}
use Rattle.ns_types.specs.State.Rows.{State}
use Rattle.ns_types.specs.Steps.{Answer, Makes, after, said}
use Rattle.ns_steps.specs.Chains.{IsMade}
use Rattle.ns_driver.specs.Attempting.{Attempts, AttemptsFinish, AttemptsSubmit}
use Rattle.ns_driver.specs.declared.worker_step.WorkerStep.{WorkerStep}
use Rattle.ns_driver.specs.Calls.{FinishesBy, HandsIn}
use Rattle.ns_driver.specs.WorkerSteps.{AttemptsWorkerStep, MakesWorkerStep, worker_step}
use Rattle.ns_core.specs.Lacking.{CoreLacks}

-- a core is its state, and notes nothing
abbrev itself : State → State
itself s = s

abbrev notes : State → Step → Answer → State → Type 0
notes s step answer s' = Unit {0}

is_refused : (step : Step) (s s' : State) (refusal : Refusal) → (after step s ≡ said (Err refusal) s) × (s' ≡ s) →
    IsMade itself notes s step (Err refusal) s'
is_refused step s s' refusal m = record { made = m.0 ∙ ap (said (Err refusal)) (sym m.1); noted = tt }

pub attempts : (step : Step) (s : State) (answer : Answer) (s' : State) → Makes step s answer s' →
    Attempts itself notes CoreLacks s step answer s'
attempts step s (Ok reply) s' m = inl (record { made = m; noted = tt })
attempts step s (Err Refusal.Memory) s' m = inr (Refusal.Memory, refl, m.0, m.1)
attempts step s (Err Refusal.NotEnabled) s' m = inr (Refusal.NotEnabled, refl, m.0, m.1)
attempts step s (Err refusal) s' m = inl (is_refused step s s' refusal m)

module _ (worker : ℕ) (ns : Name) (planned : Snapshot) (s : State) where
  pub attempts_submit : (answer : Answer) (s' : State) → HandsIn worker ns planned s answer s' →
      AttemptsSubmit itself notes CoreLacks worker ns planned s answer s'
  attempts_submit (Ok reply) s' h = inl (h.0, record { made = h.1; noted = tt })
  attempts_submit (Err Refusal.Memory) s' h = inr (Refusal.Memory, refl, inl h.1.0, h.1.1)
  attempts_submit (Err refusal) s' h = inr (refusal, refl, inr h.0, h.1)

  pub attempts_finish : (answer : Answer) (s' : State) → FinishesBy worker ns planned s answer s' →
      AttemptsFinish itself notes CoreLacks worker ns planned s answer s'
  attempts_finish (Ok reply) s' h = inl (h.0, record { made = h.1; noted = tt })
  attempts_finish (Err Refusal.Memory) s' h = inr (Refusal.Memory, refl, inl h.1.0, h.1.1)
  attempts_finish (Err Refusal.Full) s' h = inl (h.0, is_refused (Step.Finish worker ns) s s' Refusal.Full h.1)
  attempts_finish (Err refusal) s' h = inr (refusal, refl, inr h.0, h.1)

pub attempts_worker_step : (worker : ℕ) (ns : Name) (s : State) (step : WorkerStep) (answer : Answer) (s' : State) →
    MakesWorkerStep step worker ns s answer s' → AttemptsWorkerStep itself notes CoreLacks step worker ns s answer s'
attempts_worker_step worker ns s (WorkerStep.Dequeue evaluation) answer s' m =
    attempts (worker_step (WorkerStep.Dequeue evaluation) worker ns) s answer s' m
attempts_worker_step worker ns s (WorkerStep.Submit planned) answer s' m = attempts_submit worker ns planned s answer s' m
attempts_worker_step worker ns s WorkerStep.Apply answer s' m = attempts (worker_step WorkerStep.Apply worker ns) s answer s' m
attempts_worker_step worker ns s (WorkerStep.Finish planned) answer s' m = attempts_finish worker ns planned.now s answer s' m
attempts_worker_step worker ns s WorkerStep.Nack answer s' m = attempts (worker_step WorkerStep.Nack worker ns) s answer s' m
