-- A step of a held server is made and logged, or lacks something; and what a chain of them leaves in the log.
use Rattle.std.specs.Prelude.{ℕ, List, [], ◌∷◌, ◌++◌, map, zip, Ok, Err}
use Rattle.std.proofs.Common.{inl, inr, refl, ap, sym, ◌∙◌}
use Rattle.std.proofs.lemmas.List.{append_assoc, append-nil}
use Rattle.ns_types.specs.declared.refusal.Refusal.{Refusal}
use Rattle.ns_types.specs.declared.snapshot.Snapshot.{Snapshot}
use Rattle.ns_types.specs.declared.step.Step.{Step}
use Rattle.ns_types.specs.State.Names.{Name}
use Rattle.ns_types.specs.State.Rows.{State}
use Rattle.ns_types.specs.Steps.{Answer}
use Rattle.ns_json.specs.Replies.{rendered}
use Rattle.ns_steps.specs.Chains.{Chain}
use Rattle.ns_driver.specs.declared.worker_step.WorkerStep.{WorkerStep}
use Rattle.ns_driver.specs.Attempting.{Attempts, AttemptsFinish, AttemptsSubmit}
use Rattle.ns_driver.specs.WorkerSteps.{AttemptsWorkerStep, worker_step}
use Rattle.ns_work_log.specs.Lacking.{HeldLacks}
use Rattle.ns_work_log.specs.Logs.{AreNoted, History, IsNoted, Logs}
use Rattle.ns_work_log.specs.Planned.{LogsFinish, LogsSubmit, LogsWorkerStep}

abbrev state_of : History → State
state_of h = h.state

pub attempts : (step : Step) (old : History) (answer : Answer) (new : History) → Logs step old answer new →
    Attempts state_of IsNoted HeldLacks old step answer new
attempts step old (Err Refusal.LogFull) new l = inr (Refusal.LogFull, refl, l.0, l.1)
attempts step old (Err Refusal.Memory) new l = inr (Refusal.Memory, refl, l.0, l.1)
attempts step old (Err Refusal.NotEnabled) new l = inr (Refusal.NotEnabled, refl, (l.0, l.1), l.2)
attempts step old answer new l = inl l.1

module _ (worker : ℕ) (ns : Name) (planned : Snapshot) (old : History) where
  pub attempts_submit : (answer : Answer) (new : History) → LogsSubmit worker ns planned old answer new →
      AttemptsSubmit state_of IsNoted HeldLacks worker ns planned old answer new
  attempts_submit (Ok reply) new l = inl (l.1, l.2)
  attempts_submit (Err Refusal.LogFull) new l = inr (Refusal.LogFull, refl, inl l.0, l.1)
  attempts_submit (Err Refusal.Memory) new l = inr (Refusal.Memory, refl, inl l.0, l.1)
  attempts_submit (Err refusal) new l = inr (refusal, refl, inr l.1, l.2)

  pub attempts_finish : (answer : Answer) (new : History) → LogsFinish worker ns planned old answer new →
      AttemptsFinish state_of IsNoted HeldLacks worker ns planned old answer new
  attempts_finish (Ok reply) new l = inl (l.1, l.2)
  attempts_finish (Err Refusal.LogFull) new l = inr (Refusal.LogFull, refl, inl l.0, l.1)
  attempts_finish (Err Refusal.Memory) new l = inr (Refusal.Memory, refl, inl l.0, l.1)
  attempts_finish (Err Refusal.Full) new l = inl (l.1, l.2)
  attempts_finish (Err refusal) new l = inr (refusal, refl, inr l.1, l.2)

pub attempts_worker_step : (worker : ℕ) (ns : Name) (old : History) (step : WorkerStep) (answer : Answer) (new : History) →
    LogsWorkerStep step worker ns old answer new → AttemptsWorkerStep state_of IsNoted HeldLacks step worker ns old answer new
attempts_worker_step worker ns old (WorkerStep.Dequeue evaluation) answer new l =
    attempts (worker_step (WorkerStep.Dequeue evaluation) worker ns) old answer new l
attempts_worker_step worker ns old (WorkerStep.Submit planned) answer new l = attempts_submit worker ns planned old answer new l
attempts_worker_step worker ns old WorkerStep.Apply answer new l = attempts (worker_step WorkerStep.Apply worker ns) old answer new l
attempts_worker_step worker ns old (WorkerStep.Finish planned) answer new l = attempts_finish worker ns planned.now old answer new l
attempts_worker_step worker ns old WorkerStep.Nack answer new l = attempts (worker_step WorkerStep.Nack worker ns) old answer new l

-- ---- what a chain leaves

pub are_noted : (old new : History) (steps : List Step) (answers : List Answer) → Chain state_of IsNoted old steps answers new →
    AreNoted old steps answers new
are_noted old new [] [] c = record {
  entries = ap (λ (h : History). h.log) c ∙ sym (append-nil old.log);
  base = ap (λ (h : History). h.base) c;
  start = ap (λ (h : History). h.start) c;
  limit = ap (λ (h : History). h.limit) c;
}
are_noted old new (step ∷ steps) (answer ∷ answers) c =
    let first = c.1.noted in
    let rest = are_noted c.0 new steps answers c.2 in
    record {
      entries = rest.entries ∙ ap (λ log. log ++ zip steps (map rendered answers)) first.entry
          ∙ append_assoc old.log ((step, rendered answer) ∷ []) (zip steps (map rendered answers));
      base = rest.base ∙ first.base;
      start = rest.start ∙ first.start;
      limit = rest.limit ∙ first.limit;
    }
are_noted old new [] (answer ∷ answers) c = absurd c
are_noted old new (step ∷ steps) [] c = absurd c
