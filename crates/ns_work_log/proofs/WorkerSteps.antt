-- A worker's step, whatever it hands in: its answer has room, and its call keeps the history and says what it did.
use Rattle.std.specs.Prelude.{◌≡◌, ◌<◌, ℕ, Bool, true, false, List, length, Ok, Err, IfOk}
use Rattle.std.proofs.Common.{refl, ap, sym, subst, ◌∙◌}
use Rattle.ns_types.specs.declared.refusal.Refusal.{Refusal}
use Rattle.ns_types.specs.declared.snapshot.Snapshot.{Snapshot}
use Rattle.ns_types.specs.declared.step.Step.{Step}
use Rattle.ns_types.specs.State.Names.{Name}
use Rattle.ns_types.specs.State.Rows.{State, World}
use Rattle.ns_types.specs.Steps.{Answer}
use Rattle.ns_types.specs.Working.Looks.{RefusesFinish, RefusesPlan, worker_at}
use Rattle.ns_types.proofs.Lists.{not_both}
use Rattle.ns_audit.specs.Refusals.{is_of_steps}
use Rattle.ns_json.specs.Replies.{Entry, IsKept}
use Rattle.ns_driver.specs.declared.worker_step.WorkerStep.{WorkerStep}
use Rattle.ns_driver.specs.Calls.{FinishesBy, HandsIn}
use Rattle.ns_driver.specs.WorkerSteps.{MakesWorkerStep, worker_step}
use Rattle.ns_replies.specs.Rooms.{AnswerRoom, HasRoom, room_of}
use Rattle.ns_work_log.specs.Logs.{HasPlace, History, Logs}
use Rattle.ns_work_log.specs.Noting.{Begins, noted}
use Rattle.ns_work_log.specs.Planned.{LogsFinish, LogsSubmit, LogsWorkerStep}
use Rattle.ns_work_log.proofs.Logged.{IsKeptWithin, after_call, kept_by, logged, logs_by, refused_to, unchanged}
use Rattle.ns_work_log.proofs.Planned.{finish_is_none, finish_keeps, noted_none, submit_is_none, submit_keeps}
use Rattle.ns_work_log.proofs.Rooms.{enough_finished, enough_made, enough_submitted}

-- ---- a plan is refused otherwise than by a full log

abbrev is_log_full : Refusal → Bool
is_log_full Refusal.LogFull = true
is_log_full _ = false

plan_not_full : (w : World) (worker : ℕ) (ns : Name) (planned : Snapshot) (refusal : Refusal) → RefusesPlan w worker ns planned refusal →
    is_log_full refusal ≡ false
plan_not_full w worker ns planned _ (RefusesPlan.idle none) = refl
plan_not_full w worker ns planned _ (RefusesPlan.out_of_turn row at late) = refl
plan_not_full w worker ns planned _ (RefusesPlan.foreign row turn other) = refl
plan_not_full w worker ns planned _ (RefusesPlan.empty row turn same nothing) = refl

end_not_full : (w : World) (worker : ℕ) (ns : Name) (planned : Snapshot) (refusal : Refusal) → RefusesFinish w worker ns planned refusal →
    is_log_full refusal ≡ false
end_not_full w worker ns planned _ (RefusesFinish.idle none) = refl
end_not_full w worker ns planned _ (RefusesFinish.out_of_turn row at late) = refl
end_not_full w worker ns planned _ (RefusesFinish.foreign row turn other) = refl
end_not_full w worker ns planned _ (RefusesFinish.unplaced row turn same nothing) = refl

-- ---- what a call says that it did

rests : (old : History) (step : Step) (s' : State) (refusal : Refusal) → is_of_steps refusal ≡ false → s' ≡ old.state →
    after_call old (noted step (Err refusal) old.log) s' ≡ old
rests old step s' refusal none same =
    ap (λ log. after_call old log s') (noted_none step refusal old.log none) ∙ unchanged old s' same

module _ (worker : ℕ) (ns : Name) (planned : Snapshot) (old : History) where
  submit_logs : (answer : Answer) (s' : State) → HasPlace old → HandsIn worker ns planned old.state answer s' →
      LogsSubmit worker ns planned old answer (after_call old (noted (Step.Submit worker ns) answer old.log) s')
  submit_logs (Ok reply) s' place h = (place, h.0, logged old (Step.Submit worker ns) (Ok reply) s' h.1)
  submit_logs (Err Refusal.Memory) s' place h = (place, unchanged old s' h.1.1)
  submit_logs (Err Refusal.LogFull) s' place h =
      not_both refl (plan_not_full old.state.world worker ns planned Refusal.LogFull h.0)
  submit_logs (Err refusal) s' place h = (
    place,
    h.0,
    rests old (Step.Submit worker ns) s' refusal (submit_is_none old.state.world worker ns planned refusal h.0) h.1,
  )

  finish_logs : (answer : Answer) (s' : State) → HasPlace old → FinishesBy worker ns planned old.state answer s' →
      LogsFinish worker ns planned old answer (after_call old (noted (Step.Finish worker ns) answer old.log) s')
  finish_logs (Ok reply) s' place h = (place, h.0, logged old (Step.Finish worker ns) (Ok reply) s' h.1)
  finish_logs (Err Refusal.Memory) s' place h = (place, unchanged old s' h.1.1)
  finish_logs (Err Refusal.Full) s' place h = (
    place,
    h.0,
    logged old (Step.Finish worker ns) (Err Refusal.Full) s' (refused_to (Step.Finish worker ns) old.state s' Refusal.Full h.1),
  )
  finish_logs (Err Refusal.LogFull) s' place h =
      not_both refl (end_not_full old.state.world worker ns planned Refusal.LogFull h.0)
  finish_logs (Err refusal) s' place h = (
    place,
    h.0,
    rests old (Step.Finish worker ns) s' refusal (finish_is_none old.state.world worker ns planned refusal h.0) h.1,
  )

-- ---- whatever it hands in

module _ (worker : ℕ) (ns : Name) where
  pub enough_worker_step : (step : WorkerStep) (s : State) (answer : Answer) (s' : State) (room : AnswerRoom) →
      room ≡ room_of (worker_step step worker ns) (worker_at s.world worker ns) → MakesWorkerStep step worker ns s answer s' →
      IfOk answer (λ reply. HasRoom room reply.content)
  enough_worker_step (WorkerStep.Dequeue evaluation) s answer s' room is m =
      enough_made (worker_step (WorkerStep.Dequeue evaluation) worker ns) s answer s' room refl is m
  enough_worker_step (WorkerStep.Submit planned) s answer s' room is m = enough_submitted worker ns planned s answer s' room is m
  enough_worker_step WorkerStep.Apply s answer s' room is m =
      enough_made (worker_step WorkerStep.Apply worker ns) s answer s' room refl is m
  enough_worker_step (WorkerStep.Finish planned) s answer s' room is m = enough_finished worker ns planned.now s answer s' room is m
  enough_worker_step WorkerStep.Nack s answer s' room is m =
      enough_made (worker_step WorkerStep.Nack worker ns) s answer s' room refl is m

  pub worker_step_keeps : (step : WorkerStep) (base : State) (limit : ℕ) (log : List Entry) (s : State) (answer : Answer) (s' : State) →
      IsKept base log s → length log < limit → MakesWorkerStep step worker ns s answer s' →
      IsKeptWithin base limit (noted (worker_step step worker ns) answer log) s'
  worker_step_keeps (WorkerStep.Dequeue evaluation) base limit log s answer s' k place m =
      kept_by base limit log s (worker_step (WorkerStep.Dequeue evaluation) worker ns) answer s' k place m
  worker_step_keeps (WorkerStep.Submit planned) base limit log s answer s' k place m =
      submit_keeps worker ns planned base limit log s answer s' k place m
  worker_step_keeps WorkerStep.Apply base limit log s answer s' k place m =
      kept_by base limit log s (worker_step WorkerStep.Apply worker ns) answer s' k place m
  worker_step_keeps (WorkerStep.Finish planned) base limit log s answer s' k place m =
      finish_keeps worker ns planned.now base limit log s answer s' k place m
  worker_step_keeps WorkerStep.Nack base limit log s answer s' k place m =
      kept_by base limit log s (worker_step WorkerStep.Nack worker ns) answer s' k place m

  worker_step_logs : (step : WorkerStep) (old : History) (answer : Answer) (s' : State) → HasPlace old →
      MakesWorkerStep step worker ns old.state answer s' →
      LogsWorkerStep step worker ns old answer (after_call old (noted (worker_step step worker ns) answer old.log) s')
  worker_step_logs (WorkerStep.Dequeue evaluation) old answer s' place m =
      logs_by old (worker_step (WorkerStep.Dequeue evaluation) worker ns) answer s' place m
  worker_step_logs (WorkerStep.Submit planned) old answer s' place m = submit_logs worker ns planned old answer s' place m
  worker_step_logs WorkerStep.Apply old answer s' place m = logs_by old (worker_step WorkerStep.Apply worker ns) answer s' place m
  worker_step_logs (WorkerStep.Finish planned) old answer s' place m = finish_logs worker ns planned.now old answer s' place m
  worker_step_logs WorkerStep.Nack old answer s' place m = logs_by old (worker_step WorkerStep.Nack worker ns) answer s' place m

  -- with the step and the log as they are once the room was taken
  pub call_logs_worker_step : (step : WorkerStep) (old now : History) (log' : List Entry) (step' : Step) (answer : Answer) (s' : State) →
      now ≡ old → HasPlace old → MakesWorkerStep step worker ns old.state answer s' → step' ≡ worker_step step worker ns →
      log' ≡ noted step' answer old.log → LogsWorkerStep step worker ns now answer (after_call old log' s')
  call_logs_worker_step step old now log' step' answer s' is place m same noted_so =
      subst (λ (h : History). LogsWorkerStep step worker ns h answer (after_call old log' s')) (sym is)
      (subst (λ entries. LogsWorkerStep step worker ns old answer (after_call old entries s'))
      (sym (noted_so ∙ ap (λ x. noted x answer old.log) same)) (worker_step_logs step old answer s' place m))

-- ---- a call that found no place or no memory before its step

begin_logs : (X : Type 0) (step : Step) (old : History) (refusal : Refusal) → Begins {X = X} (length old.log) old.limit (Err refusal) →
    Logs step old (Err refusal) old
begin_logs X step old Refusal.LogFull b = (b, refl)
begin_logs X step old Refusal.Memory b = (b, refl)
begin_logs X step old refusal b = absurd b

begin_submit : (X : Type 0) (worker : ℕ) (ns : Name) (planned : Snapshot) (old : History) (refusal : Refusal) →
    Begins {X = X} (length old.log) old.limit (Err refusal) → LogsSubmit worker ns planned old (Err refusal) old
begin_submit X worker ns planned old Refusal.LogFull b = (b, refl)
begin_submit X worker ns planned old Refusal.Memory b = (b, refl)
begin_submit X worker ns planned old refusal b = absurd b

begin_finish : (X : Type 0) (worker : ℕ) (ns : Name) (planned : Snapshot) (old : History) (refusal : Refusal) →
    Begins {X = X} (length old.log) old.limit (Err refusal) → LogsFinish worker ns planned old (Err refusal) old
begin_finish X worker ns planned old Refusal.LogFull b = (b, refl)
begin_finish X worker ns planned old Refusal.Memory b = (b, refl)
begin_finish X worker ns planned old refusal b = absurd b

pub begin_worker_step : (X : Type 0) (worker : ℕ) (ns : Name) (step : WorkerStep) (old : History) (refusal : Refusal) →
    Begins {X = X} (length old.log) old.limit (Err refusal) → LogsWorkerStep step worker ns old (Err refusal) old
begin_worker_step X worker ns (WorkerStep.Dequeue evaluation) old refusal b =
    begin_logs X (worker_step (WorkerStep.Dequeue evaluation) worker ns) old refusal b
begin_worker_step X worker ns (WorkerStep.Submit planned) old refusal b = begin_submit X worker ns planned old refusal b
begin_worker_step X worker ns WorkerStep.Apply old refusal b = begin_logs X (worker_step WorkerStep.Apply worker ns) old refusal b
begin_worker_step X worker ns (WorkerStep.Finish planned) old refusal b = begin_finish X worker ns planned.now old refusal b
begin_worker_step X worker ns WorkerStep.Nack old refusal b = begin_logs X (worker_step WorkerStep.Nack worker ns) old refusal b
