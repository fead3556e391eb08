-- A worker's call that made no step was refused by what is no step.
use Rattle.std.specs.Prelude.{◌≡◌, ℕ, false, List, Ok, Err}
use Rattle.std.proofs.Common.{refl}
use Rattle.ns_types.specs.declared.refusal.Refusal.{Refusal}
use Rattle.ns_types.specs.declared.snapshot.Snapshot.{Snapshot}
use Rattle.ns_types.specs.declared.step.Step.{Step}
use Rattle.ns_types.specs.State.Names.{Name}
use Rattle.ns_types.specs.State.Rows.{World}
use Rattle.ns_types.specs.Steps.{Answer}
use Rattle.ns_types.specs.Working.Looks.{RefusesFinish, RefusesPlan}
use Rattle.ns_types.proofs.Lists.{not_both}
use Rattle.ns_audit.specs.Refusals.{is_of_steps}
use Rattle.ns_audit.proofs.RefusalLemmas.{steps_refuse_so}
use Rattle.ns_log.specs.declared.receipts.receipt.Receipt.{Receipt}
use Rattle.ns_work_log.specs.Logs.{History, IsLogged, Logs}
use Rattle.ns_work_log.specs.Noting.{is_answer}
use Rattle.ns_work_log.specs.Planned.{LogsFinish, LogsSubmit}
use Rattle.ns_work_log.specs.Rendered.{rendered_step}
use Rattle.ns_work_lock.specs.Receiving.{Receives, TakesPlan, received}

-- why it made none
abbrev MakesNone : Step → Answer → Type 0
MakesNone step (Err Refusal.Memory) = Unit {0}
MakesNone step (Err Refusal.LogFull) = Unit {0}
MakesNone step (Err Refusal.NotEnabled) = Unit {0}
MakesNone step (Err Refusal.Foreign) = TakesPlan step
MakesNone step _ = ⊥

abbrev pub IsRefused : Step → Answer → Type 0
IsRefused step answer = is_answer answer ≡ false → MakesNone step answer

made_none : {X : Type 0} (step : Step) (old new : History) (refusal : Refusal) → is_of_steps refusal ≡ false → IsLogged step old (Err refusal) new → X
made_none step old new refusal none l = not_both (steps_refuse_so step old.state new.state refusal l.made) none

pub logs_refused : (step : Step) (old : History) (answer : Answer) (new : History) → Logs step old answer new → IsRefused step answer
logs_refused step old (Ok reply) new l none = not_both refl none
logs_refused step old (Err Refusal.LogFull) new l none = tt
logs_refused step old (Err Refusal.Memory) new l none = tt
logs_refused step old (Err Refusal.NotEnabled) new l none = tt
logs_refused step old (Err refusal) new l none = made_none step old new refusal none l.1

module _ (worker : ℕ) (ns : Name) (planned : Snapshot) where
  plan_refused : (w : World) (refusal : Refusal) → RefusesPlan w worker ns planned refusal → MakesNone (Step.Submit worker ns) (Err refusal)
  plan_refused w _ (RefusesPlan.idle none) = tt
  plan_refused w _ (RefusesPlan.out_of_turn row at late) = tt
  plan_refused w _ (RefusesPlan.foreign row turn other) = tt
  plan_refused w _ (RefusesPlan.empty row turn same nothing) = tt

  pub submit_refused : (old : History) (answer : Answer) (new : History) → LogsSubmit worker ns planned old answer new →
      IsRefused (Step.Submit worker ns) answer
  submit_refused old (Ok reply) new l none = not_both refl none
  submit_refused old (Err Refusal.LogFull) new l none = tt
  submit_refused old (Err Refusal.Memory) new l none = tt
  submit_refused old (Err refusal) new l none = plan_refused old.state.world refusal l.1

  end_refused : (w : World) (refusal : Refusal) → RefusesFinish w worker ns planned refusal → MakesNone (Step.Finish worker ns) (Err refusal)
  end_refused w _ (RefusesFinish.idle none) = tt
  end_refused w _ (RefusesFinish.out_of_turn row at late) = tt
  end_refused w _ (RefusesFinish.foreign row turn other) = tt
  end_refused w _ (RefusesFinish.unplaced row turn same nothing) = tt

  pub finish_refused : (old : History) (answer : Answer) (new : History) → LogsFinish worker ns planned old answer new →
      IsRefused (Step.Finish worker ns) answer
  finish_refused old (Ok reply) new l none = not_both refl none
  finish_refused old (Err Refusal.LogFull) new l none = tt
  finish_refused old (Err Refusal.Memory) new l none = tt
  finish_refused old (Err Refusal.Full) new l none = not_both refl none
  finish_refused old (Err refusal) new l none = end_refused old.state.world refusal l.1

-- ---- what the seat gains

pub gains : (step : Step) (place : ℕ) (answer : Answer) (seat seat' : List Receipt) → IsRefused step answer →
    seat' ≡ received place step (rendered_step answer) seat → Receives step seat answer seat'
gains step place (Ok reply) seat seat' refused is = (place, is)
gains step place (Err Refusal.Denied) seat seat' refused is = (place, is)
gains step place (Err Refusal.NotFound) seat seat' refused is = (place, is)
gains step place (Err (Refusal.BadField member)) seat seat' refused is = (place, is)
gains step place (Err Refusal.PoolNotPermitted) seat seat' refused is = (place, is)
gains step place (Err Refusal.Conflict) seat seat' refused is = (place, is)
gains step place (Err Refusal.InUse) seat seat' refused is = (place, is)
gains step place (Err Refusal.Full) seat seat' refused is = (place, is)
gains step place (Err Refusal.Memory) seat seat' refused is = is
gains step place (Err Refusal.LogFull) seat seat' refused is = is
gains step place (Err Refusal.NotEnabled) seat seat' refused is = is
gains step place (Err Refusal.Foreign) seat seat' refused is = (refused refl, is)
gains step place (Err refusal) seat seat' refused is = absurd (refused refl)
