-- A call that makes a step adds one entry, and any other changes nothing.
use Rattle.std.specs.Prelude.{◌≡◌, ◌⊎◌, ℕ, true, false, Ok, Err}
use Rattle.std.proofs.Common.{refl, inl, inr}
use Rattle.ns_types.specs.declared.refusal.Refusal.{Refusal}
use Rattle.ns_types.specs.declared.snapshot.Snapshot.{Snapshot}
use Rattle.ns_types.specs.declared.step.Step.{Step}
use Rattle.ns_types.specs.State.Names.{Name}
use Rattle.ns_types.specs.Steps.{Answer}
use Rattle.ns_types.proofs.Lists.{not_both}
use Rattle.ns_audit.specs.Refusals.{is_of_steps}
use Rattle.ns_audit.proofs.RefusalLemmas.{steps_refuse_so}
use Rattle.ns_work_log.specs.Logs.{History, IsLogged, Logs}
use Rattle.ns_work_log.specs.Noting.{is_answer}
use Rattle.ns_work_log.specs.Planned.{LogsFinish, LogsSubmit}
use Rattle.ns_work_log.proofs.Planned.{finish_is_none, submit_is_none}

-- the answer is a step's, and the step was made and logged; or it is none, and nothing changed
abbrev pub Adds : Step → History → Answer → History → Type 0
Adds step old answer new = ((is_answer answer ≡ true) × IsLogged step old answer new) ⊎ ((is_answer answer ≡ false) × (new ≡ old))

never : (step : Step) (old new : History) (refusal : Refusal) → is_of_steps refusal ≡ false → IsLogged step old (Err refusal) new →
    Adds step old (Err refusal) new
never step old new refusal none l = not_both (steps_refuse_so step old.state new.state refusal l.made) none

pub logs_adds : (step : Step) (old : History) (answer : Answer) (new : History) → Logs step old answer new → Adds step old answer new
logs_adds step old (Ok reply) new l = inl (refl, l.1)
logs_adds step old (Err Refusal.Denied) new l = inl (refl, l.1)
logs_adds step old (Err Refusal.NotFound) new l = inl (refl, l.1)
logs_adds step old (Err (Refusal.BadField member)) new l = inl (refl, l.1)
logs_adds step old (Err Refusal.PoolNotPermitted) new l = inl (refl, l.1)
logs_adds step old (Err Refusal.Conflict) new l = inl (refl, l.1)
logs_adds step old (Err Refusal.InUse) new l = inl (refl, l.1)
logs_adds step old (Err Refusal.Full) new l = inl (refl, l.1)
logs_adds step old (Err Refusal.LogFull) new l = inr (refl, l.1)
logs_adds step old (Err Refusal.Memory) new l = inr (refl, l.1)
logs_adds step old (Err Refusal.NotEnabled) new l = inr (refl, l.2)
logs_adds step old (Err Refusal.BadHead) new l = never step old new Refusal.BadHead refl l.1
logs_adds step old (Err Refusal.BadJson) new l = never step old new Refusal.BadJson refl l.1
logs_adds step old (Err Refusal.BadMethod) new l = never step old new Refusal.BadMethod refl l.1
logs_adds step old (Err Refusal.NeedLength) new l = never step old new Refusal.NeedLength refl l.1
logs_adds step old (Err Refusal.TooLarge) new l = never step old new Refusal.TooLarge refl l.1
logs_adds step old (Err Refusal.NotServed) new l = never step old new Refusal.NotServed refl l.1
logs_adds step old (Err Refusal.Foreign) new l = never step old new Refusal.Foreign refl l.1

module _ (worker : ℕ) (ns : Name) (planned : Snapshot) (old : History) where
  abbrev submits : Step
  submits = Step.Submit worker ns

  pub submit_adds : (answer : Answer) (new : History) → LogsSubmit worker ns planned old answer new → Adds submits old answer new
  submit_adds (Ok reply) new l = inl (refl, l.2)
  submit_adds (Err Refusal.LogFull) new l = inr (refl, l.1)
  submit_adds (Err Refusal.Memory) new l = inr (refl, l.1)
  submit_adds (Err refusal) new l = inr (submit_is_none old.state.world worker ns planned refusal l.1, l.2)

  abbrev finishes : Step
  finishes = Step.Finish worker ns

  pub finish_adds : (answer : Answer) (new : History) → LogsFinish worker ns planned old answer new → Adds finishes old answer new
  finish_adds (Ok reply) new l = inl (refl, l.2)
  finish_adds (Err Refusal.Full) new l = inl (refl, l.2)
  finish_adds (Err Refusal.LogFull) new l = inr (refl, l.1)
  finish_adds (Err Refusal.Memory) new l = inr (refl, l.1)
  finish_adds (Err refusal) new l = inr (finish_is_none old.state.world worker ns planned refusal l.1, l.2)
