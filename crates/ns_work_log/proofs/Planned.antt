-- The same of the calls that are handed a plan.
use Rattle.std.specs.Prelude.{◌≡◌, ◌<◌, ℕ, Bool, false, if◌then◌else◌, List, ◌∷◌, ◌++◌, [], length, Ok, Err}
use Rattle.std.proofs.Common.{refl, ap, sym, subst}
use Rattle.ns_types.specs.declared.refusal.Refusal.{Refusal}
use Rattle.ns_types.specs.declared.snapshot.Snapshot.{Snapshot}
use Rattle.ns_types.specs.declared.step.Step.{Step}
use Rattle.ns_types.specs.State.Names.{Name}
use Rattle.ns_types.specs.State.Rows.{State, World}
use Rattle.ns_types.specs.Steps.{Answer}
use Rattle.ns_types.specs.Working.Looks.{RefusesFinish, RefusesPlan}
use Rattle.ns_audit.specs.Refusals.{is_of_steps}
use Rattle.ns_json.specs.Replies.{Entry, IsKept, rendered}
use Rattle.ns_driver.specs.Calls.{FinishesBy, HandsIn}
use Rattle.ns_work_log.specs.Noting.{noted}
use Rattle.ns_work_log.proofs.Logged.{IsKeptWithin, kept_by, within_same}

-- ---- a plan that is refused is no step

pub submit_is_none : (w : World) (worker : ℕ) (ns : Name) (planned : Snapshot) (refusal : Refusal) → RefusesPlan w worker ns planned refusal →
    is_of_steps refusal ≡ false
submit_is_none w worker ns planned _ (RefusesPlan.idle none) = refl
submit_is_none w worker ns planned _ (RefusesPlan.out_of_turn row at late) = refl
submit_is_none w worker ns planned _ (RefusesPlan.foreign row turn other) = refl
submit_is_none w worker ns planned _ (RefusesPlan.empty row turn same nothing) = refl

pub finish_is_none : (w : World) (worker : ℕ) (ns : Name) (planned : Snapshot) (refusal : Refusal) → RefusesFinish w worker ns planned refusal →
    is_of_steps refusal ≡ false
finish_is_none w worker ns planned _ (RefusesFinish.idle none) = refl
finish_is_none w worker ns planned _ (RefusesFinish.out_of_turn row at late) = refl
finish_is_none w worker ns planned _ (RefusesFinish.foreign row turn other) = refl
finish_is_none w worker ns planned _ (RefusesFinish.unplaced row turn same nothing) = refl

pub noted_none : (step : Step) (refusal : Refusal) (log : List Entry) → is_of_steps refusal ≡ false → noted step (Err refusal) log ≡ log
noted_none step refusal log none = ap (λ (b : Bool). if b then log ++ (step, rendered (Err refusal)) ∷ [] else log) none

refused_rests : (base : State) (limit : ℕ) (log : List Entry) (s s' : State) (step : Step) (refusal : Refusal) → IsKept base log s →
    length log < limit → is_of_steps refusal ≡ false → s' ≡ s → IsKeptWithin base limit (noted step (Err refusal) log) s'
refused_rests base limit log s s' step refusal k place none same =
    subst (λ entries. IsKeptWithin base limit entries s') (sym (noted_none step refusal log none)) (within_same base s s' limit log k place same)

-- ---- a call that hands in a plan

module _ (worker : ℕ) (ns : Name) (planned : Snapshot) where
  abbrev submits : Step
  submits = Step.Submit worker ns

  pub submit_keeps : (base : State) (limit : ℕ) (log : List Entry) (s : State) (answer : Answer) (s' : State) → IsKept base log s →
      length log < limit → HandsIn worker ns planned s answer s' → IsKeptWithin base limit (noted submits answer log) s'
  submit_keeps base limit log s (Ok reply) s' k place h = kept_by base limit log s submits (Ok reply) s' k place h.1
  submit_keeps base limit log s (Err Refusal.Memory) s' k place h = kept_by base limit log s submits (Err Refusal.Memory) s' k place h.1
  submit_keeps base limit log s (Err refusal) s' k place h =
      refused_rests base limit log s s' submits refusal k place (submit_is_none s.world worker ns planned refusal h.0) h.1

  -- ---- a call that finishes

  abbrev finishes : Step
  finishes = Step.Finish worker ns

  pub finish_keeps : (base : State) (limit : ℕ) (log : List Entry) (s : State) (answer : Answer) (s' : State) → IsKept base log s →
      length log < limit → FinishesBy worker ns planned s answer s' → IsKeptWithin base limit (noted finishes answer log) s'
  finish_keeps base limit log s (Ok reply) s' k place h = kept_by base limit log s finishes (Ok reply) s' k place h.1
  finish_keeps base limit log s (Err Refusal.Memory) s' k place h = kept_by base limit log s finishes (Err Refusal.Memory) s' k place h.1
  finish_keeps base limit log s (Err Refusal.Full) s' k place h = kept_by base limit log s finishes (Err Refusal.Full) s' k place h.1
  finish_keeps base limit log s (Err refusal) s' k place h =
      refused_rests base limit log s s' finishes refusal k place (finish_is_none s.world worker ns planned refusal h.0) h.1
