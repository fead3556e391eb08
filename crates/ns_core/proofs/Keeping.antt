-- What is true of every core stays true: each step within the limits keeps the state valid.
use Rattle.std.specs.Prelude.{◌≡◌, ℕ, false, Ok, Err}
use Rattle.std.proofs.Common.{sym, subst}
use Rattle.ns_types.specs.declared.refusal.Refusal.TheVariants as Refusal
use Rattle.ns_types.specs.declared.snapshot.Snapshot.{Snapshot}
use Rattle.ns_types.specs.declared.step.Step.{Step}
use Rattle.ns_types.specs.State.Names.{Name}
use Rattle.ns_types.specs.State.Rows.{State}
use Rattle.ns_types.specs.Steps.{Answer, Makes, is_past_bound}
use Rattle.ns_types.specs.Within.{IsGoodStep}
use Rattle.ns_audit.proofs.Valid.{valid_step}
use Rattle.ns_jobs.specs.Counted.{HasFewVersionsIn}
use Rattle.ns_types.specs.Validity.{IsValid}
use Rattle.ns_driver.specs.Calls.{FinishesBy, HandsIn}

module _ (step : Step) (s s' : State) (good : IsGoodStep step) (valid : IsValid s) where
  pub keeps : (answer : Answer) → Makes step s answer s' → IsValid s'
  keeps (Ok reply) made = valid_step s s' step (Ok reply) valid good made
  keeps (Err Refusal.Memory) made = subst IsValid (sym made.1) valid
  keeps (Err Refusal.NotEnabled) made = subst IsValid (sym made.1) valid
  keeps (Err refusal) made = subst IsValid (sym made.1) valid

-- a plan that is handed in, and a finish by one
module _ (worker : ℕ) (ns : Name) (planned : Snapshot) (s s' : State) (valid : IsValid s) where
  pub keeps_valid : (answer : Answer) → HandsIn worker ns planned s answer s' → IsValid s'
  keeps_valid (Ok reply) h = keeps (Step.Submit worker ns) s s' tt valid (Ok reply) h.1
  keeps_valid (Err Refusal.Memory) h = subst IsValid (sym h.1.1) valid
  keeps_valid (Err refusal) h = subst IsValid (sym h.1) valid

  pub finish_keeps_valid : (answer : Answer) → FinishesBy worker ns planned s answer s' → IsValid s'
  finish_keeps_valid (Ok reply) h = keeps (Step.Finish worker ns) s s' tt valid (Ok reply) h.1
  finish_keeps_valid (Err Refusal.Memory) h = subst IsValid (sym h.1.1) valid
  finish_keeps_valid (Err Refusal.Full) h = subst IsValid (sym h.1.1) valid
  finish_keeps_valid (Err refusal) h = subst IsValid (sym h.1) valid

-- ---- what it says

module _ (s : State) (valid : IsValid s) where
  pub within : is_past_bound s.world ≡ false
  within = valid.world.within

  pub few_versions : (ns : Name) → HasFewVersionsIn s.world ns
  few_versions ns t is id job at = ((valid.world.tenant ns t is).job id job at).versions
