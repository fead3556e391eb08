-- What a turn comes to.
use Rattle.std.specs.Prelude.{◌≡◌, ◌⊎◌, ℕ, true, false, Option, Some, None, Result, Ok, Err, IfErr, IsErr, IsErrAnd, IsOkUnless, Bool, not, ◌&&◌, if◌then◌else◌}
use Rattle.std.proofs.Common.{inl, inr, refl, ap, sym, subst, ◌∙◌}
use Rattle.ns_types.specs.declared.refusal.Refusal.{Refusal}
use Rattle.ns_types.specs.declared.snapshot.Snapshot.{Snapshot}
use Rattle.ns_types.specs.declared.step.Step.{Step}
use Rattle.ns_types.specs.declared.worker.Phase.{Phase}
use Rattle.ns_types.specs.Placing.Plan.{does_nothing, plan}
use Rattle.ns_types.specs.State.Names.{Name, Key}
use Rattle.ns_types.specs.State.Rows.{State, World}
use Rattle.ns_types.specs.Steps.{Answer}
use Rattle.ns_types.specs.Working.Looks.{RefusesFinish, RefusesPlan, is_ending, row_of, served_ready}
use Rattle.ns_types.specs.Working.Work.{is_snapped, may_finish_in}
use Rattle.ns_types.specs.Working.Worker.{Worker}
use Rattle.ns_steps.specs.Chains.{IsLacking, IsMade}
use Rattle.ns_schedule.specs.Fits.{fits}
use Rattle.ns_types.proofs.Lists.{not_both}
use Rattle.ns_types.proofs.Tests.{not_Some}
use Rattle.ns_driver.proofs.Rows.{keeps, row_there, same_row}
use Rattle.ns_driver.specs.declared.stopping.Stop.{Stop}
use Rattle.ns_driver.specs.Attempting.{Attempts, AttemptsFinish, AttemptsSubmit}
use Rattle.ns_driver.specs.Driving.{IsAtRest, IsBusyFor, IsDriven, IsNext, IsTried, Stops, driven}
use Rattle.ns_driver.specs.Working.{Ends, HasNoPlan}

-- ---- answers

-- the same answer is the same refusal
same_refusal : (answer : Answer) (refusal other : Refusal) → answer ≡ Err refusal → answer ≡ Err other → refusal ≡ other
same_refusal answer refusal other is so = ap of (sym is ∙ so)
  where
    of : Answer → Refusal
    of (Ok reply) = refusal
    of (Err r) = r

-- what an error is made into
pub error_so : {T E : Type 0} (r : Result T E) (error : E) (P : E → Type 0) → IsErr r × IsErrAnd r (λ x. x ≡ error) → P error → IfErr r P
error_so (Ok x) error P e p = tt
error_so (Err x) error P e p = subst P (sym e.1) p

-- ---- a busy worker

pub not_at_rest : (w : World) (ns : Name) (worker : Worker) → IsBusyFor w ns worker → IsAtRest w → ⊥
not_at_rest w ns worker busy rest = not_Some (ns, worker) (sym rest.0 ∙ busy)

pub snapped_ends : (phase : Phase) (tries : ℕ) → is_snapped phase ≡ true → is_ending phase tries ≡ true
snapped_ends Phase.Took tries e = not_both e refl
snapped_ends Phase.Snapped tries e = refl
snapped_ends Phase.Submitted tries e = not_both e refl
snapped_ends Phase.Applied tries e = refl
snapped_ends Phase.Dropped tries e = not_both e refl

may_end : (phase : Phase) (tries : ℕ) (kept : Snapshot) → is_ending phase tries ≡ true → (is_snapped phase ≡ true → does_nothing (plan kept) ≡ true) →
    may_finish_in phase tries kept ≡ true
may_end Phase.Took tries kept e nothing = e
may_end Phase.Snapped tries kept e nothing = nothing refl
may_end Phase.Submitted tries kept e nothing = e
may_end Phase.Applied tries kept e nothing = refl
may_end Phase.Dropped tries kept e nothing = e

may_hand_in : (phase : Phase) (planned : Snapshot) → is_snapped phase ≡ true → does_nothing (plan planned) ≡ false →
    (is_snapped phase && not (does_nothing (plan planned))) ≡ true
may_hand_in phase planned snapped does =
    ap (λ b. b && not (does_nothing (plan planned))) snapped ∙ ap not does

-- the driver has another snapshot than the worker's row
other_seen : (kept : Option Snapshot) (planned : Snapshot) → (kept ≡ Some planned → ⊥) → (seen : Snapshot) → Some planned ≡ Some seen → kept ≡ Some seen → ⊥
other_seen kept planned other seen is has = other (has ∙ sym is)

-- ---- no plan of the snapshot

pub no_plan_of : (r : Result Snapshot Refusal) (has : Option Snapshot) (seen : Snapshot) → has ≡ Some seen →
    IsOkUnless r (if fits seen then Refusal.Memory else Refusal.Full) → IfErr r (HasNoPlan has)
no_plan_of (Ok planned) has seen is e = tt
no_plan_of (Err refusal) has seen is e = by (fits seen) refl e
  where
    by : (b : Bool) → fits seen ≡ b → refusal ≡ (if b then Refusal.Memory else Refusal.Full) → HasNoPlan has refusal
    by true fit e = subst (HasNoPlan has) (sym e) HasNoPlan.memory
    by false unfit e = subst (HasNoPlan has) (sym e) (HasNoPlan.unfit seen is unfit)

-- ---- a step that was tried

module _ {S : Type 0} (state : S → State) (notes : S → Step → Answer → S → Type 0) (lacks : S → Step → Refusal → Type 0) where
  -- the model refused the step that comes next
  by_model : (old new : S) (has : Option Snapshot) (step : Step) (refusal : Refusal) → IsNext (state old).world step → IsDriven step →
      IsMade state notes old step (Err refusal) new → Ends state notes lacks old has (Stop.Refused refusal) new
  by_model old new has step refusal next is made = inr (step, refusal, refl, record { is_next = next; is_driven = is; made = made })

  -- the call was refused for want of something
  pub by_want : (old new : S) (has : Option Snapshot) (refusal : Refusal) (why : S → Refusal → Type 0) →
      ((r : Refusal) → why old r → Stops state notes lacks old has (Stop.Refused r)) → IsLacking why old (Err refusal) new →
      Ends state notes lacks old has (Stop.Refused refusal) new
  by_want old new has refusal why stops lacking = inl (
    subst (λ r. Stops state notes lacks old has (Stop.Refused r)) (sym (same_refusal (Err refusal) refusal lacking.0 refl lacking.1))
        (stops lacking.0 lacking.2),
    lacking.3,
  )

  -- the step that comes next was refused
  pub ends_next : (old new : S) (has : Option Snapshot) (step : Step) (refusal : Refusal) → IsNext (state old).world step → IsDriven step →
      Attempts state notes lacks old step (Err refusal) new → Ends state notes lacks old has (Stop.Refused refusal) new
  ends_next old new has step refusal next is (inl made) = by_model old new has step refusal next is made
  ends_next old new has step refusal next is (inr lacking) =
      by_want old new has refusal (λ s. lacks s step) (λ r lack. Stops.lacking step r (IsTried.next step next) lack) lacking

  -- ---- an idle worker

  pub take_refused : (old new : S) (has : Option Snapshot) (key : Key) (ns : Name) (n : ℕ) (refusal : Refusal) → ns ≡ key.0 → n ≡ key.1 →
      (row_of (state old).world driven ≡ None) × (served_ready (state old).world ≡ Some key) →
      Attempts state notes lacks old (Step.Dequeue driven ns n) (Err refusal) new → Ends state notes lacks old has (Stop.Refused refusal) new
  take_refused old new has key ns n refusal is_ns is_n idle attempt =
      ends_next old new has (Step.Dequeue driven ns n) refusal
      (subst (λ m. IsNext (state old).world (Step.Dequeue driven m n)) (sym is_ns)
      (subst (λ m. IsNext (state old).world (Step.Dequeue driven key.0 m)) (sym is_n) (IsNext.dequeue key idle.0 idle.1))) refl attempt

  -- ---- a busy worker, with the plan that the driver has

  module _ (s : S) (ns : Name) (worker : Worker) (planned : Snapshot) (busy : IsBusyFor (state s).world ns worker) where
    plan_refused : (refusal : Refusal) → RefusesPlan (state s).world driven ns planned refusal → is_snapped worker.phase ≡ true →
        does_nothing (plan planned) ≡ false → Stops state notes lacks s (Some planned) (Stop.Refused refusal)
    plan_refused _ (RefusesPlan.idle none) snapped does = absurd (not_Some worker (sym none ∙ row_there (state s).world driven ns worker busy))
    plan_refused _ (RefusesPlan.out_of_turn other at late) snapped does =
        not_both (ap (λ (x : Worker). is_snapped x.phase) (same_row (state s).world driven ns worker busy other at) ∙ snapped) late
    plan_refused _ (RefusesPlan.foreign other turn differs) snapped does =
        let same = same_row (state s).world driven ns worker busy other turn.0 in
        Stops.foreign ns worker busy (snapped_ends worker.phase worker.tries snapped)
        (other_seen worker.kept planned (subst (λ (x : Worker). x.kept ≡ Some planned → ⊥) same differs))
    plan_refused _ (RefusesPlan.empty other turn kept nothing) snapped does = not_both nothing does

    submit_stops : (refusal : Refusal) → is_snapped worker.phase ≡ true → does_nothing (plan planned) ≡ false →
        lacks s (Step.Submit driven ns) refusal ⊎ RefusesPlan (state s).world driven ns planned refusal →
        Stops state notes lacks s (Some planned) (Stop.Refused refusal)
    submit_stops refusal snapped does (inl lack) =
        Stops.lacking (Step.Submit driven ns) refusal (IsTried.submit ns worker planned busy refl (may_hand_in worker.phase planned snapped does)) lack
    submit_stops refusal snapped does (inr refuses) = plan_refused refusal refuses snapped does

    pub hand_in_refused : (new : S) (refusal : Refusal) → AttemptsSubmit state notes lacks driven ns planned s (Err refusal) new →
        is_snapped worker.phase ≡ true → does_nothing (plan planned) ≡ false →
        Ends state notes lacks s (Some planned) (Stop.Refused refusal) new
    hand_in_refused new refusal (inl made) snapped does = by_model s new (Some planned) (Step.Submit driven ns) refusal
        (IsNext.submit ns worker planned busy (keeps (state s).world driven ns worker busy planned made.0)
        (may_hand_in worker.phase planned snapped does)) refl made.1
    hand_in_refused new refusal (inr lacking) snapped does = by_want s new (Some planned) refusal
        (λ x r. lacks x (Step.Submit driven ns) r ⊎ RefusesPlan (state x).world driven ns planned r)
        (λ r why. submit_stops r snapped does why) lacking

    finish_refused : (refusal : Refusal) → RefusesFinish (state s).world driven ns planned refusal → is_ending worker.phase worker.tries ≡ true →
        may_finish_in worker.phase worker.tries planned ≡ true → Stops state notes lacks s (Some planned) (Stop.Refused refusal)
    finish_refused _ (RefusesFinish.idle none) ending may = absurd (not_Some worker (sym none ∙ row_there (state s).world driven ns worker busy))
    finish_refused _ (RefusesFinish.out_of_turn other at late) ending may =
        not_both (ap (λ (x : Worker). is_ending x.phase x.tries) (same_row (state s).world driven ns worker busy other at) ∙ ending) late
    finish_refused _ (RefusesFinish.foreign other turn differs) ending may =
        let same = same_row (state s).world driven ns worker busy other turn.0 in
        Stops.foreign ns worker busy ending (other_seen worker.kept planned (subst (λ (x : Worker). x.kept ≡ Some planned → ⊥) same differs))
    finish_refused _ (RefusesFinish.unplaced other turn kept may_not) ending may =
        not_both may (ap (λ (x : Worker). may_finish_in x.phase x.tries planned) (sym (same_row (state s).world driven ns worker busy other turn.0)) ∙ may_not)

    finish_stops : (refusal : Refusal) → is_ending worker.phase worker.tries ≡ true → may_finish_in worker.phase worker.tries planned ≡ true →
        lacks s (Step.Finish driven ns) refusal ⊎ RefusesFinish (state s).world driven ns planned refusal →
        Stops state notes lacks s (Some planned) (Stop.Refused refusal)
    finish_stops refusal ending may (inl lack) =
        Stops.lacking (Step.Finish driven ns) refusal (IsTried.finish ns worker planned busy refl may) lack
    finish_stops refusal ending may (inr refuses) = finish_refused refusal refuses ending may

    pub end_refused : (new : S) (refusal : Refusal) → AttemptsFinish state notes lacks driven ns planned s (Err refusal) new →
        is_ending worker.phase worker.tries ≡ true → (is_snapped worker.phase ≡ true → does_nothing (plan planned) ≡ true) →
        Ends state notes lacks s (Some planned) (Stop.Refused refusal) new
    end_refused new refusal (inl made) ending nothing = by_model s new (Some planned) (Step.Finish driven ns) refusal
        (IsNext.finish ns worker planned busy (keeps (state s).world driven ns worker busy planned made.0)
        (may_end worker.phase worker.tries planned ending nothing)) refl made.1
    end_refused new refusal (inr lacking) ending nothing = by_want s new (Some planned) refusal
        (λ x r. lacks x (Step.Finish driven ns) r ⊎ RefusesFinish (state x).world driven ns planned r)
        (λ r why. finish_stops r ending (may_end worker.phase worker.tries planned ending nothing) why) lacking

  -- ---- no plan

  pub unplanned : (s : S) (has has' : Option Snapshot) (ns : Name) (worker : Worker) (refusal : Refusal) → has' ≡ has →
      IsBusyFor (state s).world ns worker → is_ending worker.phase worker.tries ≡ true → HasNoPlan has refusal →
      Ends state notes lacks s has' (Stop.Refused refusal) s
  unplanned s has has' ns worker refusal same busy ending none =
      inl (subst (λ h. Stops state notes lacks s h (Stop.Refused refusal)) (sym same) (by refusal none), refl)
    where
      by : (refusal : Refusal) → HasNoPlan has refusal → Stops state notes lacks s has (Stop.Refused refusal)
      by _ (HasNoPlan.nothing none) = Stops.foreign ns worker busy ending (λ seen is. absurd (not_Some seen (sym none ∙ is)))
      by _ (HasNoPlan.unfit seen is unfit) = Stops.unfit seen is unfit
      by _ HasNoPlan.memory = Stops.memory (not_at_rest (state s).world ns worker busy)
