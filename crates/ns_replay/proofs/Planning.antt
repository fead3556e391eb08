-- The plan that a worker's step needs, and what the step is without it.
use Rattle.std.specs.Prelude.{◌≡◌, ℕ, true, false, if◌then◌else◌, Bool, Option, Some, None, Result, Ok, Err, IsOkUnless, IfOk}
use Rattle.std.proofs.Common.{inl, inr, refl, ap, sym, subst, ◌∙◌}
use Rattle.std.specs.FinMap.{get}
use Rattle.std.specs.Option.{option_and_then, option_map_or}
use Rattle.ns_types.specs.declared.refusal.Refusal.{Refusal}
use Rattle.ns_types.specs.declared.snapshot.Snapshot.{Snapshot}
use Rattle.ns_types.specs.declared.step.Step.{Step}
use Rattle.ns_types.specs.Asking.Policies.{with_world}
use Rattle.ns_types.specs.Settling.Outcome.{NotEnabled, lift}
use Rattle.ns_types.specs.State.Names.{Name}
use Rattle.ns_types.specs.State.Rows.{State, Tenant}
use Rattle.ns_types.specs.Steps.{Answer, act, after, concluded}
use Rattle.ns_types.specs.Validity.{IsValid}
use Rattle.ns_types.specs.Working.Looks.{RefusesFinish, RefusesPlan, is_ending, worker_at}
use Rattle.ns_types.specs.Working.Work.{finish, finish_for, is_snapped, submit, submit_for}
use Rattle.ns_types.specs.Working.Worker.{Worker}
use Rattle.ns_types.proofs.Tests.{not_Some}
use Rattle.ns_broker.specs.Snapping.{kept_at}
use Rattle.ns_broker.proofs.AtWork.{no_turn, no_worker}
use Rattle.ns_broker.proofs.Submitted
use Rattle.ns_driver.specs.Calls.{FinishesBy, HandsIn}
use Rattle.ns_followers.proofs.Answered as Finished
use Rattle.ns_schedule.proofs.Kept.{kept_fits}
use Rattle.ns_schedule.specs.Fits.{fits}
use Rattle.ns_replay.specs.Making.{MakesAny, NeedsPlan}
use Rattle.ns_replay.specs.Planned.{HasFitting, PlansFor, PlansKept}

-- ---- a plan of what a row keeps

-- one that is made
pub plans : (kept : Option Snapshot) (seen : Snapshot) → kept ≡ Some seen → fits seen ≡ true → (r : Result Snapshot Refusal) →
    IfOk r (λ planned. planned ≡ seen) → IsOkUnless r (if fits seen then Refusal.Memory else Refusal.Full) → PlansKept kept r
plans kept seen is fit (Ok planned) same e = is ∙ ap Some (sym same)
plans kept seen is fit (Err refusal) same e = subst (λ o. PlansKept o (Err refusal)) (sym is)
    (e ∙ ap (λ (b : Bool). if b then Refusal.Memory else Refusal.Full) fit)

-- ---- in a valid state each row's snapshot fits

pub fitting : (s : State) (worker : ℕ) (ns : Name) (row : Worker) → IsValid s → worker_at s.world worker ns ≡ Some row → HasFitting row
fitting s worker ns row valid at kept is = by (get s.world.tenants ns) refl at
  where
    by : (o : Option Tenant) → get s.world.tenants ns ≡ o → option_and_then (λ t. get t.workers worker) o ≡ Some row → fits kept ≡ true
    by None there has = absurd (not_Some row has)
    by (Some t) there has = kept_fits s ns t worker row kept valid there has is

-- ---- steps out of turn

module _ (s : State) (worker : ℕ) (ns : Name) where
  submit_out : submit worker ns s.world ≡ NotEnabled → MakesAny (Step.Submit worker ns) s (Err Refusal.NotEnabled) s
  unfolding after act
  submit_out out = (ap (λ o. concluded (Step.Submit worker ns) s (lift (with_world s.acl) o)) out, refl)

  finish_out : finish worker ns s.world ≡ NotEnabled → MakesAny (Step.Finish worker ns) s (Err Refusal.NotEnabled) s
  unfolding after act
  finish_out out = (ap (λ o. concluded (Step.Finish worker ns) s (lift (with_world s.acl) o)) out, refl)

  none_submits : worker_at s.world worker ns ≡ None → submit worker ns s.world ≡ NotEnabled
  unfolding submit
  none_submits none = no_worker worker ns s.world _ none

  none_finishes : worker_at s.world worker ns ≡ None → finish worker ns s.world ≡ NotEnabled
  unfolding finish
  none_finishes none = no_worker worker ns s.world _ none

  pub idle_submits : worker_at s.world worker ns ≡ None → MakesAny (Step.Submit worker ns) s (Err Refusal.NotEnabled) s
  idle_submits none = submit_out (none_submits none)

  pub idle_finishes : worker_at s.world worker ns ≡ None → MakesAny (Step.Finish worker ns) s (Err Refusal.NotEnabled) s
  idle_finishes none = finish_out (none_finishes none)

  module _ (row : Worker) (at : worker_at s.world worker ns ≡ Some row) where
    kept_there : kept_at s.world worker ns ≡ row.kept
    kept_there = ap (option_and_then (λ (row : Worker). row.kept)) at

    bare_submits : row.kept ≡ None → submit worker ns s.world ≡ NotEnabled
    unfolding submit
    bare_submits none = no_turn worker ns s.world _ row at
        (λ t e. ap (λ o. option_map_or (submit_for worker ns s.world t row) o NotEnabled) none)

    bare_finishes : row.kept ≡ None → finish worker ns s.world ≡ NotEnabled
    unfolding finish
    bare_finishes none = no_turn worker ns s.world _ row at
        (λ t e. ap (λ o. option_map_or (finish_for worker ns s.world t row e) o NotEnabled) none)

    pub late_submits : is_snapped row.phase ≡ false → MakesAny (Step.Submit worker ns) s (Err Refusal.NotEnabled) s
    late_submits late = submit_out (by row.kept refl)
      where
        by : (o : Option Snapshot) → row.kept ≡ o → submit worker ns s.world ≡ NotEnabled
        by None is = bare_submits is
        by (Some kept) is = Submitted.not_enabled s.world worker ns kept (RefusesPlan.out_of_turn row at late)

    pub late_finishes : is_ending row.phase row.tries ≡ false → MakesAny (Step.Finish worker ns) s (Err Refusal.NotEnabled) s
    late_finishes late = finish_out (by row.kept refl)
      where
        by : (o : Option Snapshot) → row.kept ≡ o → finish worker ns s.world ≡ NotEnabled
        by None is = bare_finishes is
        by (Some kept) is = Finished.not_enabled s.world worker ns kept (RefusesFinish.out_of_turn row at late)

    -- ---- a worker that is at that

    pub plans_submit : is_snapped row.phase ≡ true → (r : Result Snapshot Refusal) → PlansKept row.kept r → PlansFor (Step.Submit worker ns) worker ns s r
    plans_submit turn (Ok planned) p = kept_there ∙ p
    plans_submit turn (Err refusal) p = by row.kept refl p
      where
        by : (o : Option Snapshot) → row.kept ≡ o → PlansKept o (Err refusal) → MakesAny (Step.Submit worker ns) s (Err refusal) s
        by None is e = subst (λ refusal. MakesAny (Step.Submit worker ns) s (Err refusal) s) (sym e) (submit_out (bare_submits is))
        by (Some kept) is e = subst (λ refusal. MakesAny (Step.Submit worker ns) s (Err refusal) s) (sym e)
            (inr (NeedsPlan.submit worker ns row kept (at, turn) is), refl)

    pub plans_finish : is_ending row.phase row.tries ≡ true → (r : Result Snapshot Refusal) → PlansKept row.kept r →
        PlansFor (Step.Finish worker ns) worker ns s r
    plans_finish turn (Ok planned) p = kept_there ∙ p
    plans_finish turn (Err refusal) p = by row.kept refl p
      where
        by : (o : Option Snapshot) → row.kept ≡ o → PlansKept o (Err refusal) → MakesAny (Step.Finish worker ns) s (Err refusal) s
        by None is e = subst (λ refusal. MakesAny (Step.Finish worker ns) s (Err refusal) s) (sym e) (finish_out (bare_finishes is))
        by (Some kept) is e = subst (λ refusal. MakesAny (Step.Finish worker ns) s (Err refusal) s) (sym e)
            (inr (NeedsPlan.finish worker ns row kept (at, turn) is), refl)

  -- ---- the plan is handed in, or the worker finishes by it

  module _ (planned : Snapshot) (keeps : kept_at s.world worker ns ≡ Some planned) where
    keeps_it : (row : Worker) → worker_at s.world worker ns ≡ Some row → row.kept ≡ Some planned
    keeps_it row at = sym (kept_there row at) ∙ keeps

    only_out : (refusal : Refusal) → RefusesPlan s.world worker ns planned refusal → refusal ≡ Refusal.NotEnabled
    only_out _ (RefusesPlan.idle none) = refl
    only_out _ (RefusesPlan.out_of_turn row at late) = refl
    only_out _ (RefusesPlan.foreign row turn differs) = absurd (differs (keeps_it row turn.0))
    only_out _ (RefusesPlan.empty row turn kept nothing) = refl

    not_handed_in : (refusal : Refusal) (s' : State) → RefusesPlan s.world worker ns planned refusal → s' ≡ s →
        MakesAny (Step.Submit worker ns) s (Err refusal) s'
    not_handed_in refusal s' h same = let is = only_out refusal h in
        subst (λ x. MakesAny (Step.Submit worker ns) s (Err refusal) x) (sym same)
        (subst (λ r. MakesAny (Step.Submit worker ns) s (Err r) s) (sym is)
        (submit_out (Submitted.not_enabled s.world worker ns planned (subst (RefusesPlan s.world worker ns planned) is h))))

    pub handed_in : (answer : Answer) (s' : State) → HandsIn worker ns planned s answer s' → MakesAny (Step.Submit worker ns) s answer s'
    handed_in (Ok reply) s' h = h.1
    handed_in (Err Refusal.Memory) s' h = (inl h.1.0, h.1.1)
    handed_in (Err refusal) s' h = not_handed_in refusal s' h.0 h.1

    only_late : (refusal : Refusal) → RefusesFinish s.world worker ns planned refusal → refusal ≡ Refusal.NotEnabled
    only_late _ (RefusesFinish.idle none) = refl
    only_late _ (RefusesFinish.out_of_turn row at late) = refl
    only_late _ (RefusesFinish.foreign row turn differs) = absurd (differs (keeps_it row turn.0))
    only_late _ (RefusesFinish.unplaced row turn kept may_not) = refl

    not_finished : (refusal : Refusal) (s' : State) → RefusesFinish s.world worker ns planned refusal → s' ≡ s →
        MakesAny (Step.Finish worker ns) s (Err refusal) s'
    not_finished refusal s' h same = let is = only_late refusal h in
        subst (λ x. MakesAny (Step.Finish worker ns) s (Err refusal) x) (sym same)
        (subst (λ r. MakesAny (Step.Finish worker ns) s (Err r) s) (sym is)
        (finish_out (Finished.not_enabled s.world worker ns planned (subst (RefusesFinish s.world worker ns planned) is h))))

    pub finished_by : (answer : Answer) (s' : State) → FinishesBy worker ns planned s answer s' → MakesAny (Step.Finish worker ns) s answer s'
    finished_by (Ok reply) s' h = h.1
    finished_by (Err Refusal.Memory) s' h = (inl h.1.0, h.1.1)
    finished_by (Err Refusal.Full) s' h = h.1
    finished_by (Err refusal) s' h = not_finished refusal s' h.0 h.1
