-- What a call of the server comes to.
use Rattle.std.specs.Prelude.{◌≡◌, ◌≢◌, ℕ, Bool, true, false, cond, not, ◌&&◌, [], ◌∷◌, Option, Some, None, Ok, Err}
use Rattle.std.proofs.Common.{refl, sym, ap, ◌∙◌, inl, inr}
use Rattle.std.proofs.Math.Bool.{and-false}
use Rattle.std.proofs.lemmas.Bool.{eqb-true}
use Rattle.std.specs.FinMap.{get}
use Rattle.std.specs.Option.{option_map_or, option_and_then}
use Rattle.ns_types.specs.declared.evaluation.Evaluation.{Evaluation}
use Rattle.ns_types.specs.declared.refusal.Refusal.{Refusal}
use Rattle.ns_types.specs.declared.reply.Content.TheVariants as Content
use Rattle.ns_types.specs.declared.reply.Reply.{Reply}
use Rattle.ns_types.specs.declared.snapshot.Snapshot.{Snapshot}
use Rattle.ns_types.specs.declared.step.Step.{Step}
use Rattle.ns_types.specs.declared.worker.Phase.{Phase}
use Rattle.ns_types.specs.Asking.Policies.{with_world}
use Rattle.ns_types.specs.Placing.Plan.{plan, does_nothing}
use Rattle.ns_types.specs.Settling.Outcome.{Outcome, NotEnabled, Done, lift}
use Rattle.ns_types.specs.State.Names.{Name}
use Rattle.ns_types.specs.State.Rows.{State, World, Tenant}
use Rattle.ns_types.specs.Steps.{Answer, Makes, Run, act, after, concluded, is_made}
use Rattle.ns_types.specs.Working.Looks.{RefusesFinish, RefusesPlan, is_ending, worker_at}
use Rattle.ns_types.specs.Working.Work.{at_work, finish, finish_for, finished, is_snapped, may_finish, may_finish_in, may_submit}
use Rattle.ns_types.specs.Working.Work.{submit, submit_for, submitted}
use Rattle.ns_types.specs.Working.Worker.{Worker}
use Rattle.ns_types.proofs.Lists.{not_both}
use Rattle.ns_types.proofs.Tests.{not_Some, same_Some}
use Rattle.ns_laws.specs.Calls as law
use Rattle.ns_laws.proofs.Work.Steps.{snapped}

-- ---- every call that makes a step

pub call_is_one_step : law.CallIsOneStep
call_is_one_step step s s' answer made memory enabled = by answer made memory enabled
  where
    by : (a : Answer) → Makes step s a s' → a ≢ Err Refusal.Memory → a ≢ Err Refusal.NotEnabled → Run s (step ∷ []) (a ∷ []) s'
    by (Ok reply) made memory enabled = (s', made, refl)
    by (Err Refusal.Memory) made memory enabled = absurd (memory refl)
    by (Err Refusal.NotEnabled) made memory enabled = absurd (enabled refl)
    by (Err refusal) made memory enabled = (s, made.0, made.1)

pub refused_call_changes_nothing : law.RefusedCallChangesNothing
refused_call_changes_nothing step s s' refusal made = by refusal made
  where
    by : (refusal : Refusal) → Makes step s (Err refusal) s' → s' ≡ s
    by Refusal.Memory made = made.1
    by Refusal.NotEnabled made = made.1
    by refusal made = made.1

pub memory_comes_last : law.MemoryComesLast
memory_comes_last step s s' made = by (after step s) refl made.0
  where
    by : (o : Option (Answer × State)) → after step s ≡ o → is_made o ≡ true →
        (reply : Reply) × (made : State) × Run s (step ∷ []) (Ok reply ∷ []) made
    by None is e = not_both e refl
    by (Some (Ok reply, made)) is e = (reply, made, (made, is, refl))
    by (Some (Err refusal, made)) is e = not_both e refl

pub not_enabled_is_no_step : law.NotEnabledIsNoStep
not_enabled_is_no_step step s s' made answer not_made run = not_Some (answer, run.0) (sym not_made.0 ∙ run.1)

-- ---- what a worker cannot do

module _ (s : State) (number : ℕ) (ns : Name) (planned : Snapshot) (worker : Worker) (at : worker_at s.world number ns ≡ Some worker)
    (keeps : worker.kept ≡ Some planned) where
  -- where nothing is enabled by the snapshot that it keeps, nothing is
  not_at_work : (go : Tenant → Worker → Evaluation → Snapshot → Outcome World) →
      ((t : Tenant) (e : Evaluation) → go t worker e planned ≡ NotEnabled) →
      at_work number ns s.world (λ t x e. option_map_or (go t x e) x.kept NotEnabled) ≡ NotEnabled
  not_at_work go none = by (get s.world.tenants ns) at
    where
      with_one : (t : Tenant) (o : Option Evaluation) → option_map_or (λ e. option_map_or (go t worker e) worker.kept NotEnabled) o NotEnabled ≡ NotEnabled
      with_one t None = refl
      with_one t (Some e) = ap (λ (k : Option Snapshot). option_map_or (go t worker e) k NotEnabled) keeps ∙ none t e

      by : (o : Option Tenant) → option_and_then (λ t. get t.workers number) o ≡ Some worker →
          option_map_or (λ t. option_map_or (λ (x : Worker). option_map_or (λ e. option_map_or (go t x e) x.kept NotEnabled) (get t.evaluations x.evaluation)
          NotEnabled) (get t.workers number) NotEnabled) o NotEnabled ≡ NotEnabled
      by None is = refl
      by (Some t) is = ap (λ o. option_map_or (λ (x : Worker). option_map_or (λ e. option_map_or (go t x e) x.kept NotEnabled) (get t.evaluations x.evaluation)
          NotEnabled) o NotEnabled) is ∙ with_one t (get t.evaluations worker.evaluation)

  same_worker : (x : Worker) → worker_at s.world number ns ≡ Some x → x ≡ worker
  same_worker x is = same_Some x worker (sym is ∙ at)

  not_other : (x : Worker) → worker_at s.world number ns ≡ Some x → law.KeepsOther x planned → ⊥
  not_other x is other = other (ap (λ (x : Worker). x.kept) (same_worker x is) ∙ keeps)

  -- ---- a submission

  no_submit : may_submit worker planned ≡ false → after (Step.Submit number ns) s ≡ None
  unfolding after act submit
  no_submit e = ap (λ o. concluded (Step.Submit number ns) s (lift (with_world s.acl) o))
      (not_at_work (λ t x e kept. submit_for number ns s.world t x kept)
      (λ t _. ap (λ b. cond b (Done (Content.Queued worker.evaluation) (submitted number ns s.world t worker)) NotEnabled) e))

  cannot_submit : (refusal : Refusal) → RefusesPlan s.world number ns planned refusal → may_submit worker planned ≡ false
  cannot_submit _ (RefusesPlan.idle none) = absurd (not_Some worker (sym none ∙ at))
  cannot_submit _ (RefusesPlan.out_of_turn x is late) =
      ap (λ b. b && not (does_nothing (plan planned))) (ap (λ (x : Worker). is_snapped x.phase) (sym (same_worker x is)) ∙ late)
  cannot_submit _ (RefusesPlan.foreign x turn other) = absurd (not_other x turn.0 other)
  cannot_submit _ (RefusesPlan.empty x turn kept nothing) = ap (λ b. is_snapped worker.phase && not b) nothing ∙ and-false (is_snapped worker.phase)

  -- ---- a finish

  no_finish : may_finish worker planned ≡ false → after (Step.Finish number ns) s ≡ None
  unfolding after act finish
  no_finish never = ap (λ o. concluded (Step.Finish number ns) s (lift (with_world s.acl) o))
      (not_at_work (λ t x e kept. finish_for number ns s.world t x e kept)
      (λ t e. ap (λ b. cond b (finished number ns s.world t worker e planned) NotEnabled) never))

  no_end : (phase : Phase) → is_ending phase worker.tries ≡ false → may_finish_in phase worker.tries planned ≡ false
  no_end Phase.Took e = refl
  no_end Phase.Snapped e = not_both refl e
  no_end Phase.Submitted e = refl
  no_end Phase.Applied e = e
  no_end Phase.Dropped e = e

  cannot_finish : (refusal : Refusal) → RefusesFinish s.world number ns planned refusal → may_finish worker planned ≡ false
  cannot_finish _ (RefusesFinish.idle none) = absurd (not_Some worker (sym none ∙ at))
  cannot_finish _ (RefusesFinish.out_of_turn x is late) =
      no_end worker.phase (ap (λ (x : Worker). is_ending x.phase x.tries) (sym (same_worker x is)) ∙ late)
  cannot_finish _ (RefusesFinish.foreign x turn other) = absurd (not_other x turn.0 other)
  cannot_finish _ (RefusesFinish.unplaced x turn kept never) = ap (λ (x : Worker). may_finish x planned) (sym (same_worker x turn.0)) ∙ never

pub own_plan_is_refused_only_so : law.OwnPlanIsRefusedOnlySo
own_plan_is_refused_only_so s number ns planned worker refusal at keeps refuses =
    no_submit s number ns planned worker at keeps (cannot_submit s number ns planned worker at keeps refusal refuses)

pub own_finish_is_refused_only_so : law.OwnFinishIsRefusedOnlySo
own_finish_is_refused_only_so s number ns planned worker refusal at keeps refuses =
    no_finish s number ns planned worker at keeps (cannot_finish s number ns planned worker at keeps refusal refuses)

-- ---- a foreign plan

is_foreign : Refusal → Bool
is_foreign Refusal.Foreign = true
is_foreign _ = false

module _ (s : State) (number : ℕ) (ns : Name) (planned : Snapshot) where
  abbrev ForeignIn : (Worker → Type 0) → Type 0
  ForeignIn P = (worker : Worker) × (worker_at s.world number ns ≡ Some worker) × P worker × law.KeepsOther worker planned

  foreign_plan : (refusal : Refusal) → RefusesPlan s.world number ns planned refusal → is_foreign refusal ≡ true →
      ForeignIn (λ worker. worker.phase ≡ Phase.Snapped)
  unfolding is_foreign
  foreign_plan _ (RefusesPlan.idle none) e = not_both e refl
  foreign_plan _ (RefusesPlan.out_of_turn x is late) e = not_both e refl
  foreign_plan _ (RefusesPlan.foreign x turn other) e = (x, turn.0, snapped x.phase turn.1, other)
  foreign_plan _ (RefusesPlan.empty x turn kept nothing) e = not_both e refl

  ending : (worker : Worker) (phase : Phase) → worker.phase ≡ phase → is_ending phase worker.tries ≡ true → law.MightEnd worker
  ending worker Phase.Took is e = not_both e refl
  ending worker Phase.Snapped is e = inl is
  ending worker Phase.Submitted is e = not_both e refl
  ending worker Phase.Applied is e = inr (inl is)
  ending worker Phase.Dropped is e = inr (inr (is, eqb-true worker.tries 0 e))

  foreign_finish : (refusal : Refusal) → RefusesFinish s.world number ns planned refusal → is_foreign refusal ≡ true → ForeignIn law.MightEnd
  unfolding is_foreign
  foreign_finish _ (RefusesFinish.idle none) e = not_both e refl
  foreign_finish _ (RefusesFinish.out_of_turn x is late) e = not_both e refl
  foreign_finish _ (RefusesFinish.foreign x turn other) e = (x, turn.0, ending x x.phase refl turn.1, other)
  foreign_finish _ (RefusesFinish.unplaced x turn kept never) e = not_both e refl

pub foreign_plan_only_so : law.ForeignPlanOnlySo
unfolding is_foreign
foreign_plan_only_so s number ns planned refuses = foreign_plan s number ns planned Refusal.Foreign refuses refl

pub foreign_finish_only_so : law.ForeignFinishOnlySo
unfolding is_foreign
foreign_finish_only_so s number ns planned refuses = foreign_finish s number ns planned Refusal.Foreign refuses refl
