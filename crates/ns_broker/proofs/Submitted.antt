-- What handing in a plan comes to.
use Rattle.std.specs.Prelude.{◌≡◌, ℕ, Bool, true, false, cond, not, ◌&&◌, IsTrue, Option, Some, None, Result, Ok, Err, is_some}
use Rattle.std.proofs.Common.{refl, ap, sym, subst, ◌∙◌}
use Rattle.std.specs.FinMap.{get}
use Rattle.std.specs.Option.{option_and_then, option_map_or}
use Rattle.ns_types.specs.declared.evaluation.Evaluation.{Evaluation}
use Rattle.ns_types.specs.declared.refusal.Refusal.{Refusal}
use Rattle.ns_types.specs.declared.reply.Content.{Content}
use Rattle.ns_types.specs.declared.snapshot.Snapshot.{Snapshot}
use Rattle.ns_types.specs.declared.worker.Phase.TheVariants as Phase
use Rattle.ns_types.specs.Working.Worker.{Worker}
use Rattle.ns_types.specs.Placing.Plan.{does_nothing, plan}
use Rattle.ns_types.specs.Settling.Making.{put_tenant}
use Rattle.ns_types.specs.Settling.Outcome.{Outcome, NotEnabled, Done, is_done}
use Rattle.ns_types.specs.Settling.Settle.{settle}
use Rattle.ns_types.specs.State.Names.{Name}
use Rattle.ns_types.specs.State.Rows.{World, Tenant, evaluation_at}
use Rattle.ns_types.specs.Steps.{is_past_bound}
use Rattle.ns_types.specs.Working.Looks.{RefusesPlan}
use Rattle.ns_types.specs.Working.Work.{is_snapped, may_submit, submit, submit_for, submitted, with_worker}
use Rattle.ns_types.proofs.Lists.{not_both}
use Rattle.ns_types.proofs.Settling.{untouched}
use Rattle.ns_types.proofs.Tests.{not_Some}
use Rattle.ns_change.specs.declared.change.Prepared.{Prepared}
use Rattle.ns_change.specs.Changed.{with_plan}
use Rattle.ns_change.specs.Prepared.{Prepares}
use Rattle.ns_types.proofs.Outcomes.{state_or}
use Rattle.ns_broker.proofs.Bounding.{unseen}
use Rattle.ns_broker.proofs.AtWork.{no_turn, no_worker, works}
use Rattle.ns_broker.specs.Bounded.{SubmitPassesNothing}
use Rattle.ns_broker.specs.Snapping.{kept_at}
use Rattle.ns_broker.specs.Submitting.{HasWork, IsAdmitted, RefusedIsNotEnabled, SoundHasWork, Submits, handed_in}
use Rattle.ns_tables.specs.declared.tables.Tables.{Tables}
use Rattle.ns_tables.specs.World.{world_of}

module _ (number : ℕ) (ns : Name) (w : World) (planned : Snapshot) (worker : Worker) (admitted : IsAdmitted w number ns planned worker) where
  keeps_it : kept_at w number ns ≡ Some planned
  keeps_it = ap (option_and_then (λ (worker : Worker). worker.kept)) admitted.in_turn.0 ∙ admitted.kept

  handed : (e : Evaluation) → evaluation_at w (ns, worker.evaluation) ≡ Some e →
      submit number ns w ≡ Done (Content.Queued worker.evaluation) (handed_in number ns worker w)
  unfolding submit
  handed e there = works number ns w worker e admitted.in_turn.0 there _ _ (λ t at.
      ap (λ o. option_map_or (submit_for number ns w t worker) o NotEnabled) admitted.kept
      ∙ (λ i. cond (admitted.in_turn.1 i && not (admitted.does i)) (Done (Content.Queued worker.evaluation) (submitted number ns w t worker)) NotEnabled)
      ∙ ap (λ o. Done (Content.Queued worker.evaluation) (with_plan (ns, worker.evaluation)
      (option_map_or (λ t. put_tenant ns (with_worker number (record worker { phase = Phase.Submitted }) t) w) o w))) (sym at))

  is_handed_in : HasWork w number ns → submit number ns w ≡ Done (Content.Queued worker.evaluation) (handed_in number ns worker w)
  is_handed_in work = by (evaluation_at w (ns, worker.evaluation)) refl (work worker admitted.in_turn.0)
    where
      by : (o : Option Evaluation) → evaluation_at w (ns, worker.evaluation) ≡ o → IsTrue (is_some o) →
          submit number ns w ≡ Done (Content.Queued worker.evaluation) (handed_in number ns worker w)
      by None there some = not_both some refl
      by (Some e) there some = handed e there

module _ (number : ℕ) (ns : Name) (t : Tables) (planned : Snapshot) where
  -- what is prepared for an admitted plan is the model's step
  pub submits : (worker : Worker) → IsAdmitted (world_of t) number ns planned worker → HasWork (world_of t) number ns → (r : Result Prepared Refusal) →
      Prepares (Done (Content.Queued worker.evaluation) (handed_in number ns worker (world_of t))) t r → Submits number ns planned t r
  submits worker admitted work (Ok x) p =
      (keeps_it number ns (world_of t) planned worker admitted, is_handed_in number ns (world_of t) planned worker admitted work ∙ p)
  submits worker admitted work (Err Refusal.Memory) p =
      (keeps_it number ns (world_of t) planned worker admitted, ap is_done (is_handed_in number ns (world_of t) planned worker admitted work))
  submits worker admitted work (Err Refusal.NotEnabled) p = not_both refl (ap is_done p)
  submits worker admitted work (Err refusal) p = not_both refl (ap is_done p)

  -- what it is refused for is not want of memory
  pub refused : (refusal : Refusal) → RefusesPlan (world_of t) number ns planned refusal → Submits number ns planned t (Err refusal)
  refused _ (RefusesPlan.idle none) = RefusesPlan.idle none
  refused _ (RefusesPlan.out_of_turn worker has off) = RefusesPlan.out_of_turn worker has off
  refused _ (RefusesPlan.foreign worker turn other) = RefusesPlan.foreign worker turn other
  refused _ (RefusesPlan.empty worker turn kept nothing) = RefusesPlan.empty worker turn kept nothing

-- ---- a step that is made

-- what is made of something that may be missing is made where it is there
made_with : {A : Type 0} (f : A → Outcome World) (o : Option A) (content : Content) (x : World) → option_map_or f o NotEnabled ≡ Done content x →
    (goal : Type 0) → ((a : A) → o ≡ Some a → f a ≡ Done content x → goal) → goal
made_with f None content x is goal go = not_both (ap is_done is) refl
made_with f (Some a) content x is goal go = go a refl is

module _ (number : ℕ) (ns : Name) (w : World) (content : Content) (x : World) where
  if_made : (t : Tenant) (worker : Worker) (kept : Snapshot) → submit_for number ns w t worker kept ≡ Done content x →
      Done (Content.Queued worker.evaluation) (submitted number ns w t worker) ≡ Done content x
  if_made t worker kept = by (may_submit worker kept)
    where
      by : (b : Bool) → cond b (Done (Content.Queued worker.evaluation) (submitted number ns w t worker)) NotEnabled ≡ Done content x →
          Done (Content.Queued worker.evaluation) (submitted number ns w t worker) ≡ Done content x
      by true is = is
      by false is = not_both (ap is_done is) refl

  -- its worker is there, and it has submitted
  handed_over : submit number ns w ≡ Done content x → (goal : Type 0) → ((t : Tenant) → get w.tenants ns ≡ Some t → (worker : Worker) →
      Done (Content.Queued worker.evaluation) (submitted number ns w t worker) ≡ Done content x → goal) → goal
  unfolding submit
  handed_over is goal go = made_with _ (get w.tenants ns) content x is goal (λ t at is.
      made_with _ (get t.workers number) content x is goal (λ worker has is.
      made_with _ (get t.evaluations worker.evaluation) content x is goal (λ e there is.
      made_with (submit_for number ns w t worker) worker.kept content x is goal (λ kept keeps is.
      go t at worker (if_made t worker kept is)))))

pub submit_fits : SubmitPassesNothing
submit_fits number ns w content x within is = handed_over number ns w content x is _ (λ t at worker done.
    let left = with_worker number (record worker { phase = Phase.Submitted }) t in
    subst (λ x. is_past_bound (settle w x) ≡ false) (ap (state_or w) done)
    (unseen w (submitted number ns w t worker) ns t left within at refl refl refl refl refl refl refl (untouched t)))

-- ---- a step that is not enabled

module _ (number : ℕ) (ns : Name) (w : World) (t : Tenant) (worker : Worker) where
  abbrev of_kept : Option Snapshot → Outcome World
  of_kept o = option_map_or (submit_for number ns w t worker) o NotEnabled

  not_snapped : is_snapped worker.phase ≡ false → of_kept worker.kept ≡ NotEnabled
  not_snapped late = by worker.kept
    where
      by : (o : Option Snapshot) → of_kept o ≡ NotEnabled
      by None = refl
      by (Some kept) = ap (λ b. cond (b && not (does_nothing (plan kept)))
          (Done (Content.Queued worker.evaluation) (submitted number ns w t worker)) NotEnabled) late

  nothing_done : (planned : Snapshot) → is_snapped worker.phase ≡ true → worker.kept ≡ Some planned → does_nothing (plan planned) ≡ true →
      of_kept worker.kept ≡ NotEnabled
  nothing_done planned snapped kept nothing = ap of_kept kept
      ∙ (λ i. cond (snapped i && not (nothing i)) (Done (Content.Queued worker.evaluation) (submitted number ns w t worker)) NotEnabled)

pub not_enabled : RefusedIsNotEnabled
unfolding submit
not_enabled w number ns planned (RefusesPlan.idle none) = no_worker number ns w _ none
not_enabled w number ns planned (RefusesPlan.out_of_turn worker has late) = no_turn number ns w _ worker has (λ t e. not_snapped number ns w t worker late)
not_enabled w number ns planned (RefusesPlan.empty worker turn kept nothing) = no_turn number ns w _ worker turn.0
    (λ t e. nothing_done number ns w t worker planned turn.1 kept nothing)

-- ---- in a valid world a worker's evaluation is there

pub has_work : SoundHasWork
has_work w sound number ns worker has = by (get w.tenants ns) refl has
  where
    by : (o : Option Tenant) → get w.tenants ns ≡ o → option_and_then (λ t. get t.workers number) o ≡ Some worker →
        IsTrue (is_some (option_and_then (λ t. get t.evaluations worker.evaluation) o))
    by None is has = absurd (not_Some worker has)
    by (Some t) is has = ap is_some ((sound.tenant ns t is).worker number worker has).is_row
