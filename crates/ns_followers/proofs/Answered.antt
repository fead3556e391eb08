-- What a finish answers.
use Rattle.std.specs.Prelude.{◌≡◌, ℕ, ◌+◌, ◌<◌, ◌≤◌, ◌^◌, Bool, true, false, cond, Option, Some, None, Result, Ok, Err, nat_lt}
use Rattle.std.proofs.Common.{refl, arith, ap, sym, subst, ◌∙◌}
use Rattle.std.proofs.lemmas.Bool.{ltb-false}
use Rattle.std.specs.Option.{option_and_then, option_map_or}
use Rattle.std.specs.FinMap.{get}
use Rattle.ns_types.specs.declared.evaluation.Evaluation.{Evaluation}
use Rattle.ns_types.specs.declared.refusal.Refusal.{Refusal}
use Rattle.ns_types.specs.declared.reply.Content.{Content}
use Rattle.ns_types.specs.declared.snapshot.Snapshot.{Snapshot}
use Rattle.ns_types.specs.declared.worker.Phase.{Phase}
use Rattle.ns_types.specs.Settling.Outcome.{Outcome, NotEnabled, Done, is_done}
use Rattle.ns_types.specs.Settling.Settle.{settle}
use Rattle.ns_types.specs.State.Names.{Name}
use Rattle.ns_types.specs.State.Rows.{World, Tenant, evaluation_at, is_pending}
use Rattle.ns_types.specs.Steps.{greatest, is_past_bound}
use Rattle.ns_types.specs.Working.Looks.{RefusesFinish, is_ending}
use Rattle.ns_types.specs.Working.Work.{end_of, finish, finish_for, finished, may_finish, may_finish_in, needs_follower}
use Rattle.ns_types.specs.Working.Worker.{Worker}
use Rattle.ns_types.proofs.Lists.{not_both, right_none}
use Rattle.ns_types.proofs.Tests.{same_Some}
use Rattle.ns_broker.proofs.AtWork.{no_turn, no_worker}
use Rattle.ns_broker.specs.Snapping.{kept_at}
use Rattle.ns_change.specs.declared.change.Prepared.{Prepared}
use Rattle.ns_change.specs.Changed.{HasEvaluationLeft}
use Rattle.ns_change.specs.Prepared.{Prepares}
use Rattle.ns_change.proofs.Bounded.{done_still, refused_full}
use Rattle.ns_followers.proofs.Finished.{end_by, ends_alone, ends_followed}
use Rattle.ns_followers.proofs.Passing.{alone_passes, followed_passes}
use Rattle.ns_followers.specs.Ending.{ended_alone, ended_followed}
use Rattle.ns_followers.specs.Finishing.{Finishes, HasPendingWork, IsAdmitted, RefusedIsNotEnabled, SoundHasPendingWork, passes_bound}
use Rattle.ns_followers.specs.Following.{made_follower}
use Rattle.ns_tables.specs.declared.tables.Tables.{Tables}
use Rattle.ns_tables.specs.World.{world_of}

-- ---- a finish that is admitted

module _ (number : ℕ) (ns : Name) (w : World) (planned : Snapshot) (worker : Worker) (admitted : IsAdmitted w number ns planned worker)
    (t : Tenant) (at : get w.tenants ns ≡ Some t) (e : Evaluation) (there : evaluation_at w (ns, worker.evaluation) ≡ Some e) where
  keeps_it : kept_at w number ns ≡ Some planned
  keeps_it = ap (option_and_then (λ (worker : Worker). worker.kept)) admitted.at_end.0 ∙ admitted.kept

  has : get t.workers number ≡ Some worker
  has = ap (option_and_then (λ (t : Tenant). get t.workers number)) (sym at) ∙ admitted.at_end.0

  row : get t.evaluations worker.evaluation ≡ Some e
  row = ap (option_and_then (λ (t : Tenant). get t.evaluations worker.evaluation)) (sym at) ∙ there

  finish_is : finish number ns w ≡ finished number ns w t worker e planned
  unfolding finish
  finish_is =
      let of_kept = λ (t : Tenant) (worker : Worker) (e : Evaluation). option_map_or (finish_for number ns w t worker e) worker.kept NotEnabled in
      let of_worker = λ (t : Tenant) (worker : Worker). option_map_or (of_kept t worker) (get t.evaluations worker.evaluation) NotEnabled in
      ap (λ o. option_map_or (λ t. option_map_or (of_worker t) (get t.workers number) NotEnabled) o NotEnabled) at
      ∙ ap (λ o. option_map_or (of_worker t) o NotEnabled) has
      ∙ ap (λ o. option_map_or (of_kept t worker) o NotEnabled) row
      ∙ ap (λ o. option_map_or (finish_for number ns w t worker e) o NotEnabled) admitted.kept
      ∙ ap (λ b. cond b (finished number ns w t worker e planned) NotEnabled) admitted.may

  module _ (within : is_past_bound w ≡ false) (pending : HasPendingWork w number ns) where
    open_row : (is_pending e.status ≡ true) × (worker.evaluation ≤ t.evaluation_number)
    open_row = pending t worker e at has row

    module _ (none : needs_follower worker planned ≡ false) where
      pub alone_is : finish number ns w ≡ Done (Content.Finished (end_of worker) None) (ended_alone (end_by number ns worker e) w)
      alone_is = finish_is ∙ ends_alone number ns w t worker e planned at none

      pub alone_settles : is_past_bound (settle w (ended_alone (end_by number ns worker e) w)) ≡ passes_bound false t
      alone_settles = alone_passes number ns w t worker e planned within at row open_row.0

    module _ (some : needs_follower worker planned ≡ true) where
      abbrev followed_world : World
      followed_world = ended_followed (end_by number ns worker e) (t.evaluation_number + 1) (made_follower w e worker planned) w

      pub followed_is : finish number ns w ≡ Done (Content.Finished (end_of worker) (Some (t.evaluation_number + 1))) followed_world
      followed_is = finish_is ∙ ends_followed number ns w t worker e planned at some

      pub followed_settles : is_past_bound (settle w followed_world) ≡ passes_bound true t
      followed_settles = followed_passes number ns w t worker e planned within at row open_row.0 open_row.1

module _ (number : ℕ) (ns : Name) (tables : Tables) (planned : Snapshot) where
  abbrev w : World
  w = world_of tables

  -- what is prepared is the model's step
  made : kept_at w number ns ≡ Some planned → (content : Content) (x : World) → finish number ns w ≡ Done content x →
      is_past_bound (settle w x) ≡ false → (r : Result Prepared Refusal) → Prepares (Done content x) tables r → Finishes number ns planned tables r
  made keeps content x is fits (Ok y) p = (keeps, done_still w _ content x is fits ∙ p)
  made keeps content x is fits (Err Refusal.Memory) p = (keeps, ap is_done (done_still w _ content x is fits))
  made keeps content x is fits (Err Refusal.NotEnabled) p = not_both refl (ap is_done p)
  made keeps content x is fits (Err Refusal.Full) p = not_both refl (ap is_done p)
  made keeps content x is fits (Err refusal) p = not_both refl (ap is_done p)

  -- what it is refused for is neither want of memory nor a bound
  pub refused : (refusal : Refusal) → RefusesFinish w number ns planned refusal → Finishes number ns planned tables (Err refusal)
  refused _ (RefusesFinish.idle none) = RefusesFinish.idle none
  refused _ (RefusesFinish.out_of_turn worker has off) = RefusesFinish.out_of_turn worker has off
  refused _ (RefusesFinish.foreign worker ending other) = RefusesFinish.foreign worker ending other
  refused _ (RefusesFinish.unplaced worker ending kept not_yet) = RefusesFinish.unplaced worker ending kept not_yet

  module _ (worker : Worker) (admitted : IsAdmitted w number ns planned worker) (t : Tenant) (at : get w.tenants ns ≡ Some t)
      (e : Evaluation) (there : evaluation_at w (ns, worker.evaluation) ≡ Some e) (within : is_past_bound w ≡ false)
      (pending : HasPendingWork w number ns) where
    abbrev keeps : kept_at w number ns ≡ Some planned
    keeps = keeps_it number ns w planned worker admitted t at e there

    pub alone_made : needs_follower worker planned ≡ false → passes_bound false t ≡ false → (r : Result Prepared Refusal) →
        Prepares (Done (Content.Finished (end_of worker) None) (ended_alone (end_by number ns worker e) w)) tables r →
        Finishes number ns planned tables r
    alone_made none fits = made keeps _ _ (alone_is number ns w planned worker admitted t at e there within pending none)
        (alone_settles number ns w planned worker admitted t at e there within pending none ∙ fits)

    pub followed_made : needs_follower worker planned ≡ true → passes_bound true t ≡ false → (r : Result Prepared Refusal) →
        Prepares (Done (Content.Finished (end_of worker) (Some (t.evaluation_number + 1)))
        (ended_followed (end_by number ns worker e) (t.evaluation_number + 1) (made_follower w e worker planned) w)) tables r →
        Finishes number ns planned tables r
    followed_made some fits = made keeps _ _ (followed_is number ns w planned worker admitted t at e there within pending some)
        (followed_settles number ns w planned worker admitted t at e there within pending some ∙ fits)

    -- want of memory, before anything is made
    pub no_memory : (b : Bool) → needs_follower worker planned ≡ b → passes_bound b t ≡ false → (r : Result Prepared Refusal) →
        r ≡ Err Refusal.Memory → Finishes number ns planned tables r
    no_memory true some fits r is = subst (Finishes number ns planned tables) (sym is) (followed_made some fits (Err Refusal.Memory) refl)
    no_memory false none fits r is = subst (Finishes number ns planned tables) (sym is) (alone_made none fits (Err Refusal.Memory) refl)

    -- a counter would pass its bound
    pub is_full : (b : Bool) → needs_follower worker planned ≡ b → passes_bound b t ≡ true → Finishes number ns planned tables (Err Refusal.Full)
    is_full true some past = (
      keeps,
      refused_full w _ _ _ (followed_is number ns w planned worker admitted t at e there within pending some)
          (followed_settles number ns w planned worker admitted t at e there within pending some ∙ past),
    )
    is_full false none past = (
      keeps,
      refused_full w _ _ _ (alone_is number ns w planned worker admitted t at e there within pending none)
          (alone_settles number ns w planned worker admitted t at e there within pending none ∙ past),
    )

-- ---- numbers that can be given

number_left : (n : ℕ) → nat_lt greatest (n + 1) ≡ false → n + 1 < 2 ^ 64
number_left n e = let le : n + 1 ≤ greatest = ltb-false greatest (n + 1) e in omega arith

pub next_fits : (t : Tenant) → passes_bound true t ≡ false → t.evaluation_number + 1 < 2 ^ 64
next_fits t fits = number_left t.evaluation_number (right_none (nat_lt greatest (t.index + 1)) _ fits)

pub left_here : (w : World) (ns : Name) (t : Tenant) → get w.tenants ns ≡ Some t → passes_bound true t ≡ false → HasEvaluationLeft w ns
left_here w ns t at fits z is = subst (λ (z : Tenant). z.evaluation_number + 1 < 2 ^ 64) (same_Some _ _ (sym at ∙ is)) (next_fits t fits)

-- ---- a step that is not enabled

module _ (number : ℕ) (ns : Name) (w : World) (t : Tenant) (worker : Worker) (e : Evaluation) where
  abbrev of_kept : Option Snapshot → Outcome World
  of_kept o = option_map_or (finish_for number ns w t worker e) o NotEnabled

  may_not : (kept : Snapshot) → may_finish worker kept ≡ false → of_kept (Some kept) ≡ NotEnabled
  may_not kept off = ap (λ b. cond b (finished number ns w t worker e kept) NotEnabled) off

  not_ending : is_ending worker.phase worker.tries ≡ false → of_kept worker.kept ≡ NotEnabled
  not_ending off = by worker.kept
    where
      late : (phase : Phase) (kept : Snapshot) → is_ending phase worker.tries ≡ false → may_finish_in phase worker.tries kept ≡ false
      late Phase.Took kept off = refl
      late Phase.Snapped kept off = not_both refl off
      late Phase.Submitted kept off = refl
      late Phase.Applied kept off = not_both refl off
      late Phase.Dropped kept off = off

      by : (o : Option Snapshot) → of_kept o ≡ NotEnabled
      by None = refl
      by (Some kept) = may_not kept (late worker.phase kept off)

pub not_enabled : RefusedIsNotEnabled
unfolding finish
not_enabled w number ns planned (RefusesFinish.idle none) = no_worker number ns w _ none
not_enabled w number ns planned (RefusesFinish.out_of_turn worker has off) = no_turn number ns w _ worker has
    (λ t e. not_ending number ns w t worker e off)
not_enabled w number ns planned (RefusesFinish.unplaced worker ending kept off) = no_turn number ns w _ worker ending.0
    (λ t e. ap (of_kept number ns w t worker e) kept ∙ may_not number ns w t worker e planned off)

-- ---- in a valid world a worker's evaluation is pending

pub pending_there : SoundHasPendingWork
pending_there w sound number ns t worker e at has there =
    let tenant = sound.tenant ns t at in
    let busy = tenant.worker number worker has in
    let same : e ≡ busy.row = same_Some e busy.row (sym there ∙ busy.is_row) in
    (ap (λ (e : Evaluation). is_pending e.status) same ∙ busy.pending, (tenant.evaluation worker.evaluation e there).below)
