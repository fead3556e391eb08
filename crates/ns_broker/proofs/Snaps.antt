-- When a worker may look, and what that comes to.
use Rattle.std.specs.Prelude.{◌≡◌, ℕ, Bool, true, false, cond, Option, Some, None, Result, Err}
use Rattle.std.proofs.Common.{refl, ap, sym, subst, ◌∙◌}
use Rattle.std.specs.Option.{option_and_then, option_map_or}
use Rattle.std.specs.FinMap.{get}
use Rattle.ns_types.specs.declared.evaluation.Evaluation.{Evaluation}
use Rattle.ns_types.specs.declared.refusal.Refusal.{Refusal}
use Rattle.ns_types.specs.declared.reply.Content.{Content}
use Rattle.ns_types.specs.declared.snapshot.Snapshot.{Snapshot}
use Rattle.ns_types.specs.Working.Worker.{Worker}
use Rattle.ns_types.specs.Settling.Making.{change_tenant, put_tenant}
use Rattle.ns_types.specs.Settling.Outcome.{Outcome, NotEnabled, Done, is_done}
use Rattle.ns_types.specs.Settling.Settle.{settle}
use Rattle.ns_types.specs.State.Names.{Name}
use Rattle.ns_types.specs.State.Rows.{World, Tenant}
use Rattle.ns_types.specs.Steps.{is_past_bound}
use Rattle.ns_types.specs.Working.Snapshot.{snapshot_of}
use Rattle.ns_types.specs.Working.Work.{may_snap, snap, snap_for, with_snapshot, with_worker}
use Rattle.ns_types.proofs.Lists.{not_both}
use Rattle.ns_types.proofs.Named.{names, numbers, one_name, one_number}
use Rattle.ns_types.proofs.Settling.{untouched}
use Rattle.ns_types.proofs.TableRows.{get_put}
use Rattle.ns_types.proofs.Tests.{same_Some}
use Rattle.ns_broker.specs.Bounded.{SnapPassesNothing}
use Rattle.ns_broker.specs.declared.snapping.Snapped.{Snapped}
use Rattle.ns_broker.specs.Snapping.{Snaps, kept_at}
use Rattle.ns_tables.specs.declared.tables.Tables.{Tables}
use Rattle.ns_tables.specs.World.{world_of}
use Rattle.ns_types.proofs.Outcomes.{state_or}
use Rattle.ns_broker.proofs.Bounding.{settles_unseen, unseen}

module _ (number : ℕ) (ns : Name) (w : World) where
  abbrev by_evaluation : Tenant → Worker → Option Evaluation → Outcome World
  by_evaluation t worker row = option_map_or (snap_for number ns w t worker) row NotEnabled

  abbrev by_worker : Tenant → Option Worker → Outcome World
  by_worker t worker = option_map_or (λ worker. by_evaluation t worker (get t.evaluations worker.evaluation)) worker NotEnabled

  abbrev by_tenant : Option Tenant → Outcome World
  by_tenant t = option_map_or (λ t. by_worker t (get t.workers number)) t NotEnabled

  snap_by : (t : Option Tenant) → get w.tenants ns ≡ t → snap number ns w ≡ by_tenant t
  unfolding snap
  snap_by t is = ap by_tenant is

  pub nowhere : get w.tenants ns ≡ None → snap number ns w ≡ NotEnabled
  nowhere is = snap_by None is

  module _ (t : Tenant) (is : get w.tenants ns ≡ Some t) where
    pub idle : get t.workers number ≡ None → snap number ns w ≡ NotEnabled
    idle none = snap_by (Some t) is ∙ ap (by_worker t) none

    module _ (worker : Worker) (has : get t.workers number ≡ Some worker) where
      pub gone : get t.evaluations worker.evaluation ≡ None → snap number ns w ≡ NotEnabled
      gone none = snap_by (Some t) is ∙ ap (by_worker t) has ∙ ap (by_evaluation t worker) none

      module _ (e : Evaluation) (at : get t.evaluations worker.evaluation ≡ Some e) where
        abbrev seen : Snapshot
        seen = snapshot_of w ns t worker.evaluation e

        abbrev left : World
        left = put_tenant ns (with_worker number (with_snapshot seen worker) t) w

        snap_is : (b : Bool) → may_snap worker.tries worker.phase ≡ b → snap number ns w ≡ cond b (Done (Content.Snapped worker.evaluation) left) NotEnabled
        snap_is b may = snap_by (Some t) is ∙ ap (by_worker t) has ∙ ap (by_evaluation t worker) at
            ∙ ap (λ b. cond b (Done (Content.Snapped worker.evaluation) left) NotEnabled) may

        pub out_of_turn : may_snap worker.tries worker.phase ≡ false → snap number ns w ≡ NotEnabled
        out_of_turn may = snap_is false may

        pub snaps : may_snap worker.tries worker.phase ≡ true → snap number ns w
            ≡ Done (Content.Snapped worker.evaluation) (change_tenant ns (with_worker number (with_snapshot seen worker)) w)
        snaps may = snap_is true may ∙ ap (λ o. Done (Content.Snapped worker.evaluation)
            (option_map_or (λ t. put_tenant ns (with_worker number (with_snapshot seen worker) t) w) o w)) (sym is)

        fits : is_past_bound w ≡ false → is_past_bound (settle w left) ≡ false
        fits within = unseen w left ns t (with_worker number (with_snapshot seen worker) t) within is refl refl refl refl refl refl refl (untouched t)

    pub keeps : (worker : Worker) → kept_at (change_tenant ns (with_worker number worker) w) number ns ≡ worker.kept
    keeps worker = ap (λ o. kept_at (option_map_or (λ t. put_tenant ns (with_worker number worker t) w) o w) number ns) is
        ∙ ap (λ o. option_and_then (λ (x : Worker). x.kept) (option_and_then (λ (t : Tenant). get t.workers number) o))
        (get_put names one_name w.tenants ns (with_worker number worker t))
        ∙ ap (option_and_then (λ (x : Worker). x.kept)) (get_put numbers one_number t.workers number worker)

-- ---- a step that is made

abbrev content_or : Content → Outcome World → Content
content_or content (Done c x) = c
content_or content _ = content

module _ (number : ℕ) (ns : Name) (w : World) (content : Content) (x : World) (is : snap number ns w ≡ Done content x) where
  -- its worker has an evaluation, at which it may look
  looks : (goal : Type 0) → ((t : Tenant) → get w.tenants ns ≡ Some t → (worker : Worker) → get t.workers number ≡ Some worker → (e : Evaluation)
      → get t.evaluations worker.evaluation ≡ Some e → Done (Content.Snapped worker.evaluation)
      (put_tenant ns (with_worker number (with_snapshot (snapshot_of w ns t worker.evaluation e) worker) t) w) ≡ Done content x → goal) → goal
  looks goal go = tenant (get w.tenants ns) refl
    where
      turn : (t : Tenant) → get w.tenants ns ≡ Some t → (worker : Worker) → get t.workers number ≡ Some worker →
          (e : Evaluation) → get t.evaluations worker.evaluation ≡ Some e → (b : Bool) → may_snap worker.tries worker.phase ≡ b → goal
      turn t at worker has e there false may = not_both (ap is_done (sym (out_of_turn number ns w t at worker has e there may) ∙ is)) refl
      turn t at worker has e there true may = go t at worker has e there (sym (snap_is number ns w t at worker has e there true may) ∙ is)

      evaluation : (t : Tenant) → get w.tenants ns ≡ Some t → (worker : Worker) → get t.workers number ≡ Some worker →
          (o : Option Evaluation) → get t.evaluations worker.evaluation ≡ o → goal
      evaluation t at worker has None there = not_both (ap is_done (sym (gone number ns w t at worker has there) ∙ is)) refl
      evaluation t at worker has (Some e) there = turn t at worker has e there (may_snap worker.tries worker.phase) refl

      busy : (t : Tenant) → get w.tenants ns ≡ Some t → (o : Option Worker) → get t.workers number ≡ o → goal
      busy t at None has = not_both (ap is_done (sym (idle number ns w t at has) ∙ is)) refl
      busy t at (Some worker) has = evaluation t at worker has (get t.evaluations worker.evaluation) refl

      tenant : (o : Option Tenant) → get w.tenants ns ≡ o → goal
      tenant None at = not_both (ap is_done (sym (nowhere number ns w at) ∙ is)) refl
      tenant (Some t) at = busy t at (get t.workers number) refl

  -- no reply shows it, so it settles as it is
  pub snap_settles : is_past_bound w ≡ false → settle w x ≡ x
  snap_settles within = looks _ (λ t at worker has e there done.
      let seen = with_worker number (with_snapshot (snapshot_of w ns t worker.evaluation e) worker) t in
      subst (λ x. settle w x ≡ x) (ap (state_or w) done) (settles_unseen w (put_tenant ns seen w) ns t seen within at refl refl refl refl (untouched t)))

  -- the number that is answered is that of the snapshot
  pub snap_answers : (seen : Snapshot) → kept_at x number ns ≡ Some seen → content ≡ Content.Snapped seen.number
  snap_answers seen kept = looks _ (λ t at worker has e there done.
      let looked = snapshot_of w ns t worker.evaluation e in
      let put = get_put names one_name w.tenants ns (with_worker number (with_snapshot looked worker) t) in
      let row = get_put numbers one_number t.workers number (with_snapshot looked worker) in
      let keeps_it : kept_at x number ns ≡ Some looked = ap (λ x. kept_at x number ns) (sym (ap (state_or w) done))
      ∙ ap (λ o. option_and_then (λ (x : Worker). x.kept) (option_and_then (λ (t : Tenant). get t.workers number) o)) put
      ∙ ap (option_and_then (λ (x : Worker). x.kept)) row in
      ap (content_or content) (sym done) ∙ ap (λ (s : Snapshot). Content.Snapped s.number) (same_Some looked seen (sym keeps_it ∙ kept)))

pub snap_fits : SnapPassesNothing
snap_fits number ns w content x within is = looks number ns w content x is _ (λ t at worker has e there done.
    subst (λ x. is_past_bound (settle w x) ≡ false) (ap (state_or w) done) (fits number ns w t at worker has e there within))

-- want of memory, where the step would have been made
pub no_memory : (number : ℕ) (ns : Name) (t : Tables) (r : Result Snapped Refusal) → r ≡ Err Refusal.Memory → is_done (snap number ns (world_of t)) ≡ true →
    Snaps number ns t r
no_memory number ns t r e d = subst (Snaps number ns t) (sym e) d
