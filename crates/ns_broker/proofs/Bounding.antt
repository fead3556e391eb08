-- Whether a worker's step passes a counter's bound once it has settled.
use Rattle.std.specs.Prelude.{◌≡◌, ℕ, ◌+◌, Bool, true, false, cond, not, ◌&&◌, ◌||◌, [], ◌∷◌, ◌++◌, List, Option, Some, None, nat_lt}
use Rattle.std.proofs.Common.{refl, ap, sym, subst, ◌∙◌}
use Rattle.std.specs.Option.{option_and_then, option_eq, option_map_or}
use Rattle.std.specs.FinMap.{get, insert}
use Rattle.ns_types.specs.declared.evaluation.Evaluation.{Evaluation}
use Rattle.ns_types.specs.declared.evaluation.Status.{Status}
use Rattle.ns_types.specs.Settling.Making.{change_tenant, put_tenant}
use Rattle.ns_types.specs.Settling.Outcome.{is_done}
use Rattle.ns_types.specs.Settling.Same.{same_evaluation, same_flag}
use Rattle.ns_types.specs.Settling.Settle.{changes_allocation, changes_evaluation, changes_job, is_changed, is_touched, settle, stamp_tenant, stamped}
use Rattle.ns_types.specs.State.Names.{Key, Name, same_name, same_number}
use Rattle.ns_types.specs.State.Rows.{World, Tenant, evaluation_at}
use Rattle.ns_types.specs.State.Tables.{any_row}
use Rattle.ns_types.specs.Steps.{greatest, is_past_bound, is_pool_past_bound, is_tenant_past_bound}
use Rattle.ns_types.specs.Wire.Words.{kind_text, status_text, trigger_text}
use Rattle.ns_types.specs.Working.Queue.{first_waiting, is_busy, promote}
use Rattle.ns_types.specs.Working.Work.{new_worker, with_worker}
use Rattle.ns_types.proofs.Alike.{same_evaluation_refl}
use Rattle.ns_types.proofs.Bounds.{tenant_within}
use Rattle.ns_types.proofs.Lists.{left_none, not_both, right_none}
use Rattle.ns_types.proofs.Named.{names, numbers, one_name, one_number}
use Rattle.ns_types.proofs.Outcomes.{state_or}
use Rattle.ns_types.proofs.Settling.{keeps_elsewhere, kept_allocation, kept_evaluation, kept_job, releases_nothing, stamp_one, untouched}
use Rattle.ns_types.proofs.TableRows.{any_row-put}
use Rattle.ns_types.proofs.Tables.{any_row-none}
use Rattle.ns_types.proofs.Tests.{not_Some, or_none}
use Rattle.ns_broker.proofs.Dequeued.{nothing_there, stays_out, taken_out}
use Rattle.ns_broker.specs.Bounded.{DequeuePassesNothing, cannot_fail, is_failed, is_last_index}
use Rattle.ns_broker.specs.Nacking.{failed, left, nacked, put_away, put_back}
use Rattle.ns_broker.specs.Serving.{may_dequeue, take}
use Rattle.ns_change.specs.Changed.{put_evaluation, without_ready}
use Rattle.std.proofs.Math.Bool.{and-false}

-- ---- promoting changes the list of ready evaluations alone

module _ {A : Type 0} (part : World → A) (keeps : (w : World) (keys : List Key) → part (record w { ready = keys }) ≡ part w) where
  pub promote_keeps : (ns job : Name) (w : World) → part (promote ns job w) ≡ part w
  unfolding promote
  promote_keeps ns job w = by (is_busy w ns job) (get w.tenants ns)
    where
      one : (o : Option ℕ) → part (option_map_or (λ n. record w { ready = w.ready ++ (ns, n) ∷ [] }) o w) ≡ part w
      one None = refl
      one (Some n) = keeps w (w.ready ++ (ns, n) ∷ [])

      by : (b : Bool) (o : Option Tenant) →
          part (cond b w (option_map_or (λ t. option_map_or (λ n. record w { ready = w.ready ++ (ns, n) ∷ [] }) (first_waiting job t) w) o w)) ≡ part w
      by true o = refl
      by false None = refl
      by false (Some t) = one (first_waiting job t)

-- ---- a step that changes rows of one namespace, but no allocation of it

module _ (w w' : World) (ns : Name) (t u : Tenant) (within : is_past_bound w ≡ false) (at : get w.tenants ns ≡ Some t)
    (tenants : w'.tenants ≡ insert w.tenants ns u) (pools : w'.pools ≡ w.pools) (quotas : w'.quotas ≡ w.quotas)
    (rows : u.allocations ≡ t.allocations) where
  parts : ((any_row (λ _ t. is_tenant_past_bound t) w.tenants || any_row (λ _ p. is_pool_past_bound p) w.pools)
      || any_row (λ _ q. nat_lt greatest q.release) w.quotas) ≡ false
  unfolding is_past_bound
  parts = within

  settled_is : settle w w' ≡ record w' { tenants = insert w.tenants ns (stamp_tenant (Some t) u) }
  settled_is = releases_nothing w w' (keeps_elsewhere w w' ns t u pools quotas tenants at rows) ∙ stamp_one w w' ns t u tenants at

  -- it settles as it is where none of its rows is shown otherwise
  pub settles_unseen : is_touched t u ≡ false → settle w w' ≡ w'
  unfolding stamp_tenant
  settles_unseen idle = settled_is
      ∙ ap (λ m. record w' { tenants = m }) (ap (λ b. insert w.tenants ns (cond b (stamped (t.index + 1) t u) u)) idle ∙ sym tenants)

  pub past_is : is_past_bound (settle w w') ≡ is_tenant_past_bound (stamp_tenant (Some t) u)
  unfolding is_past_bound
  past_is = ap is_past_bound settled_is
      ∙ (λ i. any_row-put names one_name (λ _ t. is_tenant_past_bound t) w.tenants ns (stamp_tenant (Some t) u) (left_none _ _ (left_none _ _ parts)) i
      || (ap (any_row (λ _ p. is_pool_past_bound p)) pools ∙ right_none (any_row (λ _ t. is_tenant_past_bound t) w.tenants) _ (left_none _ _ parts)) i
      || (ap (any_row (λ _ q. nat_lt greatest q.release)) quotas ∙ right_none _ _ parts) i)
      ∙ or_none _ ∙ or_none _

  own : is_tenant_past_bound t ≡ false
  own = tenant_within w ns t within at

  module _ (index : u.index ≡ t.index) (evaluation : u.evaluation_number ≡ t.evaluation_number) (allocation : u.allocation_number ≡ t.allocation_number) where
    -- none of its rows is shown otherwise
    pub unseen : is_touched t u ≡ false → is_past_bound (settle w w') ≡ false
    unfolding stamp_tenant
    unseen idle = past_is ∙ ap (λ b. is_tenant_past_bound (cond b (stamped (t.index + 1) t u) u)) idle
        ∙ (λ i. nat_lt greatest (index i) || nat_lt greatest (evaluation i) || nat_lt greatest (allocation i)) ∙ own

    -- some of them is
    pub seen : is_touched t u ≡ true → is_past_bound (settle w w') ≡ nat_lt greatest (t.index + 1)
    unfolding stamp_tenant
    seen shown = past_is ∙ ap (λ b. is_tenant_past_bound (cond b (stamped (t.index + 1) t u) u)) shown
        ∙ (λ i. nat_lt greatest (t.index + 1) || nat_lt greatest (evaluation i) || nat_lt greatest (allocation i))
        ∙ (λ i. nat_lt greatest (t.index + 1) || right_none (nat_lt greatest t.index) _ (left_none _ _ own) i || right_none
        (nat_lt greatest t.index || nat_lt greatest t.evaluation_number) (nat_lt greatest t.allocation_number) own i)
        ∙ or_none _ ∙ or_none _

-- ---- one evaluation of a namespace has another row

module _ (t : Tenant) (n : ℕ) (e x : Evaluation) (at : get t.evaluations n ≡ Some e) where
  pub touched_is : is_touched t (put_evaluation n x t) ≡ not (same_evaluation e x)
  touched_is = (λ i. any_row-none names one_name (λ id _. changes_job t t id) t.jobs (λ id job is. kept_job t id) i
      || any_row-none names one_name (λ id _. changes_job t t id) t.jobs (λ id job is. kept_job t id) i
      || any_row-put numbers one_number (changes_evaluation t) t.evaluations n x
      (any_row-none numbers one_number (changes_evaluation t) t.evaluations (kept_evaluation t)) i
      || any_row-none numbers one_number (changes_allocation t) t.allocations (kept_allocation t) i)
      ∙ or_none _ ∙ ap (λ o. is_changed same_evaluation o x) at

unshown : (e : Evaluation) → same_evaluation e (nacked e) ≡ true
unfolding same_evaluation
unshown e = same_evaluation_refl e

shown_by : (e : Evaluation) → (b : Bool) → same_name (status_text e.status) (status_text Status.Failed) ≡ b → b ≡ false → same_evaluation e (failed e) ≡ false
unfolding same_evaluation
shown_by e b is fails =
    let before = same_name e.job e.job && same_name (kind_text e.kind) (kind_text e.kind) && same_number e.priority e.priority && same_name e.pool e.pool
    && same_name (trigger_text e.trigger) (trigger_text e.trigger) in
    let after : Bool → Bool = λ b. b && option_eq same_number e.previous e.previous && option_eq same_number e.follower e.follower
    && option_eq same_name e.quota e.quota && same_flag e.escapes e.escapes in
    ap (λ s. after (before && s)) (is ∙ fails) ∙ ap after (and-false before)

texts_differ : (s : Status) → is_failed s ≡ false → same_name (status_text s) (status_text Status.Failed) ≡ false
texts_differ Status.Pending is = refl
texts_differ Status.Blocked is = refl
texts_differ Status.Complete is = refl
texts_differ Status.Canceled is = refl
texts_differ Status.Failed is = not_both refl is

shown : (e : Evaluation) → is_failed e.status ≡ false → same_evaluation e (failed e) ≡ false
shown e is = shown_by e _ refl (texts_differ e.status is)

-- ---- the namespace of an evaluation that is there

module _ (w : World) (ns : Name) (n : ℕ) (e : Evaluation) (at : evaluation_at w (ns, n) ≡ Some e) where
  in_its : (goal : Type 0) → ((t : Tenant) → get w.tenants ns ≡ Some t → get t.evaluations n ≡ Some e → goal) → goal
  in_its goal go = by (get w.tenants ns) refl at
    where
      by : (o : Option Tenant) → get w.tenants ns ≡ o → option_and_then (λ t. get t.evaluations n) o ≡ Some e → goal
      by None is at = absurd (not_Some e at)
      by (Some t) is at = go t is at

-- ---- a nack

module _ (w : World) (ns : Name) (number n : ℕ) (e : Evaluation) (within : is_past_bound w ≡ false) (at : evaluation_at w (ns, n) ≡ Some e) where
  module _ {A : Type 0} (part : World → A) where
    there : (f : Tenant → Tenant) (t : Tenant) → get w.tenants ns ≡ Some t → part (change_tenant ns f w) ≡ part (put_tenant ns (f t) w)
    there f t is = ap (λ o. part (option_map_or (λ t. put_tenant ns (f t) w) o w)) is

  pub back_is_unseen : is_past_bound (settle w (put_back number ns n e w)) ≡ false
  back_is_unseen = in_its w ns n e at _ (λ t is row. unseen w (put_back number ns n e w) ns t (left number n (nacked e) t) within is
      (there (λ w. w.tenants) (left number n (nacked e)) t is) (there (λ w. w.pools) (left number n (nacked e)) t is)
      (there (λ w. w.quotas) (left number n (nacked e)) t is) refl refl refl refl
      (touched_is t n e (nacked e) row ∙ ap not (unshown e)))

  module _ (t : Tenant) (is : get w.tenants ns ≡ Some t) (row : get t.evaluations n ≡ Some e) where
    abbrev after : World
    after = put_away number ns n e w

    abbrev then : Tenant
    then = left number n (failed e) t

    module _ {A : Type 0} (part : World → A) (keeps : (w : World) (keys : List Key) → part (record w { ready = keys }) ≡ part w) where
      away_part : part after ≡ part (put_tenant ns then w)
      away_part = promote_keeps part keeps ns e.job (change_tenant ns (left number n (failed e)) w) ∙ there part (left number n (failed e)) t is

    away_touched : is_touched t then ≡ not (same_evaluation e (failed e))
    away_touched = touched_is t n e (failed e) row

    away_fails : is_failed e.status ≡ false → is_past_bound (settle w after) ≡ nat_lt greatest (t.index + 1)
    away_fails new = seen w after ns t then within is (away_part (λ w. w.tenants) (λ w keys. refl)) (away_part (λ w. w.pools) (λ w keys. refl))
        (away_part (λ w. w.quotas) (λ w keys. refl)) refl refl refl refl (away_touched ∙ ap not (shown e new))

    stays_failed : is_failed e.status ≡ true → is_past_bound (settle w after) ≡ false
    stays_failed old = unseen w after ns t then within is (away_part (λ w. w.tenants) (λ w keys. refl)) (away_part (λ w. w.pools) (λ w keys. refl))
        (away_part (λ w. w.quotas) (λ w keys. refl)) refl refl refl refl (away_touched ∙ ap not (same_failed e old))
      where
        by : (e : Evaluation) (s : Status) → is_failed s ≡ true → s ≡ Status.Failed
        by e Status.Failed is = refl
        by e Status.Pending is = not_both is refl
        by e Status.Blocked is = not_both is refl
        by e Status.Complete is = not_both is refl
        by e Status.Canceled is = not_both is refl

        same_failed : (e : Evaluation) → is_failed e.status ≡ true → same_evaluation e (failed e) ≡ true
        same_failed e old = ap (λ s. same_evaluation e (record e { nacks = e.nacks + 1; status = s })) (sym (by e e.status old)) ∙ unshown e

  pub away_is_past : is_past_bound (settle w (put_away number ns n e w)) ≡ cannot_fail w ns e
  away_is_past = in_its w ns n e at _ (λ t is row. by t is row (is_failed e.status) refl)
    where
      by : (t : Tenant) → get w.tenants ns ≡ Some t → get t.evaluations n ≡ Some e → (b : Bool) → is_failed e.status ≡ b →
          is_past_bound (settle w (put_away number ns n e w)) ≡ (not b && is_last_index w ns)
      by t is row true old = stays_failed t is row old
      by t is row false new = away_fails t is row new ∙ sym (ap (λ o. option_map_or (λ t. nat_lt greatest (t.index + 1)) o false) is)

-- ---- a worker that takes an evaluation

pub take_is_unseen : (w : World) (number : ℕ) (key : Key) (e : Evaluation) → is_past_bound w ≡ false → evaluation_at w key ≡ Some e →
    is_past_bound (settle w (take number key e w)) ≡ false
take_is_unseen w number key e within at = in_its w key.0 key.1 e at _ (λ t is row.
    unseen w (take number key e w) key.0 t (with_worker number (new_worker key.1 e) t) within is
    (ap (λ o. (without_ready key (option_map_or (λ t. put_tenant key.0 (with_worker number (new_worker key.1 e) t) w) o w)).tenants) is)
    (ap (λ o. (without_ready key (option_map_or (λ t. put_tenant key.0 (with_worker number (new_worker key.1 e) t) w) o w)).pools) is)
    (ap (λ o. (without_ready key (option_map_or (λ t. put_tenant key.0 (with_worker number (new_worker key.1 e) t) w) o w)).quotas) is)
    refl refl refl refl (untouched t))

pub dequeue_fits : DequeuePassesNothing
dequeue_fits number key w content x within is = by (may_dequeue number key w) refl (evaluation_at w key) refl
  where
    by : (b : Bool) → may_dequeue number key w ≡ b → (o : Option Evaluation) → evaluation_at w key ≡ o → is_past_bound (settle w x) ≡ false
    by false off o at = not_both (ap is_done (sym (stays_out number key w off) ∙ is)) refl
    by true on None at = not_both (ap is_done (sym (nothing_there number key w at on) ∙ is)) refl
    by true on (Some e) at = subst (λ x. is_past_bound (settle w x) ≡ false) (ap (state_or w) (sym (taken_out number key w e at on) ∙ is))
        (take_is_unseen w number key e within at)
