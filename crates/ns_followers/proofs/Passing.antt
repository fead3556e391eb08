-- Whether a finish passes a counter's bound once it has settled.
use Rattle.std.specs.Prelude.{◌≡◌, ℕ, ◌+◌, ◌≤◌, Bool, true, false, cond, not, ◌&&◌, ◌||◌, ◌∷◌, [], ◌++◌, List, Option, Some, None, nat_lt}
use Rattle.std.proofs.Common.{refl, arith, ap, sym, subst, ◌∙◌}
use Rattle.std.proofs.Math.Bool.{and-false}
use Rattle.std.specs.Option.{option_eq, option_map_or}
use Rattle.std.specs.Ordering.{eq_by_cmp, nat_cmp}
use Rattle.std.specs.FinMap.{get, insert}
use Rattle.ns_types.specs.declared.evaluation.Evaluation.{Evaluation}
use Rattle.ns_types.specs.declared.evaluation.Status.{Status}
use Rattle.ns_types.specs.declared.snapshot.Snapshot.{Snapshot}
use Rattle.ns_types.specs.Settling.Making.{put_tenant, with_status}
use Rattle.ns_types.specs.Settling.Releases.{missed}
use Rattle.ns_types.specs.Settling.Same.{same_evaluation, same_flag}
use Rattle.ns_types.specs.Settling.Settle.{changes_allocation, changes_evaluation, changes_job, is_changed, is_touched, pending, settle, stamp_tenant, stamped}
use Rattle.ns_types.specs.State.Names.{Key, Name, same_name, same_number}
use Rattle.ns_types.specs.State.Rows.{World, Tenant, is_pending}
use Rattle.ns_types.specs.State.Tables.{any_row}
use Rattle.ns_types.specs.Steps.{greatest, is_past_bound, is_tenant_past_bound}
use Rattle.ns_types.specs.Wire.Words.{kind_text, status_text, trigger_text}
use Rattle.ns_types.specs.Working.Queue.{promote}
use Rattle.ns_types.specs.Working.Work.{blocked_of, cancel_blocked, end_of, ended, followed, follower_of, has_failed}
use Rattle.ns_types.specs.Working.Work.{tied_to, with_follower, without_blocked, without_key, without_worker}
use Rattle.ns_types.specs.Working.Worker.{Worker}
use Rattle.ns_types.proofs.Lists.{not_both, right_none, left_none}
use Rattle.ns_types.proofs.Named.{numbers, one_number}
use Rattle.ns_types.proofs.TableRows.{apart, get_other, get_put, some_row}
use Rattle.ns_types.proofs.Tables.{tied}
use Rattle.ns_types.proofs.Tests.{or_none, same_Some, third_of_four}
use Rattle.ns_types.proofs.Bounds.{tenant_within}
use Rattle.ns_broker.proofs.Bounding.{past_is, promote_keeps}
use Rattle.ns_followers.proofs.Finished.{end_by, ends_in, follows}
use Rattle.ns_followers.proofs.Kept.{ending_keeps, tying_keeps}
use Rattle.ns_followers.proofs.Numbered.{ended_stays}
use Rattle.ns_followers.specs.Ending.{ended_alone, ended_followed}
use Rattle.ns_followers.specs.Finishing.{passes_bound}
use Rattle.ns_followers.specs.Following.{made_follower}

-- ---- an evaluation that is no longer pending is shown otherwise than before

texts_differ : (a b : Status) → is_pending a ≡ true → is_pending b ≡ false → same_name (status_text a) (status_text b) ≡ false
texts_differ Status.Pending Status.Pending p q = not_both refl q
texts_differ Status.Pending Status.Blocked p q = refl
texts_differ Status.Pending Status.Complete p q = refl
texts_differ Status.Pending Status.Failed p q = refl
texts_differ Status.Pending Status.Canceled p q = refl
texts_differ Status.Blocked b p q = not_both p refl
texts_differ Status.Complete b p q = not_both p refl
texts_differ Status.Failed b p q = not_both p refl
texts_differ Status.Canceled b p q = not_both p refl

evaluations_differ : (a b : Evaluation) → same_name (status_text a.status) (status_text b.status) ≡ false → same_evaluation a b ≡ false
unfolding same_evaluation
evaluations_differ a b is =
    let before = same_name a.job b.job && same_name (kind_text a.kind) (kind_text b.kind) && same_number a.priority b.priority && same_name a.pool b.pool
    && same_name (trigger_text a.trigger) (trigger_text b.trigger) in
    let after : Bool → Bool = λ s. s && option_eq same_number a.previous b.previous && option_eq same_number a.follower b.follower
    && option_eq same_name a.quota b.quota && same_flag a.escapes b.escapes in
    ap (λ s. after (before && s)) is ∙ ap after (and-false before)

-- ---- the evaluation of that number is no longer pending

record HasEnded (n : ℕ) (t : Tenant) : Type 0 where
  row : Evaluation
  is_row : get t.evaluations n ≡ Some row
  over : is_pending row.status ≡ false

module _ (n : ℕ) (t : Tenant) where
  -- as a row is put that is not pending
  put_over : (m : ℕ) (x : Evaluation) → is_pending x.status ≡ false → HasEnded n t → HasEnded n (record t { evaluations = insert t.evaluations m x })
  put_over m x over h = by (eq_by_cmp nat_cmp n m) refl
    where
      by : (b : Bool) → eq_by_cmp nat_cmp n m ≡ b → HasEnded n (record t { evaluations = insert t.evaluations m x })
      by true same = record {
        row = x;
        is_row = ap (get (insert t.evaluations m x)) (tied one_number n m same) ∙ get_put numbers one_number t.evaluations m x;
        over = over;
      }
      by false other = record { row = h.row; is_row = get_other numbers one_number t.evaluations m x n other ∙ h.is_row; over = h.over }

  ends_as : (e : Evaluation) (status : Status) → get t.evaluations n ≡ Some e → is_pending status ≡ false → HasEnded n (with_status n status t)
  ends_as e status at over = record {
    row = record e { status = status };
    is_row = ap (λ o. get (option_map_or (λ e. record t { evaluations = insert t.evaluations n (record e { status = status }) }) o t).evaluations n) at
        ∙ get_put numbers one_number t.evaluations n (record e { status = status });
    over = over;
  }

  canceled_over : (job : Name) → HasEnded n t → HasEnded n (cancel_blocked job t)
  canceled_over job h = by (blocked_of t job)
    where
      one : (m : ℕ) (o : Option Evaluation) → get t.evaluations m ≡ o →
          HasEnded n (option_map_or (λ e. record t { evaluations = insert t.evaluations m (record e { status = Status.Canceled }) }) o t)
      one m None is = h
      one m (Some e) is = put_over m (record e { status = Status.Canceled }) refl h

      by : (o : Option ℕ) → HasEnded n (option_map_or (λ m. with_status m Status.Canceled t) o t)
      by None = h
      by (Some m) = one m (get t.evaluations m) refl

  tied_over : (follower : ℕ) → HasEnded n t → HasEnded n (tied_to n follower t)
  tied_over follower h = by (get t.evaluations n) refl
    where
      by : (o : Option Evaluation) → get t.evaluations n ≡ o →
          HasEnded n (option_map_or (λ e. record t { evaluations = insert t.evaluations n (record e { follower = Some follower }) }) o t)
      by None is = h
      by (Some e) is = put_over n (record e { follower = Some follower })
          (ap (λ (e : Evaluation). is_pending e.status) (same_Some e h.row (sym is ∙ h.is_row)) ∙ h.over) h

  -- as a follower is made, whose number is greater
  followed_over : (row : Evaluation) → n ≤ t.evaluation_number → HasEnded n t → HasEnded n (with_follower n row t)
  followed_over row below h =
      let k = t.evaluation_number + 1 in
      let u = tied_over k h in
      record {
        row = u.row;
        is_row = get_other numbers one_number (tied_to n k t).evaluations k row n (apart n k (λ same. omega arith)) ∙ u.is_row;
        over = u.over;
      }

touched : (t u : Tenant) (n : ℕ) (e : Evaluation) → get t.evaluations n ≡ Some e → is_pending e.status ≡ true → HasEnded n u → is_touched t u ≡ true
touched t u n e at waits h = third_of_four (any_row (λ id _. changes_job t u id) u.jobs) (any_row (λ id _. changes_job t u id) t.jobs)
    (any_row (changes_evaluation t) u.evaluations) (any_row (changes_allocation t) u.allocations)
    (some_row numbers one_number (changes_evaluation t) u.evaluations n h.row h.is_row
    (ap (λ o. is_changed same_evaluation o h.row) at ∙ ap not (evaluations_differ e h.row (texts_differ e.status h.row.status waits h.over))))

-- ---- counters, where a row of the namespace is shown otherwise

module _ (w x : World) (ns : Name) (t u : Tenant) (within : is_past_bound w ≡ false) (at : get w.tenants ns ≡ Some t)
    (tenants : x.tenants ≡ insert w.tenants ns u) (pools : x.pools ≡ w.pools) (quotas : x.quotas ≡ w.quotas)
    (rows : u.allocations ≡ t.allocations) (allocation : u.allocation_number ≡ t.allocation_number) (shown : is_touched t u ≡ true) where
  passes_shown : is_past_bound (settle w x) ≡ (nat_lt greatest (t.index + 1) || nat_lt greatest u.evaluation_number)
  unfolding stamp_tenant
  passes_shown = past_is w x ns t u within at tenants pools quotas rows
      ∙ ap (λ b. is_tenant_past_bound (cond b (stamped (t.index + 1) t u) u)) shown
      ∙ ap (λ n. nat_lt greatest (t.index + 1) || nat_lt greatest u.evaluation_number || nat_lt greatest n) allocation
      ∙ ap (λ b. nat_lt greatest (t.index + 1) || nat_lt greatest u.evaluation_number || b)
      (right_none (nat_lt greatest t.index || nat_lt greatest t.evaluation_number) (nat_lt greatest t.allocation_number)
      (tenant_within w ns t within at))
      ∙ or_none _

-- ---- the world of a finish

module _ {A : Type 0} (part : World → A) (blocks : (w : World) (keys : List Key) → part (record w { blocked = keys }) ≡ part w) where
  unlisting_keeps : (ns job : Name) (t : Tenant) (w : World) → part (without_blocked ns job t w) ≡ part w
  unlisting_keeps ns job t w = by (blocked_of t job)
    where
      by : (o : Option ℕ) → part (option_map_or (λ n. record w { blocked = without_key (ns, n) w.blocked }) o w) ≡ part w
      by None = refl
      by (Some n) = blocks w (without_key (ns, n) w.blocked)

  listing_keeps : (ns : Name) (worker : Worker) (follower : Evaluation) (t : Tenant) (b : Bool) (w : World) →
      part (followed ns worker follower t b w) ≡ part (put_tenant ns (with_follower worker.evaluation (cond b (pending follower) follower) t) w)
  listing_keeps ns worker follower t true w = refl
  listing_keeps ns worker follower t false w = blocks (put_tenant ns (with_follower worker.evaluation follower t) w)
      (w.blocked ++ (ns, t.evaluation_number + 1) ∷ [])

end_is_over : (worker : Worker) → is_pending (end_of worker) ≡ false
end_is_over worker = by (has_failed worker)
  where
    by : (b : Bool) → is_pending (cond b Status.Failed Status.Complete) ≡ false
    by true = refl
    by false = refl

module _ (number : ℕ) (ns : Name) (w : World) (t : Tenant) (worker : Worker) (e : Evaluation) (kept : Snapshot)
    (within : is_past_bound w ≡ false) (at : get w.tenants ns ≡ Some t) (row : get t.evaluations worker.evaluation ≡ Some e)
    (waits : is_pending e.status ≡ true) where
  abbrev u : Tenant
  u = ended number worker e (end_of worker) t

  abbrev left : World
  left = without_blocked ns e.job t w

  over_in : HasEnded worker.evaluation u
  over_in =
      let idle = without_worker number t in
      canceled_over worker.evaluation (with_status worker.evaluation (end_of worker) idle) e.job
      (ends_as worker.evaluation idle e (end_of worker) row (end_is_over worker))

  rows_stay : u.allocations ≡ t.allocations
  rows_stay = ending_keeps (λ t. t.allocations) (λ t rows. refl) (λ t rows. refl) (end_by number ns worker e) t

  allocation_stays : u.allocation_number ≡ t.allocation_number
  allocation_stays = ending_keeps (λ t. t.allocation_number) (λ t rows. refl) (λ t rows. refl) (end_by number ns worker e) t

  evaluation_stays : u.evaluation_number ≡ t.evaluation_number
  evaluation_stays = ended_stays (end_by number ns worker e) t

  -- without a follower the index alone rises
  pub alone_passes : is_past_bound (settle w (ended_alone (end_by number ns worker e) w)) ≡ passes_bound false t
  alone_passes =
      let idle = put_tenant ns u left in
      ap (λ x. is_past_bound (settle w (promote ns e.job x))) (ends_in number ns w t worker e kept at)
      ∙ passes_shown w (promote ns e.job idle) ns t u within at
      (promote_keeps (λ w. w.tenants) (λ w keys. refl) ns e.job idle
      ∙ ap (λ m. insert m ns u) (unlisting_keeps (λ w. w.tenants) (λ w keys. refl) ns e.job t w))
      (promote_keeps (λ w. w.pools) (λ w keys. refl) ns e.job idle ∙ unlisting_keeps (λ w. w.pools) (λ w keys. refl) ns e.job t w)
      (promote_keeps (λ w. w.quotas) (λ w keys. refl) ns e.job idle ∙ unlisting_keeps (λ w. w.quotas) (λ w keys. refl) ns e.job t w)
      rows_stay allocation_stays (touched t u worker.evaluation e row waits over_in)
      ∙ ap (λ n. nat_lt greatest (t.index + 1) || nat_lt greatest n) evaluation_stays
      ∙ ap (λ b. nat_lt greatest (t.index + 1) || b) (right_none (nat_lt greatest t.index) (nat_lt greatest t.evaluation_number)
      (left_none (nat_lt greatest t.index || nat_lt greatest t.evaluation_number) (nat_lt greatest t.allocation_number)
      (tenant_within w ns t within at)))

  -- with one the number of its evaluations does too
  module _ (below : worker.evaluation ≤ t.evaluation_number) where
    abbrev made : Evaluation
    made = made_follower w e worker kept

    abbrev late : Bool
    late = missed w kept (follower_of e worker kept)

    abbrev v : Tenant
    v = with_follower worker.evaluation made u

    followed_rows_stay : v.allocations ≡ t.allocations
    followed_rows_stay = tying_keeps (λ t. t.allocations) (λ t rows. refl) worker.evaluation (u.evaluation_number + 1) u ∙ rows_stay

    followed_allocation_stays : v.allocation_number ≡ t.allocation_number
    followed_allocation_stays = tying_keeps (λ t. t.allocation_number) (λ t rows. refl) worker.evaluation (u.evaluation_number + 1) u ∙ allocation_stays

    followed_over_in : HasEnded worker.evaluation v
    followed_over_in = followed_over worker.evaluation u made
        (subst (λ n. worker.evaluation ≤ n) (sym evaluation_stays) below) over_in

    module _ {A : Type 0} (part : World → A) (readies : (w : World) (keys : List Key) → part (record w { ready = keys }) ≡ part w)
        (blocks : (w : World) (keys : List Key) → part (record w { blocked = keys }) ≡ part w) where
      followed_part : part (promote ns e.job (followed ns worker (follower_of e worker kept) u late left)) ≡ part (put_tenant ns v left)
      followed_part = promote_keeps part readies ns e.job (followed ns worker (follower_of e worker kept) u late left)
          ∙ listing_keeps part blocks ns worker (follower_of e worker kept) u late left

    pub followed_passes : is_past_bound (settle w (ended_followed (end_by number ns worker e) (t.evaluation_number + 1) made w)) ≡ passes_bound true t
    followed_passes =
        ap (λ x. is_past_bound (settle w (promote ns e.job x))) (sym (follows number ns w t worker e kept at))
        ∙ passes_shown w (promote ns e.job (followed ns worker (follower_of e worker kept) u late left)) ns t v within at
        (followed_part (λ w. w.tenants) (λ w keys. refl) (λ w keys. refl)
        ∙ ap (λ m. insert m ns v) (unlisting_keeps (λ w. w.tenants) (λ w keys. refl) ns e.job t w))
        (followed_part (λ w. w.pools) (λ w keys. refl) (λ w keys. refl) ∙ unlisting_keeps (λ w. w.pools) (λ w keys. refl) ns e.job t w)
        (followed_part (λ w. w.quotas) (λ w keys. refl) (λ w keys. refl) ∙ unlisting_keeps (λ w. w.quotas) (λ w keys. refl) ns e.job t w)
        followed_rows_stay followed_allocation_stays (touched t v worker.evaluation e row waits followed_over_in)
        ∙ ap (λ n. nat_lt greatest (t.index + 1) || nat_lt greatest (n + 1)) evaluation_stays
