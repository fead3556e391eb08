-- A worker takes, looks, submits and gives back: a world stays orderly.
use Rattle.std.specs.Prelude.{◌≡◌, ◌≢◌, ℕ, ◌+◌, Bool, true, false, cond, not, T, List, [], ◌∷◌, ◌++◌, Option, Some, None, ◌&&◌, ◌||◌, find, nat_le, nat_lt}
use Rattle.std.specs.Prelude.{option_map}
use Rattle.std.proofs.Common.{Less, Equal, Greater, refl, sym, ap, subst, ◌∙◌}
use Rattle.std.specs.FinMap.{get, insert, remove, entries}
use Rattle.std.specs.FinMap.Entries.{put, by_order}
use Rattle.std.specs.List.{list_all}
use Rattle.std.specs.Option.{option_map_or, option_and_then}
use Rattle.std.specs.Ordering.{eq_by_cmp, nat_cmp}
use Rattle.std.specs.declared.cmp.Ordering.{Ordering}
use Rattle.ns_types.specs.declared.evaluation.Evaluation.{Evaluation}
use Rattle.ns_types.specs.declared.evaluation.Status.{Status}
use Rattle.ns_types.specs.declared.job.Job.{Job}
use Rattle.ns_types.specs.declared.reply.Content.TheVariants as Content
use Rattle.ns_types.specs.declared.snapshot.QuotaSeen.{QuotaSeen}
use Rattle.ns_types.specs.declared.worker.Phase.TheVariants as Phase
use Rattle.ns_types.specs.Working.Worker.{Worker}
use Rattle.ns_types.specs.State.Lists.{Each}
use Rattle.ns_types.specs.Settling.Making.{put_tenant, with_status}
use Rattle.ns_types.specs.State.Names.{Name, Key, same_name, same_key, has_key}
use Rattle.ns_types.specs.Settling.Outcome.{NotEnabled, Done}
use Rattle.ns_types.specs.Working.Queue.{is_busy, first_waiting, promote, priority_at, first_of_greatest, is_served}
use Rattle.ns_types.specs.State.Rows.{World, Tenant, QuotaRows, is_open, is_pending}
use Rattle.ns_types.specs.State.Resources.{limits_in}
use Rattle.ns_types.specs.Access.Sharing.{permits}
use Rattle.ns_types.specs.State.Sums.{quota_use}
use Rattle.ns_types.specs.Working.Snapshot.{namespaces_naming, quota_seen, pool_for, snapshot_of}
use Rattle.ns_types.specs.Working.Work.{with_worker, without_worker, without_key, workers_end, is_idle, new_worker, taken, dequeue_in, dequeue, may_snap}
use Rattle.ns_types.specs.Working.Work.{with_snapshot, snap_for, snap, may_submit, submitted, submit_for, submit, is_submitted, most_nacks, with_nack}
use Rattle.ns_types.specs.Working.Work.{given_back, given_up, nack_for, nack}
use Rattle.ns_types.proofs.Lists.{not_both}
use Rattle.ns_types.proofs.Named.{names, numbers as numbers_, one_number, same_name_refl, same_number_refl, first_of_both, second_of_both, same_key_is}
use Rattle.ns_types.proofs.Named.{same_key_refl}
use Rattle.ns_types.proofs.Tables.{each_row}
use Rattle.ns_types.proofs.Tests.{not_Some, same_Some, is_no}
use Rattle.std.proofs.lemmas.Bool.{or_right}
use Rattle.ns_audit.specs.Orderly.{IsKeptBy, IsPendingIn, IsOrderlyTenant, IsReadyIn, IsBlockedIn, IsListed, IsOrderly}
use Rattle.ns_audit.proofs.Steady.Keeping.{at_inserted, KeepsTenant, keeps_then, put_orderly, has_key_filter, ready_orderly, free_of}
use Rattle.ns_audit.proofs.Steady.Asks.{KeepsOrder}
use Rattle.ns_types.proofs.Leads.{leads_there, leads_if}
use Rattle.ns_audit.proofs.Alone.Orderly.{pending_is}
use Rattle.ns_audit.proofs.Steady.Resting.{same_orderly}
use Rattle.ns_audit.proofs.Steady.Work.{removed_row, pending_not_blocked, at_work_orderly, keeping_orderly, keeps_taken, keeps_worker, keeps_without_worker}
use Rattle.ns_audit.proofs.Steady.Work.{keeps_row, keeps_other}

pub at_tenant : (w : World) (P : Tenant → ℕ → Type 0) (ns : Name) (n : ℕ) (t : Tenant) → get w.tenants ns ≡ Some t → IsListed w P ns n → P t n
at_tenant w P ns n t is l = subst (λ x. P x n) (same_Some _ _ (sym l.is_tenant ∙ is)) l.entry

-- ---- finding

pub find_each : {A : Type 0} (P : A → Type 0) (f : A → Bool) (xs : List A) (x : A) → Each P xs → find f xs ≡ Some x → P x × (f x ≡ true)
find_each P f [] x h is = absurd (not_Some _ is)
find_each P f (y ∷ ys) x h is = by (find_each P f ys x h.1) (f y) refl is
  where
    by : (find f ys ≡ Some x → P x × (f x ≡ true)) → (b : Bool) → f y ≡ b → cond b (Some y) (find f ys) ≡ Some x → P x × (f x ≡ true)
    by later true t is = subst (λ x. P x × (f x ≡ true)) (same_Some _ _ is) (h.0, t)
    by later false t is = later is

-- a row that does not pass, in the place of one that does not
pub find_put : {X : Type 0} (g : X → Bool) (k : ℕ) (v : X) (es : List (ℕ × X)) → g v ≡ false → Each (λ e. k ≡ e.0 → g e.1 ≡ false) es →
    find (λ e. g e.1) (put nat_cmp k v es) ≡ find (λ e. g e.1) es
find_put g k v [] new old = ap (λ b. cond b (Some (k, v)) None) new
find_put {X = X} g k v (e ∷ es) new old = by (nat_cmp k e.0) refl (find_put g k v es new old.1)
  where
    by : (r : Ordering) → nat_cmp k e.0 ≡ r → find (λ e. g e.1) (put nat_cmp k v es) ≡ find (λ e. g e.1) es →
        find (λ e. g e.1) (by_order r ((k, v) ∷ e ∷ es) ((e.0, v) ∷ es) (e ∷ put nat_cmp k v es)) ≡ find (λ e. g e.1) (e ∷ es)
    by Less is later = ap (λ b. cond b (Some (k, v)) (find (λ e. g e.1) (e ∷ es))) new
    by Equal is later = ap (λ b. cond b (Some (e.0, v)) (find (λ e. g e.1) es)) new ∙
        ap (λ b. cond b (Some e) (find (λ e. g e.1) es)) (sym (old.0 (one_number k e.0 is)))
    by Greater is later = ap (λ o. cond (g e.1) (Some e) o) later

-- ---- the next one

record IsWaiting (t : Tenant) (job : Name) (n : ℕ) : Type 0 where
  pending : IsPendingIn t n
  is_of_it : same_name job pending.row.job ≡ true

waiting_row : (t : Tenant) (job : Name) (n : ℕ) → first_waiting job t ≡ Some n → IsWaiting t job n
waiting_row t job n is = by (find f (entries t.evaluations)) refl is
  where
    f : (ℕ × Evaluation) → Bool
    f e = same_name job e.1.job && is_pending e.1.status

    by : (x : Option (ℕ × Evaluation)) → find f (entries t.evaluations) ≡ x → option_map (λ e. e.0) x ≡ Some n → IsWaiting t job n
    by None found is = absurd (not_Some _ is)
    by (Some x) found is =
        let y = find_each (λ e. get t.evaluations e.0 ≡ Some e.1) f (entries t.evaluations) x
        (each_row numbers_ one_number (λ k e. get t.evaluations k ≡ Some e) t.evaluations (λ k e at. at)) found in
        subst (λ n. IsWaiting t job n) (same_Some _ _ is)
        (record {
          pending = record { row = x.1; is_row = y.0; is_pending = pending_is x.1.status (second_of_both (same_name job x.1.job) _ y.1) };
          is_of_it = first_of_both _ _ y.1;
        })

pub promote_orderly : (ns job : Name) (w : World) → IsOrderly w → IsOrderly (promote ns job w)
unfolding promote
promote_orderly ns job w s = by (is_busy w ns job) refl
  where
    first : is_busy w ns job ≡ false → (t : Tenant) → get w.tenants ns ≡ Some t → (o : Option ℕ) → first_waiting job t ≡ o →
        IsOrderly (option_map_or (λ n. record w { ready = w.ready ++ (ns, n) ∷ [] }) o w)
    first idle t is None waits = s
    first idle t is (Some n) waits =
        let x = waiting_row t job n waits in
        ready_orderly w s ns n (record {
          tenant = t;
          is_tenant = is;
          entry =
              record { pending = x.pending; free = free_of w ns job n t x.pending.row idle is x.pending.is_row x.is_of_it };
        })

    in_tenant : is_busy w ns job ≡ false → (o : Option Tenant) → get w.tenants ns ≡ o →
        IsOrderly (option_map_or (λ t. option_map_or (λ n. record w { ready = w.ready ++ (ns, n) ∷ [] }) (first_waiting job t) w) o w)
    in_tenant idle None is = s
    in_tenant idle (Some t) is = first idle t is (first_waiting job t) refl

    by : (b : Bool) → is_busy w ns job ≡ b → IsOrderly
        (cond b w (option_map_or (λ t. option_map_or (λ n. record w { ready = w.ready ++ (ns, n) ∷ [] }) (first_waiting job t) w) (get w.tenants ns) w))
    by true _ = s
    by false idle = in_tenant idle (get w.tenants ns) refl

-- ---- Dequeue

served_in : (priority : Key → ℕ) (keys : List Key) (key : Key) → first_of_greatest priority keys ≡ Some key → has_key keys key ≡ true
served_in priority [] key e = absurd (not_Some _ e)
served_in priority (x ∷ xs) key e = by (served_in priority xs key) (list_all (λ other. nat_le (priority other) (priority x)) xs) e
  where
    by : (first_of_greatest priority xs ≡ Some key → has_key xs key ≡ true) → (b : Bool) → cond b (Some x) (first_of_greatest priority xs) ≡ Some key →
        (same_key key x || has_key xs key) ≡ true
    by later true e = ap (λ b. b || has_key xs key) (subst (λ k. same_key k x ≡ true) (same_Some x key e) (same_key_refl x))
    by later false e = or_right (same_key key x) _ (later e)

pub in_ready : (w : World) (key : Key) → is_served w w.ready key ≡ true → has_key w.ready key ≡ true
in_ready w key e = by (first_of_greatest (priority_at w) w.ready) refl e
  where
    by : (k : Option Key) → first_of_greatest (priority_at w) w.ready ≡ k → option_map_or (same_key key) k false ≡ true → has_key w.ready key ≡ true
    by None is e = absurd (subst T (sym e) tt)
    by (Some k) is e = subst (λ x. has_key w.ready x ≡ true) (λ i. (sym (same_key_is key k e).0 i, sym (same_key_is key k e).1 i))
        (served_in (priority_at w) w.ready k is)

module _ (w : World) (s : IsOrderly w) (ns : Name) where
  taken_orderly : (number n : ℕ) (t : Tenant) (e : Evaluation) → get w.tenants ns ≡ Some t → has_key w.ready (ns, n) ≡ true →
      IsOrderly (taken number (ns, n) w t e)
  taken_orderly number n t e is has = put_orderly less ns t (with_worker number (new_worker n e) t) is less_orderly
      (keeps_taken ns _ _ t (s.tenant ns t is) number n (new_worker n e) refl refl (at_tenant w IsReadyIn ns n t is (s.ready ns n has)) unlisted)
    where
      less : World
      less = record w { ready = without_key (ns, n) w.ready }

      less_orderly : IsOrderly less
      less_orderly = same_orderly w less refl (λ key listed. (has_key_filter (λ other. not (same_key (ns, n) other)) w.ready key listed).0)
          (λ key listed. listed) s

      unlisted : (m : ℕ) → has_key less.ready (ns, m) ≡ true → n ≢ m
      unlisted m listed same = not_both (λ i. same_name_refl ns i && (ap (λ j. eq_by_cmp nat_cmp n j) (sym same) ∙ same_number_refl n) i)
          (is_no _ (has_key_filter (λ other. not (same_key (ns, n) other)) w.ready (ns, m) listed).1)

  pub dequeue_orderly : (number n : ℕ) → KeepsOrder (dequeue number (ns, n) w)
  unfolding dequeue
  dequeue_orderly number n = leads_if IsOrderly (nat_lt number workers_end && is_idle w number && is_served w w.ready (ns, n))
      (option_map_or (dequeue_in number (ns, n) w) (get w.tenants ns) NotEnabled) NotEnabled (λ h.
      leads_there IsOrderly (get w.tenants ns) (dequeue_in number (ns, n) w)
      (λ t is. leads_there IsOrderly (get t.evaluations n) _
      (λ e row. taken_orderly number n t e is (in_ready w (ns, n) (second_of_both (nat_lt number workers_end && is_idle w number) _ h))))) (λ _. tt)

  -- ---- Snap, Submit

  seen : (t : Tenant) (number : ℕ) (worker : Worker) (e : Evaluation) → get w.tenants ns ≡ Some t → get t.workers number ≡ Some worker →
      get t.evaluations worker.evaluation ≡ Some e → IsKeptBy ns t (snapshot_of w ns t worker.evaluation e)
  seen t number worker e is has at = record {
    namespace = refl;
    allowed =
        record { permitted = by (get t.jobs e.job) refl; its_quota = λ q named. quota t.namespace.quota q named };
  }
    where
      r : IsOrderlyTenant ns t
      r = s.tenant ns t is

      by : (j : Option Job) → get t.jobs e.job ≡ j → permits t.namespace (pool_for e j) ≡ true
      by None _ = let p = r.held number worker has in
          (r.evaluation worker.evaluation e at (ap (λ e. is_open e.status) (same_Some _ _ (sym at ∙ p.is_row)) ∙ ap is_open p.is_pending)).permitted
      by (Some j) found = r.job e.job j found

      quota : (o : Option Name) (q : Name) → option_map (λ (q : QuotaSeen). q.name) (option_and_then (quota_seen w) o) ≡ Some q → o ≡ Some q
      quota None q named = absurd (not_Some _ named)
      quota (Some name) q named = here (get w.quotas name) named
        where
          here : (x : Option QuotaRows) → option_map (λ (q : QuotaSeen). q.name)
              (option_map (λ q. record {
                name = name;
                limits = limits_in q.quota.limits;
                used = quota_use w name;
                release = q.release;
                namespaces =
                    namespaces_naming w name;
              }) x) ≡ Some q → Some name ≡ Some q
          here None named = absurd (not_Some _ named)
          here (Some x) named = named

  pub snap_orderly : (number : ℕ) → KeepsOrder (snap number ns w)
  unfolding snap
  snap_orderly number = at_work_orderly w number ns (snap_for number ns w) (λ t worker e is has at.
      let kept = snapshot_of w ns t worker.evaluation e in
      leads_if IsOrderly (may_snap worker.tries worker.phase)
      (Done (Content.Snapped worker.evaluation) (put_tenant ns (with_worker number (with_snapshot kept worker) t) w)) NotEnabled
      (λ _. put_orderly w ns t (with_worker number (with_snapshot kept worker) t) is s
      (keeps_worker ns _ _ t (s.tenant ns t is) number worker (with_snapshot kept worker) has refl
      (λ k keeps. subst (IsKeptBy ns t) (same_Some _ _ keeps) (seen t number worker e is has at)))) (λ _. tt))

  pub submit_orderly : (number : ℕ) → KeepsOrder (submit number ns w)
  unfolding submit
  submit_orderly number = keeping_orderly w number ns (λ t worker e. submit_for number ns w t worker) (λ t worker e kept is has at keeps.
      leads_if IsOrderly (may_submit worker kept) (Done (Content.Queued worker.evaluation) (submitted number ns w t worker)) NotEnabled
      (λ _. same_orderly (put_tenant ns (with_worker number (record worker { phase = Phase.Submitted }) t) w) (submitted number ns w t worker) refl
      (λ key listed. listed) (λ key listed. listed)
      (put_orderly w ns t (with_worker number (record worker { phase = Phase.Submitted }) t) is s
      (keeps_worker ns _ _ t (s.tenant ns t is) number worker (record worker { phase = Phase.Submitted }) has refl
      (λ k k_has. (s.tenant ns t is).snapshot number worker k has k_has)))) (λ _. tt))

-- ---- an evaluation ends

module _ (ns : Name) (ready blocked : ℕ → Bool) (t : Tenant) (s : IsOrderlyTenant ns t) (number : ℕ) (worker : Worker) (e : Evaluation)
    (has : get t.workers number ≡ Some worker) (at : get t.evaluations worker.evaluation ≡ Some e) where
  -- without its worker no other has it
  pub free_then : (m : ℕ) (x : Worker) → get (remove t.workers number) m ≡ Some x → x.evaluation ≢ worker.evaluation
  free_then m x is same = let y = removed_row t.workers number m x is in y.1 (s.one_each m number x worker y.0 has same)

  closes : (status : Status) → with_status worker.evaluation status (without_worker number t) ≡ record (without_worker number t)
      { evaluations = insert t.evaluations worker.evaluation (record e { status = status }) }
  closes status = ap (λ o. option_map_or (λ e. record (without_worker number t)
      { evaluations = insert t.evaluations worker.evaluation (record e { status = status }) }) o (without_worker number t)) at

  pub closed_keeps : (status : Status) → is_open status ≡ false → ((m : ℕ) → ready m ≡ true → m ≢ worker.evaluation) →
      ((m : ℕ) → blocked m ≡ true → m ≢ worker.evaluation)
      → KeepsTenant ns ready blocked t (with_status worker.evaluation status (without_worker number t))
  closed_keeps status shut unready unblocked = subst (KeepsTenant ns ready blocked t) (sym (closes status))
      (let first = keeps_without_worker ns ready blocked t s number in
      keeps_then ns ready blocked t (without_worker number t) _ first
      (keeps_other ns ready blocked (without_worker number t) first.sound worker.evaluation e (record e { status = status }) at (λ open_. not_both open_ shut)
      free_then unready unblocked))

module _ (w : World) (s : IsOrderly w) (ns : Name) (number : ℕ) (t : Tenant) (worker : Worker) (is : get w.tenants ns ≡ Some t)
    (has : get t.workers number ≡ Some worker) where
  pub unready : (m : ℕ) → has_key w.ready (ns, m) ≡ true → m ≢ worker.evaluation
  unready m listed same = (at_tenant w IsReadyIn ns m t is (s.ready ns m listed)).free number worker has (sym same)

  pub unblocked : (m : ℕ) → has_key w.blocked (ns, m) ≡ true → m ≢ worker.evaluation
  unblocked m listed same =
      let b = at_tenant w IsBlockedIn ns m t is (s.blocked ns m listed) in
      let p = (s.tenant ns t is).held number worker has in
      pending_not_blocked p.row.status p.is_pending (ap (λ e. e.status) (same_Some _ _ (sym p.is_row ∙ ap (get t.evaluations) (sym same) ∙ b.is_row)) ∙
      b.is_blocked)

  -- ---- Nack

  nacking : (e : Evaluation) → get t.evaluations worker.evaluation ≡ Some e → KeepsTenant ns (λ n. has_key w.ready (ns, n)) (λ n. has_key w.blocked (ns, n)) t
      (with_nack worker.evaluation e t)
  nacking e at = keeps_row ns _ _ t (s.tenant ns t is) worker.evaluation e (record e { nacks = e.nacks + 1 }) at
      (λ open_. (s.tenant ns t is).evaluation worker.evaluation e at open_) refl

  back_orderly : (e : Evaluation) → get t.evaluations worker.evaluation ≡ Some e → KeepsOrder (given_back number ns w (with_nack worker.evaluation e t) worker)
  back_orderly e at = ready_orderly (put_tenant ns t' w)
      (put_orderly w ns t t' is s (keeps_then ns _ _ t (with_nack worker.evaluation e t) t' (nacking e at)
      (keeps_without_worker ns _ _ (with_nack worker.evaluation e t) (nacking e at).sound number))) ns worker.evaluation
      (record {
        tenant = t';
        is_tenant = at_inserted names w.tenants ns t' (same_name_refl ns);
        entry = record {
          pending = record {
            row = record e { nacks = e.nacks + 1 };
            is_row = at_inserted numbers_ t.evaluations worker.evaluation (record e { nacks = e.nacks + 1 }) (same_number_refl worker.evaluation);
            is_pending = let p = (s.tenant ns t is).held number worker has in ap (λ e. e.status) (same_Some _ _ (sym at ∙ p.is_row)) ∙ p.is_pending;
          };
          free = free_then ns (λ _. true) (λ _. true) t (s.tenant ns t is) number worker e has at;
        };
      })
    where
      t' : Tenant
      t' = without_worker number (with_nack worker.evaluation e t)

  up_orderly : (e : Evaluation) → get t.evaluations worker.evaluation ≡ Some e → KeepsOrder (given_up number ns w (with_nack worker.evaluation e t) worker e)
  up_orderly e at = promote_orderly ns e.job (put_tenant ns t' w)
      (put_orderly w ns t t' is s (keeps_then ns _ _ t (with_nack worker.evaluation e t) t' (nacking e at)
      (closed_keeps ns _ _ (with_nack worker.evaluation e t) (nacking e at).sound number worker (record e { nacks = e.nacks + 1 }) has
      (at_inserted numbers_ t.evaluations worker.evaluation (record e { nacks = e.nacks + 1 }) (same_number_refl worker.evaluation))
      Status.Failed refl unready unblocked)))
    where
      t' : Tenant
      t' = with_status worker.evaluation Status.Failed (without_worker number (with_nack worker.evaluation e t))

pub nack_orderly : (w : World) → IsOrderly w → (ns : Name) (number : ℕ) → KeepsOrder (nack number ns w)
unfolding nack
nack_orderly w s ns number = at_work_orderly w number ns (nack_for number ns w) (λ t worker e is has at.
    leads_if IsOrderly (is_submitted worker.phase) NotEnabled _ (λ _. tt) (λ _.
    leads_if IsOrderly (nat_le most_nacks (e.nacks + 1)) (given_up number ns w (with_nack worker.evaluation e t) worker e)
    (given_back number ns w (with_nack worker.evaluation e t) worker)
    (λ _. up_orderly w s ns number t worker is has e at) (λ _. back_orderly w s ns number t worker is has e at)))
