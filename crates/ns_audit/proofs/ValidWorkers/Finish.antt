-- A worker gives back or finishes: it is gone, and the others are as they were.
use Rattle.std.specs.Prelude.{◌≡◌, ◌≢◌, ℕ, ◌+◌, ◌≤◌, Bool, true, false, cond, T, List, [], ◌∷◌, ◌++◌, Option, Some, None, nat_le}
use Rattle.std.proofs.Common.{◌⊎◌, inl, inr, refl, sym, ap, subst, ◌∙◌}
use Rattle.std.specs.FinMap.{get, insert, remove}
use Rattle.std.specs.Option.{option_map_or}
use Rattle.std.specs.Ordering.{eq_by_cmp, nat_cmp}
use Rattle.ns_types.specs.declared.evaluation.Evaluation.{Evaluation}
use Rattle.ns_types.specs.declared.evaluation.Status.{Status}
use Rattle.ns_types.specs.declared.reply.Content.TheVariants as Content
use Rattle.ns_types.specs.declared.snapshot.Snapshot.{Snapshot}
use Rattle.ns_types.specs.declared.worker.Phase.{Phase}
use Rattle.ns_types.specs.Working.Worker.{Worker}
use Rattle.ns_types.specs.Settling.Making.{put_tenant, with_status, with_evaluation}
use Rattle.ns_types.specs.State.Names.{Name, Key, same_key, has_key}
use Rattle.ns_types.specs.Settling.Outcome.{NotEnabled, Done}
use Rattle.ns_types.specs.Working.Queue.{first_waiting, is_busy, promote}
use Rattle.ns_types.specs.Settling.Releases.{missed}
use Rattle.ns_types.specs.State.Rows.{World, Tenant}
use Rattle.ns_types.specs.Validity.{IsSound}
use Rattle.ns_types.specs.Working.Work.{without_worker, without_key, end_of, needs_follower, follower_of, blocked_of, without_blocked, cancel_blocked, ended}
use Rattle.ns_types.specs.Working.Work.{with_follower, followed, may_finish_in, may_finish, finished, finish_for, finish, is_submitted, most_nacks, with_nack}
use Rattle.ns_types.specs.Working.Work.{given_back, given_up, nack_for, nack}
use Rattle.ns_types.proofs.Lists.{not_both}
use Rattle.ns_types.proofs.Named.{names, one_name, numbers as numbers_, one_number, same_number_refl, same_key_is}
use Rattle.ns_types.proofs.Tables.{tied}
use Rattle.ns_types.proofs.Tests.{same_Some}
use Rattle.ns_types.proofs.TableRows.{row_of_insert}
use Rattle.ns_audit.proofs.Steady.Keeping.{at_inserted, elsewhere, has_key_append}
use Rattle.ns_audit.proofs.Steady.Finish.{blocked_row}
use Rattle.ns_audit.proofs.Steady.Work.{removed_row, pending_not_blocked}
use Rattle.ns_types.proofs.Leads.{leads_if}
use Rattle.ns_audit.proofs.Alone.Orderly.{orderly}
use Rattle.ns_audit.proofs.ValidWorkers.Admins.{IsWell, KeepsStaff}
use Rattle.ns_audit.proofs.ValidWorkers.Busy.{HasWorker, IsBusyIn, IsNumbered, IsQueuedIn, IsQueued, KeepsJobs, queued_in, worker_of_remove, promote_queued}
use Rattle.ns_audit.proofs.ValidWorkers.Change.{row_apart, left_row, reworked, was_here, free_here, working_staff, keeping_staff}
use Rattle.ns_audit.proofs.ValidWorkers.Once.{is_once, once_append}
use Rattle.ns_audit.proofs.ValidWorkers.Quiet.{grows_with_evaluation, held_at_first}
use Rattle.ns_audit.proofs.ValidWorkers.Settle.{queued_same}
use Rattle.ns_audit.proofs.ValidWorkers.Staff.{sound_staffed}

-- ---- evaluations of one namespace

-- but for one, the pending ones are left, and each keeps its job
record Ends (n : ℕ) (t u : Tenant) : Type 0 where
  numbered : IsNumbered t → IsNumbered u
  jobs : IsNumbered t → KeepsJobs t u
  pending : IsNumbered t → (m : ℕ) (e : Evaluation) → m ≢ n → e.status ≡ Status.Pending → get t.evaluations m ≡ Some e → get u.evaluations m ≡ Some e

ends_same : (n : ℕ) (t u : Tenant) → u.evaluations ≡ t.evaluations → u.evaluation_number ≡ t.evaluation_number → Ends n t u
ends_same n t u evaluations number = record {
  numbered = λ numbered m e at. subst (λ k. m ≤ k) (sym number) (numbered m e (ap (λ r. get r m) (sym evaluations) ∙ at));
  jobs = λ _ m e at. (e, ap (λ r. get r m) evaluations ∙ at, refl);
  pending = λ _ m e differs p at. ap (λ r. get r m) evaluations ∙ at;
}

ends_then : (n : ℕ) (t u v : Tenant) → Ends n t u → Ends n u v → Ends n t v
ends_then n t u v a b = record {
  numbered = λ numbered. b.numbered (a.numbered numbered);
  jobs = λ numbered m e at. let d = a.jobs numbered m e at in let c = b.jobs (a.numbered numbered) m d.0 d.1 in (c.0, c.1, c.2 ∙ d.2);
  pending = λ numbered m e differs p at. b.pending (a.numbered numbered) m e differs p (a.pending numbered m e differs p at);
}

-- a row in the place of another of the job: of the one, or of one that is not pending
ends_row : (n k : ℕ) (t : Tenant) (old new : Evaluation) → get t.evaluations k ≡ Some old → new.job ≡ old.job → (k ≡ n) ⊎ (old.status ≡ Status.Pending → ⊥) →
    Ends n t (record t { evaluations = insert t.evaluations k new })
ends_row n k t old new k_at job which = record {
  numbered = λ numbered m e at. bound numbered m e (row_of_insert numbers_ one_number t.evaluations k new m e at);
  jobs = λ _ m e at. by m e at (eq_by_cmp nat_cmp m k) refl;
  pending = λ _ m e differs p at. elsewhere t.evaluations k m new e (apart m e differs p at which) at;
}
  where
    bound : IsNumbered t → (m : ℕ) (e : Evaluation) → ((m ≡ k) × (new ≡ e)) ⊎ (get t.evaluations m ≡ Some e) → m ≤ t.evaluation_number
    bound numbered m e (inl is) = subst (λ j. j ≤ t.evaluation_number) (sym is.0) (numbered k old k_at)
    bound numbered m e (inr at) = numbered m e at

    by : (m : ℕ) (e : Evaluation) → get t.evaluations m ≡ Some e → (b : Bool) → eq_by_cmp nat_cmp m k ≡ b → (d : Evaluation) ×
        (get (insert t.evaluations k new) m ≡ Some d) × (d.job ≡ e.job)
    by m e at true is = let same = tied one_number m k is in (
      new,
      ap (get (insert t.evaluations k new)) same ∙ at_inserted numbers_ t.evaluations k new (same_number_refl k),
      job ∙ ap (λ (e : Evaluation). e.job) (same_Some _ _ (sym k_at ∙ ap (get t.evaluations) (sym same) ∙ at)),
    )
    by m e at false is = (e, elsewhere t.evaluations k m new e (λ same. not_both (ap (λ j. eq_by_cmp nat_cmp j k) same ∙ same_number_refl k) is) at, refl)

    apart : (m : ℕ) (e : Evaluation) → m ≢ n → e.status ≡ Status.Pending → get t.evaluations m ≡ Some e → (k ≡ n) ⊎ (old.status ≡ Status.Pending → ⊥) → m ≢ k
    apart m e differs p at (inl one) same = differs (same ∙ one)
    apart m e differs p at (inr shut) same = shut (ap (λ (e : Evaluation). e.status) (same_Some _ _ (sym k_at ∙ ap (get t.evaluations) (sym same) ∙ at)) ∙ p)

ends_status : (n : ℕ) (status : Status) (t : Tenant) → Ends n t (with_status n status t)
ends_status n status t = by (get t.evaluations n) refl
  where
    by : (o : Option Evaluation) → get t.evaluations n ≡ o →
        Ends n t (option_map_or (λ e. record t { evaluations = insert t.evaluations n (record e { status = status }) }) o t)
    by None at = ends_same n t t refl refl
    by (Some e) at = ends_row n n t e (record e { status = status }) at refl (inl refl)

ends_cancel : (n : ℕ) (job : Name) (t : Tenant) → Ends n t (cancel_blocked job t)
ends_cancel n job t = by (blocked_of t job) refl
  where
    by : (o : Option ℕ) → blocked_of t job ≡ o → Ends n t (option_map_or (λ n. with_status n Status.Canceled t) o t)
    by None is = ends_same n t t refl refl
    by (Some k) is =
        let b = blocked_row t job k is in
        subst (Ends n t) (sym (ap (λ o. option_map_or (λ e. record t { evaluations = insert t.evaluations k (record e { status = Status.Canceled }) }) o t)
        b.is_row))
        (ends_row n k t b.row (record b.row { status = Status.Canceled }) b.is_row refl (inr (λ p. pending_not_blocked b.row.status p b.is_blocked)))

ends_follower : (n : ℕ) (f : Evaluation) (t : Tenant) → Ends n t (with_follower n f t)
ends_follower n f t = by (get t.evaluations n) refl
  where
    tied_row : Option Evaluation → Tenant
    tied_row o = option_map_or (λ e. record t { evaluations = insert t.evaluations n (record e { follower = Some (t.evaluation_number + 1) }) }) o t

    grown : (u : Tenant) → Ends n u (with_evaluation f u)
    grown u = let g = grows_with_evaluation f u in
        record {
          numbered = g.numbered;
          jobs = λ numbered m e at. (e, g.rows numbered m e at, refl);
          pending =
              λ numbered m e differs p at. g.rows numbered m e at;
        }

    by : (o : Option Evaluation) → get t.evaluations n ≡ o →
        Ends n t (record (tied_row o) {
          evaluation_number = t.evaluation_number + 1;
          evaluations =
              insert (tied_row o).evaluations (t.evaluation_number + 1) f;
        })
    by None at = grown t
    by (Some e) at =
        let row : Evaluation = record e { follower = Some (t.evaluation_number + 1) } in
        ends_then n t (record t { evaluations = insert t.evaluations n row }) _ (ends_row n n t e row at refl (inl refl))
        (grown (record t { evaluations = insert t.evaluations n row }))

-- ---- who is gone

pub with_status_workers : (n : ℕ) (status : Status) (t : Tenant) → (with_status n status t).workers ≡ t.workers
with_status_workers n status t = elim (get t.evaluations n) as
    (λ (o : Option Evaluation). (option_map_or (λ e. record t { evaluations = insert t.evaluations n (record e { status = status }) }) o t).workers ≡ t.workers)
    [ Some e ↦ refl | None ↦ refl ]

pub cancel_workers : (job : Name) (t : Tenant) → (cancel_blocked job t).workers ≡ t.workers
cancel_workers job t = by (blocked_of t job)
  where
    by : (o : Option ℕ) → (option_map_or (λ n. with_status n Status.Canceled t) o t).workers ≡ t.workers
    by None = refl
    by (Some n) = with_status_workers n Status.Canceled t

pub follower_workers : (n : ℕ) (f : Evaluation) (t : Tenant) → (with_follower n f t).workers ≡ t.workers
follower_workers n f t = elim (get t.evaluations n) as
    (λ (o : Option Evaluation). (option_map_or (λ e. record t { evaluations = insert t.evaluations n (record e { follower = Some (t.evaluation_number + 1) }) })
    o t).workers ≡ t.workers) [ Some e ↦ refl | None ↦ refl ]

-- the lists after the others have moved up
module _ {A : Type 0} (f : World → A) (same : (w : World) (keys : List Key) → f (record w { ready = keys }) ≡ f w) where
  promote_keeps : (ns job : Name) (w : World) → f (promote ns job w) ≡ f w
  unfolding promote
  promote_keeps ns job w = by (is_busy w ns job)
    where
      waiting : (o : Option ℕ) → f (option_map_or (λ n. record w { ready = w.ready ++ (ns, n) ∷ [] }) o w) ≡ f w
      waiting None = refl
      waiting (Some n) = same w (w.ready ++ (ns, n) ∷ [])

      tenant : (o : Option Tenant) → f (option_map_or (λ t. option_map_or (λ n. record w { ready = w.ready ++ (ns, n) ∷ [] }) (first_waiting job t) w) o w)
          ≡ f w
      tenant None = refl
      tenant (Some t) = waiting (first_waiting job t)

      by : (b : Bool) → f (cond b w (option_map_or (λ t. option_map_or (λ n. record w { ready = w.ready ++ (ns, n) ∷ [] }) (first_waiting job t) w)
          (get w.tenants ns) w)) ≡ f w
      by true = refl
      by false = tenant (get w.tenants ns)

module _ {A : Type 0} (f : World → A) (same : (w : World) (keys : List Key) → f (record w { blocked = keys }) ≡ f w) where
  less_keeps : (ns job : Name) (t : Tenant) (w : World) → f (without_blocked ns job t w) ≡ f w
  less_keeps ns job t w = by (blocked_of t job)
    where
      by : (o : Option ℕ) → f (option_map_or (λ n. record w { blocked = without_key (ns, n) w.blocked }) o w) ≡ f w
      by None = refl
      by (Some n) = same w (without_key (ns, n) w.blocked)

module _ (w : World) (s : IsSound w) (q : IsQueued w) (ns : Name) (number : ℕ) (t : Tenant) (worker : Worker) (is : get w.tenants ns ≡ Some t)
    (has : get t.workers number ≡ Some worker) (idle : is_submitted worker.phase ≡ false) (u : Tenant)
    (workers : u.workers ≡ remove t.workers number) (ends : Ends worker.evaluation t u) where
  numbered : IsNumbered t
  numbered = (q.tenant ns t is).numbered

  gone_well : (x : World) → x.tenants ≡ insert w.tenants ns u → x.plans ≡ w.plans → x.pools ≡ w.pools → x.quotas ≡ w.quotas → IsQueued x → IsWell w x
  gone_well x tenants plans pools quotas queued = reworked w w x ns number worker.evaluation t u (sound_staffed w s) (held_at_first w (orderly w s)) (record {
    is_tenant = is;
    put = tenants;
    pools = pools;
    quotas = quotas;
    was = was_here w (sound_staffed w s) ns number t worker is has;
    free = free_here w (sound_staffed w s) ns number t worker is has;
    on = λ m v at differs. ap (λ r. get r m) workers ∙ left_row t.workers number m v differs at;
    back = λ m v at. inr (removed_row t.workers number m v (ap (λ r. get r m) (sym workers) ∙ at));
    rows = λ m v at differs.
        let p = ((orderly w s).tenant ns t is).held m v at in
        ends.pending numbered v.evaluation p.row (free_here w (sound_staffed w s) ns number t worker is has m v at differs) p.is_pending p.is_row ∙
        sym p.is_row;
    other_plans = λ key differs. ap (λ keys. has_key keys key) plans;
    plans_once = ap (λ keys. is_once same_key keys) plans ∙ (sound_staffed w s).plans_once;
    planned = λ listed. absurd (not_both (ap (λ keys. has_key keys (ns, worker.evaluation)) (sym plans) ∙ listed)
        (((sound_staffed w s).worker ns t number worker is has).plan_listed ∙ idle));
  }) queued

  fewer : (m : ℕ) → HasWorker u.workers m → HasWorker t.workers m
  fewer m h = worker_of_remove t.workers number m (subst (λ r. HasWorker r m) workers h)

  -- the namespace is put back where lists are as they were
  gone_queued : (y : World) → IsQueued y → y.ready ≡ w.ready → IsQueued (put_tenant ns u y)
  gone_queued y y_queued ready = record { tenant = λ k v k_is. by k v (row_of_insert names one_name y.tenants ns u k v k_is); once = y_queued.once }
    where
      busy : (m : ℕ) → IsBusyIn y.ready ns u.workers m → IsBusyIn w.ready ns t.workers m
      busy m (inl listed) = inl (ap (λ keys. has_key keys (ns, m)) (sym ready) ∙ listed)
      busy m (inr h) = inr (fewer m h)

      by : (k : Name) (v : Tenant) → ((k ≡ ns) × (u ≡ v)) ⊎ (get y.tenants k ≡ Some v) → IsQueuedIn y.ready k v
      by k v (inr at) = y_queued.tenant k v at
      by k v (inl e) = subst (λ v. IsQueuedIn y.ready k v) e.1
          (subst (λ k. IsQueuedIn y.ready k u) (sym e.0)
          (queued_in w.ready y.ready ns t u (q.tenant ns t is) (ends.numbered numbered) busy (ends.jobs numbered)))

  -- its evaluation is ready again
  back_queued : IsQueued (record (put_tenant ns u w) { ready = w.ready ++ (ns, worker.evaluation) ∷ [] })
  back_queued = record {
    tenant = λ k v k_is. by k v (row_apart names one_name w.tenants ns u k v k_is);
    once = once_append w.ready (ns, worker.evaluation) q.once ((s.tenant ns t is).worker number worker has).not_ready;
  }
    where
      more : List Key
      more = w.ready ++ (ns, worker.evaluation) ∷ []

      mine : (m : ℕ) → (has_key w.ready (ns, m) ≡ true) ⊎ (same_key (ns, m) (ns, worker.evaluation) ≡ true) → IsBusyIn w.ready ns t.workers m
      mine m (inl old) = inl old
      mine m (inr new) = inr (record { number = number; worker = worker; is_worker = has; same = sym (same_key_is (ns, m) (ns, worker.evaluation) new).1 })

      busy : (m : ℕ) → IsBusyIn more ns u.workers m → IsBusyIn w.ready ns t.workers m
      busy m (inl listed) = mine m (has_key_append w.ready (ns, worker.evaluation) (ns, m) listed)
      busy m (inr h) = inr (fewer m h)

      other : (k : Name) → k ≢ ns → (m : ℕ) → (has_key w.ready (k, m) ≡ true) ⊎ (same_key (k, m) (ns, worker.evaluation) ≡ true) → has_key w.ready (k, m) ≡ true
      other k differs m (inl old) = old
      other k differs m (inr new) = absurd (differs (same_key_is (k, m) (ns, worker.evaluation) new).0)

      busy_other : (k : Name) (v : Tenant) → k ≢ ns → (m : ℕ) → IsBusyIn more k v.workers m → IsBusyIn w.ready k v.workers m
      busy_other k v differs m (inl listed) = inl (other k differs m (has_key_append w.ready (ns, worker.evaluation) (k, m) listed))
      busy_other k v differs m (inr h) = inr h

      by : (k : Name) (v : Tenant) → ((k ≡ ns) × (u ≡ v)) ⊎ ((get w.tenants k ≡ Some v) × (k ≢ ns)) → IsQueuedIn more k v
      by k v (inr at) = queued_in w.ready more k v v (q.tenant k v at.0) (q.tenant k v at.0).numbered (busy_other k v at.1) (λ m e e_at. (e, e_at, refl))
      by k v (inl e) = subst (λ v. IsQueuedIn more k v) e.1
          (subst (λ k. IsQueuedIn more k u) (sym e.0) (queued_in w.ready more ns t u (q.tenant ns t is) (ends.numbered numbered) busy (ends.jobs numbered)))

-- ---- Nack

module _ (w : World) (s : IsSound w) (q : IsQueued w) (ns : Name) (number : ℕ) where
  pub nack_well : KeepsStaff w (nack number ns w)
  unfolding nack
  nack_well = working_staff w number ns (nack_for number ns w) (λ t worker e is has at.
      leads_if (IsWell w) (is_submitted worker.phase) NotEnabled _ (λ _. tt) (λ idle.
      leads_if (IsWell w) (nat_le most_nacks (e.nacks + 1)) (given_up number ns w (with_nack worker.evaluation e t) worker e)
      (given_back number ns w (with_nack worker.evaluation e t) worker)
      (λ _. up t worker e is has at idle) (λ _. back t worker e is has at idle)))
    where
      nacked : (t : Tenant) (worker : Worker) (e : Evaluation) → get t.evaluations worker.evaluation ≡ Some e →
          Ends worker.evaluation t (without_worker number (with_nack worker.evaluation e t))
      nacked t worker e at = ends_then worker.evaluation t (with_nack worker.evaluation e t) _
          (ends_row worker.evaluation worker.evaluation t e (record e { nacks = e.nacks + 1 }) at refl (inl refl))
          (ends_same worker.evaluation (with_nack worker.evaluation e t) _ refl refl)

      back : (t : Tenant) (worker : Worker) (e : Evaluation) → get w.tenants ns ≡ Some t → get t.workers number ≡ Some worker →
          get t.evaluations worker.evaluation ≡ Some e → is_submitted worker.phase ≡ false →
          KeepsStaff w (given_back number ns w (with_nack worker.evaluation e t) worker)
      back t worker e is has at idle =
          let u = without_worker number (with_nack worker.evaluation e t) in
          gone_well w s q ns number t worker is has idle u refl (nacked t worker e at)
          (record (put_tenant ns u w) { ready = w.ready ++ (ns, worker.evaluation) ∷ [] }) refl refl refl refl
          (back_queued w s q ns number t worker is has idle u refl (nacked t worker e at))

      up : (t : Tenant) (worker : Worker) (e : Evaluation) → get w.tenants ns ≡ Some t → get t.workers number ≡ Some worker →
          get t.evaluations worker.evaluation ≡ Some e → is_submitted worker.phase ≡ false →
          KeepsStaff w (given_up number ns w (with_nack worker.evaluation e t) worker e)
      up t worker e is has at idle =
          let v = without_worker number (with_nack worker.evaluation e t) in
          let u = with_status worker.evaluation Status.Failed v in
          let ends = ends_then worker.evaluation t v u (nacked t worker e at) (ends_status worker.evaluation Status.Failed v) in
          let workers = with_status_workers worker.evaluation Status.Failed v in
          gone_well w s q ns number t worker is has idle u workers ends (promote ns e.job (put_tenant ns u w))
          (promote_keeps (λ w. w.tenants) (λ w keys. refl) ns e.job (put_tenant ns u w))
          (promote_keeps (λ w. w.plans) (λ w keys. refl) ns e.job (put_tenant ns u w))
          (promote_keeps (λ w. w.pools) (λ w keys. refl) ns e.job (put_tenant ns u w))
          (promote_keeps (λ w. w.quotas) (λ w keys. refl) ns e.job (put_tenant ns u w))
          (promote_queued ns e.job (put_tenant ns u w) (gone_queued w s q ns number t worker is has idle u workers ends w q refl))

-- ---- Finish

not_submitted : (p : Phase) (tries : ℕ) (kept : Snapshot) → may_finish_in p tries kept ≡ true → is_submitted p ≡ false
not_submitted Phase.Took tries kept e = refl
not_submitted Phase.Snapped tries kept e = refl
not_submitted Phase.Submitted tries kept e = absurd (subst T (sym e) tt)
not_submitted Phase.Applied tries kept e = refl
not_submitted Phase.Dropped tries kept e = refl

module _ (w : World) (s : IsSound w) (q : IsQueued w) (ns : Name) (number : ℕ) (t : Tenant) (worker : Worker) (e : Evaluation) (is : get w.tenants ns ≡ Some t)
    (has : get t.workers number ≡ Some worker) (idle : is_submitted worker.phase ≡ false) where
  abbrev less : World
  less = without_blocked ns e.job t w

  abbrev rest : Tenant
  rest = ended number worker e (end_of worker) t

  less_queued : IsQueued less
  less_queued = queued_same w less (less_keeps (λ w. w.tenants) (λ w keys. refl) ns e.job t w) (less_keeps (λ w. w.ready) (λ w keys. refl) ns e.job t w) q

  rest_workers : rest.workers ≡ remove t.workers number
  rest_workers = cancel_workers e.job (with_status worker.evaluation (end_of worker) (without_worker number t)) ∙
      with_status_workers worker.evaluation (end_of worker) (without_worker number t)

  rest_ends : Ends worker.evaluation t rest
  rest_ends = ends_then worker.evaluation t (without_worker number t) rest (ends_same worker.evaluation t (without_worker number t) refl refl)
      (ends_then worker.evaluation (without_worker number t) (with_status worker.evaluation (end_of worker) (without_worker number t)) rest
      (ends_status worker.evaluation (end_of worker) (without_worker number t))
      (ends_cancel worker.evaluation e.job (with_status worker.evaluation (end_of worker) (without_worker number t))))

  -- the namespace is put back, others are blocked, and the next one of the job is ready
  put_well : (u : Tenant) → u.workers ≡ remove t.workers number → Ends worker.evaluation t u → (x : World) → x.tenants ≡ insert less.tenants ns u →
      x.ready ≡ less.ready → x.plans ≡ less.plans → x.pools ≡ less.pools → x.quotas ≡ less.quotas → IsWell w (promote ns e.job x)
  put_well u workers ends x tenants ready plans pools quotas = gone_well w s q ns number t worker is has idle u workers ends (promote ns e.job x)
      (promote_keeps (λ w. w.tenants) (λ w keys. refl) ns e.job x ∙ tenants ∙
      ap (λ m. insert m ns u) (less_keeps (λ w. w.tenants) (λ w keys. refl) ns e.job t w))
      (promote_keeps (λ w. w.plans) (λ w keys. refl) ns e.job x ∙ plans ∙ less_keeps (λ w. w.plans) (λ w keys. refl) ns e.job t w)
      (promote_keeps (λ w. w.pools) (λ w keys. refl) ns e.job x ∙ pools ∙ less_keeps (λ w. w.pools) (λ w keys. refl) ns e.job t w)
      (promote_keeps (λ w. w.quotas) (λ w keys. refl) ns e.job x ∙ quotas ∙ less_keeps (λ w. w.quotas) (λ w keys. refl) ns e.job t w)
      (promote_queued ns e.job x (queued_same (put_tenant ns u less) x tenants ready
      (gone_queued w s q ns number t worker is has idle u workers ends less less_queued (less_keeps (λ w. w.ready) (λ w keys. refl) ns e.job t w))))

  followed_well : (f : Evaluation) (late : Bool) → IsWell w (promote ns e.job (followed ns worker f rest late less))
  followed_well f true = put_well (with_follower worker.evaluation (record f { status = Status.Pending }) rest)
      (follower_workers worker.evaluation (record f { status = Status.Pending }) rest ∙ rest_workers)
      (ends_then worker.evaluation t rest _ rest_ends (ends_follower worker.evaluation (record f { status = Status.Pending }) rest))
      (put_tenant ns (with_follower worker.evaluation (record f { status = Status.Pending }) rest) less) refl refl refl refl refl
  followed_well f false = put_well (with_follower worker.evaluation f rest) (follower_workers worker.evaluation f rest ∙ rest_workers)
      (ends_then worker.evaluation t rest _ rest_ends (ends_follower worker.evaluation f rest))
      (record (put_tenant ns (with_follower worker.evaluation f rest) less) { blocked = less.blocked ++ (ns, rest.evaluation_number + 1) ∷ [] })
      refl refl refl refl refl

  finished_well : (kept : Snapshot) → KeepsStaff w (finished number ns w t worker e kept)
  finished_well kept = leads_if (IsWell w) (needs_follower worker kept)
      (Done (Content.Finished (end_of worker) (Some (t.evaluation_number + 1)))
      (promote ns e.job (followed ns worker (follower_of e worker kept) rest (missed w kept (follower_of e worker kept)) less)))
      (Done (Content.Finished (end_of worker) None) (promote ns e.job (put_tenant ns rest less)))
      (λ _. followed_well (follower_of e worker kept) (missed w kept (follower_of e worker kept)))
      (λ _. put_well rest rest_workers rest_ends (put_tenant ns rest less) refl refl refl refl refl)

pub finish_well : (w : World) (s : IsSound w) (q : IsQueued w) (ns : Name) (number : ℕ) → KeepsStaff w (finish number ns w)
unfolding finish
finish_well w s q ns number = keeping_staff w number ns (finish_for number ns w) (λ t worker e kept is has at k_is.
    leads_if (IsWell w) (may_finish worker kept) (finished number ns w t worker e kept) NotEnabled
    (λ may. finished_well w s q ns number t worker e is has (not_submitted worker.phase worker.tries kept may) kept) (λ _. tt))
