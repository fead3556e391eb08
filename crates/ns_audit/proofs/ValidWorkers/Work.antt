-- A worker takes, looks, submits, and applies its plan: workers stay sound.
use Rattle.std.specs.Prelude.{◌≡◌, ◌≢◌, ℕ, zero, suc, ◌-◌, ◌≤◌, ◌<◌, Bool, true, false, cond, not, T, List, [], ◌∷◌, ◌++◌, Option, Some, None, IsTrue, ◌&&◌}
use Rattle.std.specs.Prelude.{is_some, nat_eq, nat_lt, option_map}
use Rattle.std.proofs.Common.{◌⊎◌, inl, inr, refl, sym, ap, subst, ◌∙◌, arith}
use Rattle.std.proofs.lemmas.Bool.{ltb-true}
use Rattle.std.specs.FinMap.{get, contains_key}
use Rattle.std.specs.Option.{option_map_or, option_and_then}
use Rattle.ns_types.specs.declared.evaluation.Evaluation.{Evaluation}
use Rattle.ns_types.specs.declared.job.Job.{Job}
use Rattle.ns_types.specs.declared.job.JobKind.{JobKind}
use Rattle.ns_types.specs.declared.reply.Content.TheVariants as Content
use Rattle.ns_types.specs.declared.snapshot.QuotaSeen.{QuotaSeen}
use Rattle.ns_types.specs.declared.snapshot.Snapshot.{Snapshot}
use Rattle.ns_types.specs.declared.worker.Phase.{Phase}
use Rattle.ns_types.specs.Working.Worker.{Worker}
use Rattle.ns_types.specs.Working.Commit.{Applied, commit, tries_after, phase_after, applied_worker, applied, apply_for, apply}
use Rattle.ns_types.specs.Settling.Making.{put_tenant}
use Rattle.ns_types.specs.State.Names.{Name, Key, same_key, has_key}
use Rattle.ns_types.specs.Settling.Outcome.{NotEnabled, Done}
use Rattle.ns_types.specs.Placing.Plan.{plan}
use Rattle.ns_types.specs.Working.Queue.{is_served}
use Rattle.ns_types.specs.State.Resources.{limits_in}
use Rattle.ns_types.specs.State.Rows.{World, Tenant, PoolRows, QuotaRows, is_open}
use Rattle.ns_types.specs.Working.Snapshot.{namespaces_naming, quota_seen, pool_for, snapshot_of}
use Rattle.ns_types.specs.State.Sums.{quota_use}
use Rattle.ns_types.specs.Validity.{IsSound, IsSoundTenant, keeps, least_tries, is_fit}
use Rattle.ns_types.specs.Working.Work.{with_worker, without_key, workers_end, is_idle, tries_for, new_worker, taken, dequeue_in, dequeue, may_snap}
use Rattle.ns_types.specs.Working.Work.{with_snapshot, snap_for, snap, is_snapped, may_submit, submitted, submit_for, submit, is_submitted}
use Rattle.ns_types.proofs.Lists.{not_both}
use Rattle.ns_types.proofs.Named.{names, one_name, numbers as numbers_, one_number, same_name_refl, same_number_refl, first_of_both, second_of_both}
use Rattle.ns_types.proofs.Tables.{none_of_any}
use Rattle.ns_types.proofs.Tests.{not_Some, same_Some, is_no}
use Rattle.ns_types.proofs.TableRows.{row_of_insert}
use Rattle.ns_audit.specs.Orderly.{IsReadyIn}
use Rattle.ns_audit.proofs.Steady.Keeping.{at_inserted, elsewhere, has_key_filter}
use Rattle.ns_audit.proofs.Steady.Workers.{at_tenant, in_ready}
use Rattle.ns_types.proofs.Leads.{leads_there, leads_if}
use Rattle.ns_audit.proofs.Alone.Orderly.{orderly}
use Rattle.ns_audit.proofs.ValidAllocations.Countable.{seen_countable}
use Rattle.ns_audit.proofs.ValidAllocations.Seen.{seen_once}
use Rattle.ns_audit.proofs.Carries.{commit_carries}
use Rattle.ns_audit.proofs.ValidWorkers.Admins.{IsWell, KeepsStaff}
use Rattle.ns_audit.proofs.ValidWorkers.Busy.{HasWorker, IsBusyIn, IsQueuedIn, IsQueued, queued_in, worker_of_insert}
use Rattle.ns_audit.proofs.ValidWorkers.Change.{row_apart, IsMine, reworked, was_here, free_here, working_staff, keeping_staff}
use Rattle.ns_audit.proofs.ValidWorkers.Once.{is_once, once_append, once_filter, has_key_last, has_key_other, without_it, without_other}
use Rattle.ns_audit.proofs.ValidWorkers.Quiet.{Grows, Quiet, quiet_carries, quiet_stays, held_at_first, stays_held}
use Rattle.ns_audit.proofs.ValidWorkers.Staff.{IsAbleSnapshot, IsAbleWorker, IsStaffed, Stays, IsHeldAt, IsHeldFrom, sound_staffed, looks_same, staffed_stays}
use Rattle.ns_audit.proofs.ValidWorkers.Staff.{snapshot_still}
use Rattle.std.proofs.Math.Nat.{le_refl}

-- ---- a worker's row becomes another of the same evaluation

-- what the new row owes
record IsAbleNew (b : World) (t : Tenant) (new : Worker) : Type 0 where
  snapshot : (kept : Snapshot) → new.kept ≡ Some kept → IsAbleSnapshot b t new kept
  keeps_one : is_some new.kept ≡ keeps new.phase
  fit : IsTrue (is_fit new.phase new.kept)
  least : least_tries new.phase ≤ new.tries
  most : (e : Evaluation) → get t.evaluations new.evaluation ≡ Some e → new.tries ≤ tries_for e.kind

module _ (w b : World) (s : IsStaffed b) (q : IsQueued b) (h : IsHeldFrom w b) (ns : Name) (number : ℕ) (t : Tenant) (worker new : Worker)
    (is : get b.tenants ns ≡ Some t) (has : get t.workers number ≡ Some worker) (same : worker.evaluation ≡ new.evaluation) (plans : List Key) where
  abbrev tenant_after : Tenant
  tenant_after = with_worker number new t

  abbrev world_after : World
  world_after = record (put_tenant ns tenant_after b) { plans = plans }

  queued_after : IsQueued world_after
  queued_after = record { tenant = λ k y y_is. by k y (row_of_insert names one_name b.tenants ns tenant_after k y y_is); once = q.once }
    where
      busy : (n : ℕ) → IsBusyIn b.ready ns tenant_after.workers n → IsBusyIn b.ready ns t.workers n
      busy n (inl listed) = inl listed
      busy n (inr it) = of_worker (worker_of_insert t.workers number new n it)
        where
          of_worker : (new.evaluation ≡ n) ⊎ HasWorker t.workers n → IsBusyIn b.ready ns t.workers n
          of_worker (inl e) = inr (record { number = number; worker = worker; is_worker = has; same = same ∙ e })
          of_worker (inr old) = inr old

      by : (k : Name) (y : Tenant) → ((k ≡ ns) × (tenant_after ≡ y)) ⊎ (get b.tenants k ≡ Some y) → IsQueuedIn b.ready k y
      by k y (inr at) = q.tenant k y at
      by k y (inl e) = subst (λ y. IsQueuedIn b.ready k y) e.1 (subst (λ k. IsQueuedIn b.ready k tenant_after) (sym e.0)
          (queued_in b.ready b.ready ns t tenant_after (q.tenant ns t is) (q.tenant ns t is).numbered busy (λ n e at. (e, at, refl))))

  able_new : IsAbleNew b t new → has_key plans (ns, worker.evaluation) ≡ is_submitted new.phase → (m : ℕ) → m ≡ number →
      IsAbleWorker world_after ns tenant_after m new
  able_new a mine m m_is = record {
    below = subst (λ m. m < workers_end) (sym m_is) (s.worker ns t number worker is has).below;
    snapshot = λ kept k_is. snapshot_still b world_after t tenant_after new kept (a.snapshot kept k_is) refl (looks_same b world_after refl refl kept);
    keeps_one = a.keeps_one;
    fit = a.fit;
    least = a.least;
    most = a.most;
    plan_listed = ap (λ n. has_key plans (ns, n)) (sym same) ∙ mine;
  }

  held_new : IsHeldAt w ns tenant_after new.evaluation
  held_new = let d = h ns t number worker is has in record {
    tenant = d.tenant;
    is_tenant = d.is_tenant;
    row = d.row;
    was_row = ap (get d.tenant.evaluations) (sym same) ∙ d.was_row;
    is_row = ap (get t.evaluations) (sym same) ∙ d.is_row;
    is_pending = d.is_pending;
  }

  updated : IsAbleNew b t new → has_key plans (ns, worker.evaluation) ≡ is_submitted new.phase
      → ((key : Key) → same_key key (ns, worker.evaluation) ≡ false → has_key plans key ≡ has_key b.plans key) → is_once same_key plans ≡ true →
      IsWell w world_after
  updated a mine others once = reworked w b world_after ns number worker.evaluation t tenant_after s h (record {
    is_tenant = is;
    put = refl;
    pools = refl;
    quotas = refl;
    was = was_here b s ns number t worker is has;
    free = free_here b s ns number t worker is has;
    on = λ m v at differs. elsewhere t.workers number m new v differs at;
    back = λ m v at. back m v (row_apart numbers_ one_number t.workers number new m v at);
    rows = λ m v at differs. refl;
    other_plans = others;
    plans_once = once;
    planned = λ listed. record {
      tenant = tenant_after;
      number = number;
      worker = new;
      is_tenant = at_inserted names b.tenants ns tenant_after (same_name_refl ns);
      is_worker = at_inserted numbers_ t.workers number new (same_number_refl number);
      same = sym same;
    };
  }) queued_after
    where
      back : (m : ℕ) (v : Worker) → ((m ≡ number) × (new ≡ v)) ⊎ ((get t.workers m ≡ Some v) × (m ≢ number)) →
          IsMine w world_after ns number worker.evaluation tenant_after m v ⊎ ((get t.workers m ≡ Some v) × (m ≢ number))
      back m v (inr other) = inr other
      back m v (inl e) = inl (subst (λ v. IsMine w world_after ns number worker.evaluation tenant_after m v) e.1
          (record { its_number = e.0; its_evaluation = sym same; able = able_new a mine m e.0; held = held_new }))

-- ---- tests of phases and tries

nonzero : (n : ℕ) → not (nat_eq n 0) ≡ true → 1 ≤ n
nonzero zero e = absurd (subst T (sym e) tt)
nonzero (suc n) e = omega arith

snap_least : (p : Phase) (n : ℕ) → may_snap n p ≡ true → least_tries p ≤ n → 1 ≤ n
snap_least Phase.Took n e le = le
snap_least Phase.Snapped n e le = le
snap_least Phase.Submitted n e le = le
snap_least Phase.Applied n e le = le
snap_least Phase.Dropped n e le = nonzero n e

snap_not_submitted : (p : Phase) (n : ℕ) → may_snap n p ≡ true → is_submitted p ≡ false
snap_not_submitted Phase.Took n e = refl
snap_not_submitted Phase.Snapped n e = refl
snap_not_submitted Phase.Submitted n e = absurd (subst T (sym e) tt)
snap_not_submitted Phase.Applied n e = refl
snap_not_submitted Phase.Dropped n e = refl

snapped_least : (p : Phase) (n : ℕ) → is_snapped p ≡ true → least_tries p ≤ n → 1 ≤ n
snapped_least Phase.Took n e le = le
snapped_least Phase.Snapped n e le = le
snapped_least Phase.Submitted n e le = le
snapped_least Phase.Applied n e le = le
snapped_least Phase.Dropped n e le = absurd (subst T (sym e) tt)

snapped_not_submitted : (p : Phase) → is_snapped p ≡ true → is_submitted p ≡ false
snapped_not_submitted Phase.Took e = refl
snapped_not_submitted Phase.Snapped e = refl
snapped_not_submitted Phase.Submitted e = absurd (subst T (sym e) tt)
snapped_not_submitted Phase.Applied e = refl
snapped_not_submitted Phase.Dropped e = refl

submitted_least : (p : Phase) (n : ℕ) → is_submitted p ≡ true → least_tries p ≤ n → 1 ≤ n
submitted_least Phase.Took n e le = le
submitted_least Phase.Snapped n e le = le
submitted_least Phase.Submitted n e le = le
submitted_least Phase.Applied n e le = le
submitted_least Phase.Dropped n e le = absurd (subst T (sym e) tt)

some_tries : (kind : JobKind) → 1 ≤ tries_for kind
some_tries JobKind.Service = omega arith
some_tries JobKind.Batch = omega arith

-- ---- Dequeue

module _ (w : World) (s : IsSound w) (q : IsQueued w) (ns : Name) (number n : ℕ) (t : Tenant) (e : Evaluation) (is : get w.tenants ns ≡ Some t)
    (at : get t.evaluations n ≡ Some e)
    (few : nat_lt number workers_end ≡ true) (idle : is_idle w number ≡ true) (listed : has_key w.ready (ns, n) ≡ true) where
  abbrev tenant_taken : Tenant
  tenant_taken = with_worker number (new_worker n e) t

  abbrev world_taken : World
  world_taken = taken number (ns, n) w t e

  ready : IsReadyIn t n
  ready = at_tenant w IsReadyIn ns n t is ((orderly w s).ready ns n listed)

  nobody : (k : Name) (u : Tenant) (v : Worker) → get w.tenants k ≡ Some u → get u.workers number ≡ Some v → ⊥
  nobody k u v k_is v_has = not_both (ap is_some v_has)
      (none_of_any one_name (λ _ (t : Tenant). contains_key t.workers number) w.tenants k u (is_no _ idle) k_is)

  unplanned : (b : Bool) → has_key w.plans (ns, n) ≡ b → b ≡ false
  unplanned true has =
      let p = s.planned (ns, n) has in
      absurd (ready.free p.number p.worker (ap (λ (t : Tenant). get t.workers p.number) (same_Some _ _ (sym is ∙ p.is_tenant)) ∙ p.is_worker) p.same)
  unplanned false _ = refl

  no_plan : has_key w.plans (ns, n) ≡ false
  no_plan = unplanned (has_key w.plans (ns, n)) refl

  able_taken : (m : ℕ) → m ≡ number → IsAbleWorker world_taken ns tenant_taken m (new_worker n e)
  able_taken m m_is = record {
    below = subst (λ m. m < workers_end) (sym m_is) (ltb-true number workers_end few);
    snapshot = λ kept k_is. absurd (not_Some _ k_is);
    keeps_one = refl;
    fit = refl;
    least = some_tries e.kind;
    most = λ d d_at. subst (λ (d : Evaluation). tries_for e.kind ≤ tries_for d.kind) (same_Some _ _ (sym at ∙ d_at)) (le_refl (tries_for e.kind));
    plan_listed = no_plan;
  }

  queued_taken : IsQueued world_taken
  queued_taken = record {
    tenant = λ k u k_is. by k u (row_of_insert names one_name w.tenants ns tenant_taken k u k_is);
    once = once_filter same_key (λ other. not (same_key (ns, n) other)) w.ready q.once;
  }
    where
      less : (k : Name) (m : ℕ) → has_key (without_key (ns, n) w.ready) (k, m) ≡ true → has_key w.ready (k, m) ≡ true
      less k m has = (has_key_filter (λ other. not (same_key (ns, n) other)) w.ready (k, m) has).0

      busy : (m : ℕ) → IsBusyIn (without_key (ns, n) w.ready) ns tenant_taken.workers m → IsBusyIn w.ready ns t.workers m
      busy m (inl has) = inl (less ns m has)
      busy m (inr it) = of_worker (worker_of_insert t.workers number (new_worker n e) m it)
        where
          of_worker : (n ≡ m) ⊎ HasWorker t.workers m → IsBusyIn w.ready ns t.workers m
          of_worker (inl same) = inl (ap (λ m. has_key w.ready (ns, m)) (sym same) ∙ listed)
          of_worker (inr old) = inr old

      other : (k : Name) (u : Tenant) (m : ℕ) → IsBusyIn (without_key (ns, n) w.ready) k u.workers m → IsBusyIn w.ready k u.workers m
      other k u m (inl has) = inl (less k m has)
      other k u m (inr it) = inr it

      by : (k : Name) (u : Tenant) → ((k ≡ ns) × (tenant_taken ≡ u)) ⊎ (get w.tenants k ≡ Some u) → IsQueuedIn (without_key (ns, n) w.ready) k u
      by k u (inr k_is) = queued_in w.ready (without_key (ns, n) w.ready) k u u (q.tenant k u k_is) (q.tenant k u k_is).numbered (other k u)
          (λ m d d_at. (d, d_at, refl))
      by k u (inl same) = subst (λ u. IsQueuedIn (without_key (ns, n) w.ready) k u) same.1
          (subst (λ k. IsQueuedIn (without_key (ns, n) w.ready) k tenant_taken) (sym same.0)
          (queued_in w.ready (without_key (ns, n) w.ready) ns t tenant_taken (q.tenant ns t is) (q.tenant ns t is).numbered busy (λ m d d_at. (d, d_at, refl))))

  taken_well : IsWell w world_taken
  taken_well = reworked w w world_taken ns number n t tenant_taken (sound_staffed w s) (held_at_first w (orderly w s)) (record {
    is_tenant = is;
    put = refl;
    pools = refl;
    quotas = refl;
    was = λ k u v k_is v_has. absurd (nobody k u v k_is v_has);
    free = λ m v v_at differs. ready.free m v v_at;
    on = λ m v v_at differs. elsewhere t.workers number m (new_worker n e) v differs v_at;
    back = λ m v v_at. back m v (row_apart numbers_ one_number t.workers number (new_worker n e) m v v_at);
    rows = λ m v v_at differs. refl;
    other_plans = λ key differs. refl;
    plans_once = (sound_staffed w s).plans_once;
    planned = λ has. absurd (not_both has no_plan);
  }) queued_taken
    where
      back : (m : ℕ) (v : Worker) → ((m ≡ number) × (new_worker n e ≡ v)) ⊎ ((get t.workers m ≡ Some v) × (m ≢ number)) →
          IsMine w world_taken ns number n tenant_taken m v ⊎ ((get t.workers m ≡ Some v) × (m ≢ number))
      back m v (inr other) = inr other
      back m v (inl same) = inl (subst (λ v. IsMine w world_taken ns number n tenant_taken m v) same.1 (record {
        its_number = same.0;
        its_evaluation = refl;
        able = able_taken m same.0;
        held = record {
          tenant = t;
          is_tenant = is;
          row = ready.pending.row;
          was_row = ready.pending.is_row;
          is_row = ready.pending.is_row;
          is_pending =
              ready.pending.is_pending;
        };
      }))

module _ (w : World) (s : IsSound w) (q : IsQueued w) (ns : Name) (number : ℕ) where
  pub dequeue_well : (n : ℕ) → KeepsStaff w (dequeue number (ns, n) w)
  unfolding dequeue
  dequeue_well n = leads_if (IsWell w) (nat_lt number workers_end && is_idle w number && is_served w w.ready (ns, n))
      (option_map_or (dequeue_in number (ns, n) w) (get w.tenants ns) NotEnabled) NotEnabled (λ h.
      let both = first_of_both (nat_lt number workers_end && is_idle w number) _ h in
      leads_there (IsWell w) (get w.tenants ns) (dequeue_in number (ns, n) w) (λ t is. leads_there (IsWell w) (get t.evaluations n) _ (λ e row.
      taken_well w s q ns number n t e is row (first_of_both (nat_lt number workers_end) _ both) (second_of_both (nat_lt number workers_end) _ both)
      (in_ready w (ns, n) (second_of_both (nat_lt number workers_end && is_idle w number) _ h))))) (λ _. tt)

-- ---- Snap

module _ (w : World) (s : IsSound w) (ns : Name) (number : ℕ) (t : Tenant) (worker : Worker) (e : Evaluation) (is : get w.tenants ns ≡ Some t)
    (has : get t.workers number ≡ Some worker) (at : get t.evaluations worker.evaluation ≡ Some e) where
  abbrev its : IsSoundTenant w ns t
  its = s.tenant ns t is

  abbrev seen : Snapshot
  seen = snapshot_of w ns t worker.evaluation e

  -- the evaluation is open
  opened : is_open e.status ≡ true
  opened = let p = ((orderly w s).tenant ns t is).held number worker has in ap (λ (e : Evaluation). is_open e.status) (same_Some _ _ (sym at ∙ p.is_row)) ∙
      ap is_open p.is_pending

  exists : contains_key w.pools seen.pool ≡ true
  exists = by (get t.jobs e.job) refl
    where
      by : (j : Option Job) → get t.jobs e.job ≡ j → contains_key w.pools (pool_for e j) ≡ true
      by None _ = ((its.evaluation worker.evaluation e at).allowed opened).exists
      by (Some j) found = (its.job e.job j found).allowed.exists

  seen_by : (p : PoolRows) → get w.pools seen.pool ≡ Some p → seen.release ≤ p.release
  seen_by p is = subst (λ o. option_map_or (λ (p : PoolRows). p.release) o 0 ≤ p.release) (sym is) (le_refl p.release)

  quota_seen_by : (o : Option Name) (q : QuotaSeen) (rows : QuotaRows) → option_and_then (quota_seen w) o ≡ Some q → get w.quotas q.name ≡ Some rows →
      q.release ≤ rows.release
  quota_seen_by None q rows named is = absurd (not_Some _ named)
  quota_seen_by (Some name) q rows named is = here (get w.quotas name) refl named
    where
      here : (o : Option QuotaRows) → get w.quotas name ≡ o →
          option_map (λ q. record {
            name = name;
            limits = limits_in q.quota.limits;
            used = quota_use w name;
            release = q.release;
            namespaces =
                namespaces_naming w name;
          }) o ≡ Some q → q.release ≤ rows.release
      here None _ named = absurd (not_Some _ named)
      here (Some r) r_is named =
          let same = same_Some _ _ named in
          let one = same_Some _ _ (sym r_is ∙ ap (λ (q : QuotaSeen). get w.quotas q.name) same ∙ is) in
          subst (λ (q : QuotaSeen). q.release ≤ rows.release) same (subst (λ (rows : QuotaRows). r.release ≤ rows.release) one (le_refl r.release))

  able_seen : (kept : Snapshot) → Some seen ≡ Some kept → IsAbleSnapshot w t (with_snapshot seen worker) kept
  able_seen kept k_is = subst (λ (kept : Snapshot). IsAbleSnapshot w t (with_snapshot seen worker) kept) (same_Some _ _ k_is) (record {
    number = refl;
    row = at;
    exists = exists;
    job_good = λ j found. (its.job e.job j found).good;
    nodes_once = seen_once w seen.pool;
    countable = seen_countable w s ns t worker.evaluation e is;
    seen = seen_by;
    quota_seen = λ q rows named is. quota_seen_by t.namespace.quota q rows named is;
  })

module _ (w : World) (s : IsSound w) where
  -- the snapshot that a worker has
  able_kept : (ns : Name) (number : ℕ) (t : Tenant) (worker new : Worker) → get w.tenants ns ≡ Some t → get t.workers number ≡ Some worker →
      worker.evaluation ≡ new.evaluation → worker.kept ≡ new.kept → (kept : Snapshot) → new.kept ≡ Some kept → IsAbleSnapshot w t new kept
  able_kept ns number t worker new is has same keeps kept k_is = let y = ((sound_staffed w s).worker ns t number worker is has).snapshot kept (keeps ∙ k_is) in
      record {
        number = y.number ∙ same;
        row = ap (get t.evaluations) (sym same) ∙ y.row;
        exists = y.exists;
        job_good = y.job_good;
        nodes_once = y.nodes_once;
        countable = y.countable;
        seen = y.seen;
        quota_seen = y.quota_seen;
      }

module _ (w : World) (s : IsSound w) (q : IsQueued w) (ns : Name) (number : ℕ) where
  pub snap_well : KeepsStaff w (snap number ns w)
  unfolding snap
  snap_well = working_staff w number ns (snap_for number ns w) (λ t worker e is has at.
      let kept = snapshot_of w ns t worker.evaluation e in
      let old = (sound_staffed w s).worker ns t number worker is has in
      leads_if (IsWell w) (may_snap worker.tries worker.phase)
      (Done (Content.Snapped worker.evaluation) (put_tenant ns (with_worker number (with_snapshot kept worker) t) w)) NotEnabled
      (λ may. updated w w (sound_staffed w s) q (held_at_first w (orderly w s)) ns number t worker (with_snapshot kept worker) is has refl w.plans (record {
        snapshot = able_seen w s ns number t worker e is has at;
        keeps_one = refl;
        fit = refl;
        least = snap_least worker.phase worker.tries may old.least;
        most = old.most;
      }) (old.plan_listed ∙ snap_not_submitted worker.phase worker.tries may) (λ key differs. refl) (sound_staffed w s).plans_once) (λ _. tt))

  -- ---- Submit

  pub submit_well : KeepsStaff w (submit number ns w)
  unfolding submit
  submit_well = keeping_staff w number ns (λ t worker e. submit_for number ns w t worker) (λ t worker e kept is has at k_is.
      let old = (sound_staffed w s).worker ns t number worker is has in
      leads_if (IsWell w) (may_submit worker kept) (Done (Content.Queued worker.evaluation) (submitted number ns w t worker)) NotEnabled
      (λ may.
      let snapped = first_of_both (is_snapped worker.phase) _ may in
      updated w w (sound_staffed w s) q (held_at_first w (orderly w s)) ns number t worker (record worker { phase = Phase.Submitted }) is has refl
      (w.plans ++ (ns, worker.evaluation) ∷ []) (record {
        snapshot = able_kept w s ns number t worker (record worker { phase = Phase.Submitted }) is has refl refl;
        keeps_one = ap is_some k_is;
        fit = ap (is_fit Phase.Submitted) k_is ∙ second_of_both (is_snapped worker.phase) _ may;
        least = snapped_least worker.phase worker.tries snapped old.least;
        most = old.most;
      }) (has_key_last w.plans (ns, worker.evaluation)) (λ key differs. has_key_other w.plans (ns, worker.evaluation) key differs)
      (once_append w.plans (ns, worker.evaluation) (sound_staffed w s).plans_once (old.plan_listed ∙ snapped_not_submitted worker.phase snapped))) (λ _. tt))

-- ---- Apply

applied_fit : (a : Applied) (kept : Option Snapshot) → is_fit (phase_after a) kept ≡ true
applied_fit a kept = elim a.has_dropped as (λ b. is_fit (cond b Phase.Dropped Phase.Applied) kept ≡ true) [ true ↦ refl | false ↦ refl ]

applied_keeps : (a : Applied) → keeps (phase_after a) ≡ true
applied_keeps a = elim a.has_dropped as (λ b. keeps (cond b Phase.Dropped Phase.Applied) ≡ true) [ true ↦ refl | false ↦ refl ]

applied_not_submitted : (a : Applied) → is_submitted (phase_after a) ≡ false
applied_not_submitted a = elim a.has_dropped as (λ b. is_submitted (cond b Phase.Dropped Phase.Applied) ≡ false) [ true ↦ refl | false ↦ refl ]

applied_least : (a : Applied) (worker : Worker) (e : Evaluation) → 1 ≤ worker.tries → least_tries (phase_after a) ≤ tries_after a worker e
applied_least a worker e some = by a.has_dropped a.has_committed
  where
    by : (d c : Bool) → least_tries (cond d Phase.Dropped Phase.Applied) ≤ cond c (tries_for e.kind) (cond d (worker.tries - 1) worker.tries)
    by true c = omega arith
    by false true = some_tries e.kind
    by false false = some

applied_most : (a : Applied) (worker : Worker) (e : Evaluation) → worker.tries ≤ tries_for e.kind → tries_after a worker e ≤ tries_for e.kind
applied_most a worker e few = by a.has_dropped a.has_committed
  where
    by : (d c : Bool) → cond c (tries_for e.kind) (cond d (worker.tries - 1) worker.tries) ≤ tries_for e.kind
    by d true = le_refl (tries_for e.kind)
    by true false = omega arith
    by false false = few

module _ (w : World) (s : IsSound w) (q : IsQueued w) (ns : Name) (number : ℕ) (t : Tenant) (worker : Worker) (e : Evaluation) (kept : Snapshot)
    (is : get w.tenants ns ≡ Some t) (has : get t.workers number ≡ Some worker) (at : get t.evaluations worker.evaluation ≡ Some e)
    (k_is : worker.kept ≡ Some kept) (submitted : is_submitted worker.phase ≡ true) where
  applied_well : (a : Applied) → Quiet w a.world → KeepsStaff w (applied number ns worker e a)
  applied_well a quiet = subst (λ o. IsWell w (record (option_map_or (λ x. put_tenant ns (with_worker number new x) a.world) o a.world)
      { plans = without_key (ns, worker.evaluation) a.world.plans })) (sym there.1)
      (updated w a.world staffed (quiet.queued q) (stays_held w a.world stays (orderly w s)) ns number there.0 worker new there.1 its_row refl
      (without_key (ns, worker.evaluation) a.world.plans) (record {
        snapshot = λ k has_k. let y = able.snapshot k has_k in record {
          number = y.number;
          row = y.row;
          exists = y.exists;
          job_good = y.job_good;
          nodes_once = y.nodes_once;
          countable = y.countable;
          seen = y.seen;
          quota_seen = y.quota_seen;
        };
        keeps_one = ap is_some k_is ∙ sym (applied_keeps a);
        fit = applied_fit a worker.kept;
        least = applied_least a worker e (submitted_least worker.phase worker.tries submitted able.least);
        most = λ d d_at. subst (λ (d : Evaluation). tries_after a worker e ≤ tries_for d.kind) (same_Some _ _ (sym row ∙ d_at))
            (applied_most a worker e (able.most e row));
      }) (without_it a.world.plans (ns, worker.evaluation) ∙ sym (applied_not_submitted a))
      (λ key differs. without_other a.world.plans (ns, worker.evaluation) key differs)
      (once_filter same_key (λ other. not (same_key (ns, worker.evaluation) other)) a.world.plans staffed.plans_once))
    where
      new : Worker
      new = applied_worker a worker e

      stays : Stays w a.world
      stays = quiet_stays w a.world quiet q (orderly w s)

      staffed : IsStaffed a.world
      staffed = staffed_stays w a.world stays (sound_staffed w s)

      there : (u : Tenant) × (get a.world.tenants ns ≡ Some u) × Grows t u
      there = quiet.goes ns t is

      its_row : get there.0.workers number ≡ Some worker
      its_row = ap (λ m. get m number) there.2.workers ∙ has

      row : get there.0.evaluations worker.evaluation ≡ Some e
      row = there.2.rows (q.tenant ns t is).numbered worker.evaluation e at

      able : IsAbleWorker a.world ns there.0 number worker
      able = staffed.worker ns there.0 number worker there.1 its_row

pub apply_well : (w : World) (s : IsSound w) (q : IsQueued w) (ns : Name) (number : ℕ) → KeepsStaff w (apply number ns w)
unfolding apply
apply_well w s q ns number = keeping_staff w number ns (apply_for number ns w) (λ t worker e kept is has at k_is.
    leads_if (IsWell w) (is_submitted worker.phase && is_served w w.plans (ns, worker.evaluation)) (applied number ns worker e (commit kept (plan kept) w t))
    NotEnabled
    (λ may. applied_well w s q ns number t worker e kept is has at k_is (first_of_both (is_submitted worker.phase) _ may) (commit kept (plan kept) w t)
    (commit_carries quiet_carries kept (plan kept) w t)) (λ _. tt))
