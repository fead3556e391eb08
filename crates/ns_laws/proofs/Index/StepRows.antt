-- What a step's own change leaves of a namespace's rows: the snapshots that its workers keep, and the indexes of its evaluations.
use Rattle.std.specs.Prelude.{◌≡◌, ◌⊎◌, ℕ, ◌+◌, ◌≤◌, Bool, true, false, cond, ◌&&◌, [], ◌∷◌, ◌++◌, Option, Some, None, Ok, Err, nat_le, nat_lt, option_map}
use Rattle.std.proofs.Common.{inl, inr, refl, sym, ap, subst, ◌∙◌, arith}
use Rattle.std.specs.FinMap.{get, insert, remove, get-remove, get-empty}
use Rattle.std.specs.Option.{option_map_or}
use Rattle.std.specs.Ordering.{nat_cmp}
use Rattle.ns_types.specs.declared.evaluation.Evaluation.{Evaluation}
use Rattle.ns_types.specs.declared.evaluation.Status.{Status}
use Rattle.ns_types.specs.declared.evaluation.Status.TheVariants as Statuses
use Rattle.ns_types.specs.declared.records.Namespace.{Namespace}
use Rattle.ns_types.specs.declared.reply.Content.TheVariants as Content
use Rattle.ns_types.specs.declared.snapshot.Snapshot.{Snapshot}
use Rattle.ns_types.specs.declared.step.AdminCommand.{AdminCommand}
use Rattle.ns_types.specs.declared.step.Step.{Step}
use Rattle.ns_types.specs.declared.worker.Phase.TheVariants as Phase
use Rattle.ns_types.specs.Asking.Admins.{new_tenant, with_namespace}
use Rattle.ns_types.specs.Asking.Policies.{administer, with_world}
use Rattle.ns_types.specs.Placing.Plan.{plan}
use Rattle.ns_types.specs.Settling.Making.{put_tenant, with_status, with_evaluation}
use Rattle.ns_types.specs.Settling.Outcome.{Outcome, NotEnabled, Done, lift}
use Rattle.ns_types.specs.Settling.Releases.{missed}
use Rattle.ns_types.specs.State.Names.{ByNumber, Key, Name, same_number}
use Rattle.ns_types.specs.State.Rows.{State, World, Tenant}
use Rattle.ns_types.specs.Steps.{Answer, act, after, said}
use Rattle.ns_types.specs.Validity.{IsSound}
use Rattle.ns_types.specs.Working.Commit.{Applied, applied, applied_worker, apply, apply_for, commit}
use Rattle.ns_types.specs.Working.Queue.{is_served, promote}
use Rattle.ns_types.specs.Working.Snapshot.{snapshot_of}
use Rattle.ns_types.specs.Working.Work.{with_worker, without_worker, without_key, workers_end, is_idle, new_worker, taken, dequeue_in, dequeue, may_snap}
use Rattle.ns_types.specs.Working.Work.{with_snapshot, snap_for, snap, may_submit, submitted, submit_for, submit, is_submitted, most_nacks, with_nack}
use Rattle.ns_types.specs.Working.Work.{given_up, given_back, nack_for, nack, end_of, may_finish, needs_follower, follower_of, blocked_of, cancel_blocked}
use Rattle.ns_types.specs.Working.Work.{without_blocked, ended, with_follower, followed, finished, finish_for, finish}
use Rattle.ns_types.specs.Working.Worker.{Worker}
use Rattle.ns_types.proofs.Leads.{Leads, leads_of, leads_there, leads_if, leads_lift, leads_at_work, leads_keeping}
use Rattle.ns_types.proofs.Named.{names, one_name, numbers, one_number}
use Rattle.ns_types.proofs.TableRows.{get_put, get_other, row_of_insert, row_of_remove}
use Rattle.ns_types.proofs.Tables.{tied}
use Rattle.ns_types.proofs.Tests.{not_Some, same_Some}
use Rattle.ns_audit.proofs.Carries.{ask_carries, ask_pool_carries, commit_carries}
use Rattle.ns_audit.proofs.StepLemmas.{made, refusal_leaves_all}
use Rattle.ns_audit.proofs.ValidAllocations.Work.{unlisted_tenants}
use Rattle.ns_audit.proofs.ValidWorkers.Busy.{IsNumbered}
use Rattle.ns_audit.proofs.ValidWorkers.Quiet.{Quiet, quiet_carries}
use Rattle.ns_laws.proofs.CommandLemmas.{leads_administered}
use Rattle.ns_laws.proofs.Effect.Rows.{settled_rows, settled_tenant}
use Rattle.ns_laws.proofs.QueueLemmas.{promote_tenants}
use Rattle.ns_laws.proofs.Service.Lists.{queued_of}

-- ---- the indexes of evaluations

pub record SameDates (a b : Evaluation) : Type 0 where
  pub created : b.create_index ≡ a.create_index
  pub modified : b.modify_index ≡ a.modify_index

-- each evaluation is there still, with the same indexes
abbrev pub Dated : ByNumber Evaluation → ByNumber Evaluation → Type 0
Dated m m' = (n : ℕ) (a : Evaluation) → get m n ≡ Some a → (b : Evaluation) × (get m' n ≡ Some b) × SameDates a b

dated_still : (m : ByNumber Evaluation) → Dated m m
dated_still m n a at = (a, at, record { created = refl; modified = refl })

dated_row : (m : ByNumber Evaluation) (k : ℕ) (old new : Evaluation) → get m k ≡ Some old → SameDates old new → Dated m (insert m k new)
dated_row m k old new k_at dates n a at = by (same_number n k) refl
  where
    by : (b : Bool) → same_number n k ≡ b → (b : Evaluation) × (get (insert m k new) n ≡ Some b) × SameDates a b
    by true e =
        let same = tied one_number n k e in (
          new,
          ap (get (insert m k new)) same ∙ get_put numbers one_number m k new,
          subst (λ a. SameDates a new) (same_Some old a (sym k_at ∙ ap (get m) (sym same) ∙ at)) dates,
        )
    by false e = (a, get_other numbers one_number m k new n e ∙ at, record { created = refl; modified = refl })

-- what a worker that finishes or gives back makes of a namespace
record Rows (t u : Tenant) : Type 0 where
  workers : (m : ℕ) (v : Worker) → get u.workers m ≡ Some v → get t.workers m ≡ Some v
  numbered : IsNumbered t → IsNumbered u
  dated : IsNumbered t → Dated t.evaluations u.evaluations

rows_still : (t : Tenant) → Rows t t
rows_still t = record { workers = λ m v has. has; numbered = λ n. n; dated = λ _. dated_still t.evaluations }

rows_then : (t u v : Tenant) → Rows t u → Rows u v → Rows t v
rows_then t u v f g = record {
  workers = λ m x has. f.workers m x (g.workers m x has);
  numbered = λ n. g.numbered (f.numbered n);
  dated = λ numbered n a at.
      let b = f.dated numbered n a at in
      let c = g.dated (f.numbered numbered) n b.0 b.1 in
      (c.0, c.1, record { created = c.2.created ∙ b.2.created; modified = c.2.modified ∙ b.2.modified });
}

rows_row : (t : Tenant) (k : ℕ) (old new : Evaluation) → get t.evaluations k ≡ Some old → SameDates old new →
    Rows t (record t { evaluations = insert t.evaluations k new })
rows_row t k old new k_at dates = record {
  workers = λ m v has. has;
  numbered = λ numbered m e at. by numbered m e (row_of_insert numbers one_number t.evaluations k new m e at);
  dated = λ _. dated_row t.evaluations k old new k_at dates;
}
  where
    by : IsNumbered t → (m : ℕ) (e : Evaluation) → ((m ≡ k) × (new ≡ e)) ⊎ (get t.evaluations m ≡ Some e) → m ≤ t.evaluation_number
    by numbered m e (inl is) = subst (λ j. j ≤ t.evaluation_number) (sym is.0) (numbered k old k_at)
    by numbered m e (inr at) = numbered m e at

rows_new : (f : Evaluation) (t : Tenant) → Rows t (with_evaluation f t)
rows_new f t = record {
  workers = λ m v has. has;
  numbered = λ numbered m e at. by numbered m e (row_of_insert numbers one_number t.evaluations (t.evaluation_number + 1) f m e at);
  dated = λ numbered n a at. (a, other numbered n a at (same_number n (t.evaluation_number + 1)) refl, record { created = refl; modified = refl });
}
  where
    by : IsNumbered t → (m : ℕ) (e : Evaluation) → ((m ≡ t.evaluation_number + 1) × (f ≡ e)) ⊎ (get t.evaluations m ≡ Some e) → m ≤ t.evaluation_number + 1
    by numbered m e (inl is) = let h = is.0 in omega (arith, h)
    by numbered m e (inr at) = let h = numbered m e at in omega (arith, h)

    other : IsNumbered t → (n : ℕ) (a : Evaluation) → get t.evaluations n ≡ Some a → (b : Bool) → same_number n (t.evaluation_number + 1) ≡ b →
        get (insert t.evaluations (t.evaluation_number + 1) f) n ≡ Some a
    other numbered n a at true e =
        let same = tied one_number n (t.evaluation_number + 1) e in
        let h = numbered n a at in
        let never : ⊥ = omega (arith, h, same) in absurd never
    other numbered n a at false e = get_other numbers one_number t.evaluations (t.evaluation_number + 1) f n e ∙ at

rows_without : (number : ℕ) (t : Tenant) → Rows t (without_worker number t)
rows_without number t = record {
  workers = λ m v has. by m v (same_number m number) (sym (get-remove numbers t.workers number m) ∙ has);
  numbered = λ n. n;
  dated = λ _. dated_still t.evaluations;
}
  where
    by : (m : ℕ) (v : Worker) (b : Bool) → cond b None (get t.workers m) ≡ Some v → get t.workers m ≡ Some v
    by m v true e = absurd (not_Some v e)
    by m v false e = e

rows_status : (n : ℕ) (status : Status) (t : Tenant) → Rows t (with_status n status t)
rows_status n status t = by (get t.evaluations n) refl
  where
    by : (o : Option Evaluation) → get t.evaluations n ≡ o →
        Rows t (option_map_or (λ e. record t { evaluations = insert t.evaluations n (record e { status = status }) }) o t)
    by None is = rows_still t
    by (Some e) is = rows_row t n e (record e { status = status }) is (record { created = refl; modified = refl })

rows_cancel : (job : Name) (t : Tenant) → Rows t (cancel_blocked job t)
rows_cancel job t = by (blocked_of t job)
  where
    by : (o : Option ℕ) → Rows t (option_map_or (λ n. with_status n Statuses.Canceled t) o t)
    by None = rows_still t
    by (Some n) = rows_status n Statuses.Canceled t

rows_follower : (n : ℕ) (f : Evaluation) (t : Tenant) → Rows t (with_follower n f t)
rows_follower n f t = by (get t.evaluations n) refl
  where
    tied_row : Option Evaluation → Tenant
    tied_row o = option_map_or (λ e. record t { evaluations = insert t.evaluations n (record e { follower = Some (t.evaluation_number + 1) }) }) o t

    by : (o : Option Evaluation) → get t.evaluations n ≡ o →
        Rows t (record (tied_row o) {
          evaluation_number = t.evaluation_number + 1;
          evaluations = insert (tied_row o).evaluations (t.evaluation_number + 1) f;
        })
    by None at = rows_new f t
    by (Some e) at =
        let row : Evaluation = record e { follower = Some (t.evaluation_number + 1) } in
        rows_then t (record t { evaluations = insert t.evaluations n row }) _
        (rows_row t n e row at (record { created = refl; modified = refl })) (rows_new f (record t { evaluations = insert t.evaluations n row }))

rows_ended : (number : ℕ) (worker : Worker) (e : Evaluation) (status : Status) (t : Tenant) → Rows t (ended number worker e status t)
rows_ended number worker e status t =
    let u : Tenant = without_worker number t in
    let v : Tenant = with_status worker.evaluation status (without_worker number t) in
    rows_then t v (cancel_blocked e.job v) (rows_then t u v (rows_without number t) (rows_status worker.evaluation status u)) (rows_cancel e.job v)

-- ---- a namespace

-- the snapshot is one of the namespace as it is
pub record IsSnapOf (w : World) (ns : Name) (t : Tenant) (kept : Snapshot) : Type 0 where
  pub number : ℕ
  pub row : Evaluation
  pub is_snap : snapshot_of w ns t number row ≡ kept

-- a worker of the namespace keeps the snapshot
pub record IsKept (t : Tenant) (kept : Snapshot) : Type 0 where
  pub number : ℕ
  pub worker : Worker
  pub is_worker : get t.workers number ≡ Some worker
  pub keeps : worker.kept ≡ Some kept

module _ (w : World) (ns : Name) (t : Tenant) where
  pub record Goes (u : Tenant) : Type 0 where
    pub snapshots : (kept : Snapshot) → IsKept u kept → IsKept t kept ⊎ IsSnapOf w ns t kept
    pub rows : Dated t.evaluations u.evaluations

  goes_same : (u : Tenant) → u.workers ≡ t.workers → u.evaluations ≡ t.evaluations → Goes u
  goes_same u workers evaluations = record {
    snapshots = λ kept k. inl (record {
      number = k.number;
      worker = k.worker;
      is_worker = ap (λ m. get m k.number) (sym workers) ∙ k.is_worker;
      keeps = k.keeps;
    });
    rows = λ n a at. (a, ap (λ m. get m n) evaluations ∙ at, record { created = refl; modified = refl });
  }

  goes_rows : (u : Tenant) → IsNumbered t → Rows t u → Goes u
  goes_rows u numbered r = record {
    snapshots = λ kept k. inl (record { number = k.number; worker = k.worker; is_worker = r.workers k.number k.worker k.is_worker; keeps = k.keeps });
    rows = r.dated numbered;
  }

  -- a worker has another row
  goes_worker : (u : Tenant) → Goes u → (number : ℕ) (new : Worker) → ((kept : Snapshot) → new.kept ≡ Some kept → IsKept t kept ⊎ IsSnapOf w ns t kept) →
      Goes (with_worker number new u)
  goes_worker u g number new h = record {
    snapshots = λ kept k. by kept k (row_of_insert numbers one_number u.workers number new k.number k.worker k.is_worker);
    rows = g.rows;
  }
    where
      by : (kept : Snapshot) (k : IsKept (with_worker number new u) kept) →
          ((k.number ≡ number) × (new ≡ k.worker)) ⊎ (get u.workers k.number ≡ Some k.worker) →
          IsKept t kept ⊎ IsSnapOf w ns t kept
      by kept k (inl e) = h kept (ap (λ (v : Worker). v.kept) e.1 ∙ k.keeps)
      by kept k (inr old) = g.snapshots kept (record { number = k.number; worker = k.worker; is_worker = old; keeps = k.keeps })

-- ---- all namespaces

-- a namespace that is there was there before, or it is new and has no workers
pub data Comes (w : World) (ns : Name) (u : Tenant) : Type 0 where
  goes : (t : Tenant) → get w.tenants ns ≡ Some t → Goes w ns t u → Comes w ns u
  begins : get w.tenants ns ≡ None → ((kept : Snapshot) → IsKept u kept → ⊥) → Comes w ns u

abbrev pub Walks : World → World → Type 0
Walks w x = (ns : Name) (u : Tenant) → get x.tenants ns ≡ Some u → Comes w ns u

walks_same : (w x : World) → x.tenants ≡ w.tenants → Walks w x
walks_same w x same ns u at = goes u (ap (λ m. get m ns) (sym same) ∙ at) (goes_same w ns u u refl refl)

walks_put : (w x y : World) (ns : Name) (t u : Tenant) → Walks w y → get w.tenants ns ≡ Some t → x.tenants ≡ insert y.tenants ns u → Goes w ns t u → Walks w x
walks_put w x y ns t u h is put g k v at = by (row_of_insert names one_name y.tenants ns u k v (sym (ap (λ m. get m k) put) ∙ at))
  where
    by : ((k ≡ ns) × (u ≡ v)) ⊎ (get y.tenants k ≡ Some v) → Comes w k v
    by (inl e) = subst (Comes w k) e.1 (subst (λ k. Comes w k u) (sym e.0) (goes t is g))
    by (inr old) = h k v old

module _ (w : World) (sound : IsSound w) where
  numbered_in : (ns : Name) (t : Tenant) → get w.tenants ns ≡ Some t → IsNumbered t
  numbered_in ns t is = ((queued_of w sound).tenant ns t is).numbered

  walks_quiet : (x : World) → Quiet w x → Walks w x
  walks_quiet x h ns u at =
      let t = h.came ns u at in
      goes t.0 t.1 (record {
        snapshots = λ kept k. inl (record {
          number = k.number;
          worker = k.worker;
          is_worker = ap (λ m. get m k.number) (sym t.2.workers) ∙ k.is_worker;
          keeps = k.keeps;
        });
        rows = λ n a at. (a, t.2.rows (numbered_in ns t.0 t.1) n a at, record { created = refl; modified = refl });
      })

  -- ---- a worker's steps

  module _ (number : ℕ) where
    dequeue_walks : (key : Key) → Leads (Walks w) (dequeue number key w)
    unfolding dequeue
    dequeue_walks key = leads_if (Walks w) (nat_lt number workers_end && is_idle w number && is_served w w.ready key)
        (option_map_or (dequeue_in number key w) (get w.tenants key.0) NotEnabled) NotEnabled (λ _.
        leads_there (Walks w) (get w.tenants key.0) (dequeue_in number key w) (λ t is. leads_there (Walks w) (get t.evaluations key.1) _ (λ e _.
        walks_put w (taken number key w t e) w key.0 t (with_worker number (new_worker key.1 e) t) (walks_same w w refl) is refl
        (goes_worker w key.0 t t (goes_same w key.0 t t refl refl) number (new_worker key.1 e) (λ kept keeps. absurd (not_Some kept keeps)))))) (λ _. tt)

    module _ (ns : Name) where
      -- the worker's row, where it keeps a snapshot
      kept_by : (t : Tenant) (worker : Worker) → get t.workers number ≡ Some worker → (kept : Snapshot) → worker.kept ≡ Some kept →
          IsKept t kept ⊎ IsSnapOf w ns t kept
      kept_by t worker has kept keeps = inl (record { number = number; worker = worker; is_worker = has; keeps = keeps })

      snap_walks : Leads (Walks w) (snap number ns w)
      unfolding snap
      snap_walks = leads_at_work (Walks w) number ns w (snap_for number ns w) (λ t worker e is has _.
          let snapshot : Snapshot = snapshot_of w ns t worker.evaluation e in
          leads_if (Walks w) (may_snap worker.tries worker.phase)
          (Done (Content.Snapped worker.evaluation) (put_tenant ns (with_worker number (with_snapshot snapshot worker) t) w)) NotEnabled
          (λ _. walks_put w (put_tenant ns (with_worker number (with_snapshot snapshot worker) t) w) w ns t
          (with_worker number (with_snapshot snapshot worker) t) (walks_same w w refl) is refl
          (goes_worker w ns t t (goes_same w ns t t refl refl) number (with_snapshot snapshot worker) (λ kept keeps.
          inr (record { number = worker.evaluation; row = e; is_snap = same_Some snapshot kept keeps })))) (λ _. tt))

      submit_walks : Leads (Walks w) (submit number ns w)
      unfolding submit
      submit_walks = leads_keeping (Walks w) number ns w (λ t worker e. submit_for number ns w t worker) (λ t worker e kept is has _ _.
          leads_if (Walks w) (may_submit worker kept) (Done (Content.Queued worker.evaluation) (submitted number ns w t worker)) NotEnabled
          (λ _. walks_put w (submitted number ns w t worker) w ns t
          (with_worker number (record worker { phase = Phase.Submitted }) t) (walks_same w w refl) is refl
          (goes_worker w ns t t (goes_same w ns t t refl refl) number (record worker { phase = Phase.Submitted }) (kept_by t worker has))) (λ _. tt))

      applied_walks : (t : Tenant) (worker : Worker) (e : Evaluation) → get w.tenants ns ≡ Some t → get t.workers number ≡ Some worker → (a : Applied) →
          Quiet w a.world → Leads (Walks w) (applied number ns worker e a)
      applied_walks t worker e is has a quiet =
          let there = quiet.goes ns t is in
          let new : Worker = applied_worker a worker e in
          let u : Tenant = with_worker number new there.0 in
          subst (λ o. Walks w (record (option_map_or (λ x. put_tenant ns (with_worker number new x) a.world) o a.world)
          { plans = without_key (ns, worker.evaluation) a.world.plans })) (sym there.1)
          (walks_put w (record (put_tenant ns u a.world) { plans = without_key (ns, worker.evaluation) a.world.plans }) a.world ns t u
          (walks_quiet a.world quiet) is refl
          (goes_worker w ns t there.0 (record {
            snapshots = λ kept k. inl (record {
              number = k.number;
              worker = k.worker;
              is_worker = ap (λ m. get m k.number) (sym there.2.workers) ∙ k.is_worker;
              keeps = k.keeps;
            });
            rows = λ n a at. (a, there.2.rows (numbered_in ns t is) n a at, record { created = refl; modified = refl });
          }) number new (kept_by t worker has)))

      apply_walks : Leads (Walks w) (apply number ns w)
      unfolding apply
      apply_walks = leads_keeping (Walks w) number ns w (apply_for number ns w) (λ t worker e kept is has _ _.
          leads_if (Walks w) (is_submitted worker.phase && is_served w w.plans (ns, worker.evaluation))
          (applied number ns worker e (commit kept (plan kept) w t)) NotEnabled
          (λ _. applied_walks t worker e is has (commit kept (plan kept) w t) (commit_carries quiet_carries kept (plan kept) w t)) (λ _. tt))

      -- the namespace is put with these rows, and the next one of a job moves up
      walks_rows : (t u : Tenant) → get w.tenants ns ≡ Some t → Rows t u → (job : Name) (y : World) → y.tenants ≡ insert w.tenants ns u →
          Walks w (promote ns job y)
      walks_rows t u is rows job y put = walks_put w (promote ns job y) w ns t u (walks_same w w refl) is (promote_tenants ns job y ∙ put)
          (goes_rows w ns t u (numbered_in ns t is) rows)

      module _ (t : Tenant) (is : get w.tenants ns ≡ Some t) (worker : Worker) (e : Evaluation) where
        abbrev rest : Tenant
        rest = ended number worker e (end_of worker) t

        abbrev less : World
        less = without_blocked ns e.job t w

        less_tenants : less.tenants ≡ w.tenants
        less_tenants = unlisted_tenants ns e.job t w

        followed_walks : (f : Evaluation) (late : Bool) → Walks w (promote ns e.job (followed ns worker f rest late less))
        followed_walks f true =
            let g : Evaluation = record f { status = Statuses.Pending } in
            walks_rows t (with_follower worker.evaluation g rest) is
            (rows_then t rest _ (rows_ended number worker e (end_of worker) t) (rows_follower worker.evaluation g rest)) e.job
            (put_tenant ns (with_follower worker.evaluation g rest) less) (ap (λ m. insert m ns (with_follower worker.evaluation g rest)) less_tenants)
        followed_walks f false =
            walks_rows t (with_follower worker.evaluation f rest) is
            (rows_then t rest _ (rows_ended number worker e (end_of worker) t) (rows_follower worker.evaluation f rest)) e.job
            (followed ns worker f rest false less) (ap (λ m. insert m ns (with_follower worker.evaluation f rest)) less_tenants)

        finished_walks : (kept : Snapshot) → Leads (Walks w) (finished number ns w t worker e kept)
        finished_walks kept = leads_if (Walks w) (needs_follower worker kept)
            (Done (Content.Finished (end_of worker) (Some (t.evaluation_number + 1)))
            (promote ns e.job (followed ns worker (follower_of e worker kept) rest (missed w kept (follower_of e worker kept)) less)))
            (Done (Content.Finished (end_of worker) None) (promote ns e.job (put_tenant ns rest less)))
            (λ _. followed_walks (follower_of e worker kept) (missed w kept (follower_of e worker kept)))
            (λ _. walks_rows t rest is (rows_ended number worker e (end_of worker) t) e.job (put_tenant ns rest less) (ap (λ m. insert m ns rest) less_tenants))

        nack_for_walks : get t.evaluations worker.evaluation ≡ Some e → Leads (Walks w) (nack_for number ns w t worker e)
        nack_for_walks at =
            let t' : Tenant = with_nack worker.evaluation e t in
            let u : Tenant = without_worker number t' in
            let v : Tenant = with_status worker.evaluation Statuses.Failed u in
            let nacked : Rows t t' = rows_row t worker.evaluation e (record e { nacks = e.nacks + 1 }) at (record { created = refl; modified = refl }) in
            let back : Rows t u = rows_then t t' u nacked (rows_without number t') in
            leads_if (Walks w) (is_submitted worker.phase) NotEnabled
            (cond (nat_le most_nacks (e.nacks + 1)) (given_up number ns w t' worker e) (given_back number ns w t' worker)) (λ _. tt) (λ _.
            leads_if (Walks w) (nat_le most_nacks (e.nacks + 1)) (given_up number ns w t' worker e) (given_back number ns w t' worker)
            (λ _. walks_rows t v is (rows_then t u v back (rows_status worker.evaluation Statuses.Failed u)) e.job (put_tenant ns v w) refl)
            (λ _. walks_put w (record (put_tenant ns u w) { ready = w.ready ++ (ns, worker.evaluation) ∷ [] }) w ns t u (walks_same w w refl) is refl
            (goes_rows w ns t u (numbered_in ns t is) back)))

      finish_walks : Leads (Walks w) (finish number ns w)
      unfolding finish
      finish_walks = leads_keeping (Walks w) number ns w (finish_for number ns w) (λ t worker e kept is _ _ _.
          leads_if (Walks w) (may_finish worker kept) (finished number ns w t worker e kept) NotEnabled (λ _. finished_walks t is worker e kept) (λ _. tt))

      nack_walks : Leads (Walks w) (nack number ns w)
      unfolding nack
      nack_walks = leads_at_work (Walks w) number ns w (nack_for number ns w) (λ t worker e is _ at. nack_for_walks t is worker e at)

-- ---- administrators

-- a namespace that is there was there before, with another record at most; or it is new and has nothing
pub data Left (w : World) (ns : Name) (u : Tenant) : Type 0 where
  stayed : (t : Tenant) (namespace : Namespace) → get w.tenants ns ≡ Some t → record t { namespace = namespace } ≡ u → Left w ns u
  added : (namespace : Namespace) → get w.tenants ns ≡ None → new_tenant namespace ≡ u → Left w ns u

abbrev pub Leaves : World → World → Type 0
Leaves w x = (ns : Name) (u : Tenant) → get x.tenants ns ≡ Some u → Left w ns u

leaves_same : (w x : World) → x.tenants ≡ w.tenants → Leaves w x
leaves_same w x same ns u at = stayed u u.namespace (ap (λ m. get m ns) (sym same) ∙ at) refl

module _ (w : World) (name : Name) where
  put_leaves : (namespace : Namespace) → Leaves w (put_tenant name (with_namespace namespace (get w.tenants name)) w)
  put_leaves namespace ns u at = by (row_of_insert names one_name w.tenants name (with_namespace namespace (get w.tenants name)) ns u at)
    where
      own : (o : Option Tenant) → get w.tenants ns ≡ o → with_namespace namespace o ≡ u → Left w ns u
      own None none e = added namespace none e
      own (Some t) is e = stayed t namespace is e

      by : ((ns ≡ name) × (with_namespace namespace (get w.tenants name) ≡ u)) ⊎ (get w.tenants ns ≡ Some u) → Left w ns u
      by (inl e) = own (get w.tenants ns) refl (ap (λ k. with_namespace namespace (get w.tenants k)) e.0 ∙ e.1)
      by (inr old) = leaves_same w w refl ns u old

  delete_leaves : Leaves w (record w { tenants = remove w.tenants name })
  delete_leaves ns u at = leaves_same w w refl ns u (row_of_remove w.tenants name ns u at)

module _ (s : State) where
  abbrev pub LeavesIn : State → Type 0
  LeavesIn x = Leaves s.world x.world

  pub admin_leaves : (secret : Option Name) (command : AdminCommand) → Leads LeavesIn (administer secret command s)
  admin_leaves = leads_administered s (λ _. Leaves s.world)
      (λ _ quotas pools. leaves_same s.world (record s.world { quotas = quotas; pools = pools }) refl)
      (put_leaves s.world) (λ name _ _ _ _. delete_leaves s.world name)

walks_left : (w x : World) → Leaves w x → Walks w x
walks_left w x h ns u at = by (h ns u at)
  where
    by : Left w ns u → Comes w ns u
    by (stayed t namespace is e) = subst (Comes w ns) e (goes t is (goes_same w ns t (record t { namespace = namespace }) refl refl))
    by (added namespace none e) = subst (Comes w ns) e
        (begins none (λ kept k. not_Some k.worker (sym (get-empty nat_cmp k.number) ∙ k.is_worker)))

-- ---- each step

module _ (s : State) (sound : IsSound s.world) where
  abbrev pub WalksIn : State → Type 0
  WalksIn x = Walks s.world x.world

  of_world : (c : Outcome World) → Leads (Walks s.world) c → Leads WalksIn (lift (with_world s.acl) c)
  of_world = leads_lift WalksIn (with_world s.acl) (Walks s.world) (λ w h. h)

  of_quiet : (c : Outcome World) → Leads (Quiet s.world) c → Leads WalksIn (lift (with_world s.acl) c)
  of_quiet c h = of_world c (leads_of (Quiet s.world) (Walks s.world) (walks_quiet s.world sound) c h)

  pub act_walks : (step : Step) → Leads WalksIn (act step s)
  unfolding act
  act_walks (Step.Ask ns secret command) = of_quiet _ (ask_carries quiet_carries s.world ns command)
  act_walks (Step.Admin secret command) =
      leads_of (LeavesIn s) WalksIn (λ x h. walks_left s.world x.world h) (administer secret command s) (admin_leaves s secret command)
  act_walks (Step.Node pool secret command) = of_quiet _ (ask_pool_carries quiet_carries s.world pool command)
  act_walks (Step.Dequeue worker ns n) = of_world _ (dequeue_walks s.world sound worker (ns, n))
  act_walks (Step.Snap worker ns) = of_world _ (snap_walks s.world sound worker ns)
  act_walks (Step.Submit worker ns) = of_world _ (submit_walks s.world sound worker ns)
  act_walks (Step.Apply worker ns) = of_world _ (apply_walks s.world sound worker ns)
  act_walks (Step.Finish worker ns) = of_world _ (finish_walks s.world sound worker ns)
  act_walks (Step.Nack worker ns) = of_world _ (nack_walks s.world sound worker ns)

-- ---- the end of a step

module _ (step : Step) (s s' : State) (answer : Answer) (P : State → Type 0) (ns : Name) (now : Tenant) where
  -- the rows of the namespace are what the end of the step makes of its rows in x, and P holds of x
  pub record Closes : Type 0 where
    pub own : State
    pub holds : P own
    pub rows : Tenant
    pub is_own : get own.world.tenants ns ≡ Some rows
    pub is_now : settled_rows s.world own.world ns rows ≡ now

  pub closes : Leads P (act step s) → after step s ≡ said answer s' → get s'.world.tenants ns ≡ Some now → (s' ≡ s) ⊎ Closes
  closes h = by answer
    where
      by : (a : Answer) → after step s ≡ said a s' → get s'.world.tenants ns ≡ Some now → (s' ≡ s) ⊎ Closes
      by (Err refusal) e at = inl (refusal_leaves_all step s s' refusal e)
      by (Ok reply) e at =
          let m = made step s s' reply e in
          inr (row m.own (subst (Leads P) m.acts h) (get m.own.world.tenants ns) refl
          (sym (settled_tenant s.world m.own.world ns) ∙ ap (λ (y : State). get y.world.tenants ns) m.leads ∙ at))
        where
          row : (x : State) → P x → (o : Option Tenant) → get x.world.tenants ns ≡ o → option_map (settled_rows s.world x.world ns) o ≡ Some now → Closes
          row x p None is f = absurd (not_Some now f)
          row x p (Some t) is f = record { own = x; holds = p; rows = t; is_own = is; is_now = same_Some _ _ f }
