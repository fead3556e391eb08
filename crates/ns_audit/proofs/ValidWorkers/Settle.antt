-- What every step does at its end leaves workers as they are, and of a job one busy evaluation at most.
use Rattle.std.specs.Prelude.{◌≡◌, ℕ, ◌+◌, ◌≤◌, Bool, true, false, cond, not, List, [], ◌∷◌, Option, Some, None, filter, fold, option_map}
use Rattle.std.proofs.Common.{refl, sym, ap, subst, ◌∙◌, arith}
use Rattle.std.specs.FinMap.{get}
use Rattle.ns_types.specs.declared.evaluation.Evaluation.{Evaluation}
use Rattle.ns_types.specs.declared.node.Class.{Class}
use Rattle.ns_types.specs.Working.Worker.{Worker}
use Rattle.ns_types.specs.State.Names.{Name, Key, has_key, same_key}
use Rattle.ns_types.specs.Working.Queue.{queue}
use Rattle.ns_types.specs.Settling.Releases.{released_classes, releases_quota, woken}
use Rattle.ns_types.specs.State.Rows.{World, Tenant, PoolRows, QuotaRows}
use Rattle.ns_types.specs.Settling.Same.{same_evaluation}
use Rattle.ns_types.specs.Settling.Settle.{pending, unblocked_in, wake, after_release, after_quota_release, number_releases, is_touched, is_changed}
use Rattle.ns_types.specs.Settling.Settle.{changes_evaluation, created_at, stamped_evaluation, stamped, stamp_tenant, stamp, settle}
use Rattle.ns_types.specs.State.Tables.{map_rows}
use Rattle.ns_types.proofs.Named.{names, one_name, numbers as numbers_, one_number}
use Rattle.ns_types.proofs.Tables.{get-map_rows}
use Rattle.ns_types.proofs.Tests.{same_Some}
use Rattle.ns_types.proofs.Alike.{same_evaluation_refl}
use Rattle.ns_audit.specs.Orderly.{IsOrderly, IsBlockedIn}
use Rattle.ns_audit.proofs.Steady.Keeping.{row_of_map, has_key_filter}
use Rattle.ns_audit.proofs.Steady.Work.{pending_not_blocked}
use Rattle.ns_audit.proofs.Steady.Workers.{at_tenant}
use Rattle.ns_types.proofs.Queue.{queues_keep}
use Rattle.ns_audit.proofs.ValidWorkers.Busy.{IsNumbered, IsQueuedIn, IsQueued, IsBusyIn, KeepsJobs, queued_in, queues_queued}
use Rattle.ns_audit.proofs.ValidWorkers.Once.{is_once}
use Rattle.ns_audit.proofs.ValidWorkers.Staff.{PoolStill, QuotaStill, looks_same, Stays, IsHeldFrom}
use Rattle.std.proofs.Math.Nat.{le_trans}

-- ---- worlds one after another

stays_then : (w x y : World) → Stays w x → Stays x y → Stays w y
stays_then w x y a b = record {
  came = λ k v n worker is has.
      let c = b.came k v n worker is has in
      let d = a.came k c.tenant n worker c.is_tenant c.is_worker in record {
        tenant = d.tenant;
        is_tenant = d.is_tenant;
        is_worker = d.is_worker;
        row = c.row ∙ d.row;
      };
  goes = λ k t n worker is has. let u = a.goes k t n worker is has in b.goes k u.0 n worker u.1 u.2;
  plans = b.plans ∙ a.plans;
  looks = λ k t n worker kept is has keeps.
      let u = a.goes k t n worker is has in
      let l = a.looks k t n worker kept is has keeps in
      let m = b.looks k u.0 n worker kept u.1 u.2 keeps in record {
        pool = λ p p_is. let q = l.pool p p_is in let r = m.pool q.0 q.1 in (r.0, r.1, le_trans q.2 r.2);
        quota = λ q its r r_is. let o = m.quota q its r r_is in let p = l.quota q its o.0 o.1 in (p.0, p.1, le_trans p.2 o.2);
      };
}

held_then : (w x y : World) → IsHeldFrom w x → Stays x y → IsHeldFrom w y
held_then w x y h s k v n worker is has =
    let c = s.came k v n worker is has in
    let d = h k c.tenant n worker c.is_tenant c.is_worker in record {
      tenant = d.tenant;
      is_tenant = d.is_tenant;
      row = d.row;
      was_row = d.was_row;
      is_row = c.row ∙ d.is_row;
      is_pending = d.is_pending;
    }

-- other lists, pools and quotas
stays_tables : (w x : World) → x.tenants ≡ w.tenants → x.plans ≡ w.plans → ((name : Name) → PoolStill w x name) → ((name : Name) → QuotaStill w x name) →
    Stays w x
stays_tables w x tenants plans pools quotas = record {
  came = λ k u n worker is has. record { tenant = u; is_tenant = ap (λ m. get m k) (sym tenants) ∙ is; is_worker = has; row = refl };
  goes = λ k t n worker is has. (t, ap (λ m. get m k) tenants ∙ is, has);
  plans = plans;
  looks = λ k t n worker kept is has keeps. record { pool = pools kept.pool; quota = λ q its. quotas q.name };
}

-- other rows, but for evaluations that workers have
stays_map : (w x : World) (f : Name → Tenant → Tenant) → x.tenants ≡ map_rows f w.tenants → x.plans ≡ w.plans → x.pools ≡ w.pools → x.quotas ≡ w.quotas
    → ((k : Name) (t : Tenant) → (f k t).workers ≡ t.workers)
    → ((k : Name) (t : Tenant) (n : ℕ) (worker : Worker) → get w.tenants k ≡ Some t → get t.workers n ≡ Some worker →
    get (f k t).evaluations worker.evaluation ≡ get t.evaluations worker.evaluation) → Stays w x
stays_map w x f tenants plans pools quotas workers rows = record {
  came = λ k u n worker is has.
      let y = row_of_map names one_name f w.tenants k u (ap (λ m. get m k) (sym tenants) ∙ is) in
      let at = ap (λ m. get m n) (sym (workers k y.0)) ∙ ap (λ (u : Tenant). get u.workers n) y.2 ∙ has in record {
        tenant = y.0;
        is_tenant = y.1;
        is_worker = at;
        row = ap (λ (u : Tenant). get u.evaluations worker.evaluation) (sym y.2) ∙ rows k y.0 n worker y.1 at;
      };
  goes = λ k t n worker is has. (
    f k t,
    ap (λ m. get m k) tenants ∙ get-map_rows names one_name f w.tenants k ∙
        ap (option_map (f k)) is,
    ap (λ m. get m n) (workers k t) ∙ has,
  );
  plans = plans;
  looks = λ k t n worker kept is has keeps. looks_same w x pools quotas kept;
}

-- ---- rows of a namespace with the same jobs

pub record Alike (t u : Tenant) : Type 0 where
  pub workers : u.workers ≡ t.workers
  pub numbered : IsNumbered t → IsNumbered u
  pub jobs : KeepsJobs t u

alike_rows : (t u : Tenant) (f : ℕ → Evaluation → Evaluation) → u.workers ≡ t.workers → u.evaluation_number ≡ t.evaluation_number →
    u.evaluations ≡ map_rows f t.evaluations → ((n : ℕ) (e : Evaluation) → (f n e).job ≡ e.job) → Alike t u
alike_rows t u f workers number rows jobs = record {
  workers = workers;
  numbered = λ numbered n e at. let y = row_of_map numbers_ one_number f t.evaluations n e (ap (λ m. get m n) (sym rows) ∙ at) in
      subst (λ m. n ≤ m) (sym number) (numbered n y.0 y.1);
  jobs = λ n e at. (f n e, ap (λ m. get m n) rows ∙ get-map_rows numbers_ one_number f t.evaluations n ∙ ap (option_map (f n)) at, jobs n e);
}

alike_same : (t : Tenant) → Alike t t
alike_same t = record { workers = refl; numbered = λ n. n; jobs = λ n e at. (e, at, refl) }

queued_alike : (ready : List Key) (ns : Name) (t u : Tenant) → Alike t u → IsQueuedIn ready ns t → IsQueuedIn ready ns u
queued_alike ready ns t u a q = queued_in ready ready ns t u q (a.numbered q.numbered) (λ n b. subst (λ workers. IsBusyIn ready ns workers n) a.workers b)
    a.jobs

queued_map : (w x : World) (f : Name → Tenant → Tenant) → x.tenants ≡ map_rows f w.tenants → x.ready ≡ w.ready → ((k : Name) (t : Tenant) → Alike t (f k t)) →
    IsQueued w → IsQueued x
queued_map w x f tenants ready alike q = record {
  tenant = λ k u is. let y = row_of_map names one_name f w.tenants k u (ap (λ m. get m k) (sym tenants) ∙ is) in
      subst (λ keys. IsQueuedIn keys k u) (sym ready)
      (subst (λ u. IsQueuedIn w.ready k u) y.2 (queued_alike w.ready k y.0 (f k y.0) (alike k y.0) (q.tenant k y.0 y.1)));
  once = ap (is_once same_key) ready ∙ q.once;
}

pub queued_same : (w x : World) → x.tenants ≡ w.tenants → x.ready ≡ w.ready → IsQueued w → IsQueued x
queued_same w x tenants ready q = record {
  tenant = λ k u is. subst (λ keys. IsQueuedIn keys k u) (sym ready) (q.tenant k u (ap (λ m. get m k) (sym tenants) ∙ is));
  once = ap (is_once same_key) ready ∙ q.once;
}

-- ---- releases

release_grows : (classes : List Class) (pool : PoolRows) → pool.release ≤ (after_release classes pool).release
release_grows [] pool = omega arith
release_grows (class ∷ classes) pool = omega arith

quota_release_grows : (b : Bool) (quota : QuotaRows) → quota.release ≤ (after_quota_release b quota).release
quota_release_grows true quota = omega arith
quota_release_grows false quota = omega arith

-- ---- the whole

module _ (w x : World) where
  abbrev keys : List Key
  keys = woken w x

  abbrev opened : World
  opened = record x { tenants = map_rows (unblocked_in keys) x.tenants; blocked = filter (λ key. not (has_key keys key)) x.blocked }

  abbrev waked : World
  waked = fold queue opened keys

  abbrev numbered : World
  numbered = record waked {
    pools = map_rows (λ name pool. after_release (released_classes w x name pool) pool) waked.pools;
    quotas = map_rows (λ name quota. after_quota_release (releases_quota w x name quota) quota) waked.quotas;
  }

  abbrev closed : World
  closed = record numbered { tenants = map_rows (λ ns t. stamp_tenant (get w.tenants ns) t) numbered.tenants }

  settled_is : settle w x ≡ closed
  unfolding settle stamp number_releases wake
  settled_is = refl

  woken_before : (key : Key) → has_key keys key ≡ true → has_key w.blocked key ≡ true
  unfolding woken
  woken_before key has = (has_key_filter _ w.blocked key has).0

  -- ---- jobs

  stamped_alike : (old : Option Tenant) (t : Tenant) → Alike t (stamp_tenant old t)
  unfolding stamp_tenant
  stamped_alike None t = alike_same t
  stamped_alike (Some o) t = elim (is_touched o t) as (λ b. Alike t (cond b (stamped (o.index + 1) o t) t)) [
    | true ↦ alike_rows t (stamped (o.index + 1) o t) (stamped_evaluation (o.index + 1) o) refl refl refl (λ n e.
        elim (changes_evaluation o n e) as (λ b. (cond b
        (record e { create_index = created_at (o.index + 1) (get o.evaluations n) (λ o. o.create_index); modify_index = o.index + 1 }) e).job ≡ e.job)
        [ true ↦ refl | false ↦ refl ])
    | false ↦ alike_same t
  ]

  opened_alike : (k : Name) (t : Tenant) → Alike t (unblocked_in keys k t)
  opened_alike k t = alike_rows t (unblocked_in keys k t) (λ n e. cond (has_key keys (k, n)) (pending e) e) refl refl refl (λ n e.
      elim (has_key keys (k, n)) as (λ b. (cond b (pending e) e).job ≡ e.job) [ true ↦ refl | false ↦ refl ])

  pub settle_queued : IsQueued x → IsQueued (settle w x)
  settle_queued q = subst IsQueued (sym settled_is)
      (queued_map numbered closed (λ ns t. stamp_tenant (get w.tenants ns) t) refl refl (λ k t. stamped_alike (get w.tenants k) t)
      (queued_same waked numbered refl refl (queues_queued keys opened (queued_map x opened (unblocked_in keys) refl refl opened_alike q))))

  -- ---- workers

  opened_stays : IsOrderly w → IsHeldFrom w x → Stays x opened
  opened_stays o h = stays_map x opened (unblocked_in keys) refl refl refl refl (λ k t. refl) (λ k t n worker is has.
      let d = h k t n worker is has in
      get-map_rows numbers_ one_number (λ n e. cond (has_key keys (k, n)) (pending e) e) t.evaluations worker.evaluation ∙ ap (option_map _) d.is_row
      ∙ ap (λ b. Some (cond b (pending d.row) d.row)) (left_alone k t n worker is has (has_key keys (k, worker.evaluation)) refl) ∙ sym d.is_row)
    where
      left_alone : (k : Name) (t : Tenant) (n : ℕ) (worker : Worker) → get x.tenants k ≡ Some t → get t.workers n ≡ Some worker → (b : Bool) →
          has_key keys (k, worker.evaluation) ≡ b → b ≡ false
      left_alone k t n worker is has true woke =
          let d = h k t n worker is has in
          let b = at_tenant w IsBlockedIn k worker.evaluation d.tenant d.is_tenant (o.blocked k worker.evaluation (woken_before (k, worker.evaluation) woke)) in
          absurd (pending_not_blocked d.row.status d.is_pending (ap (λ (e : Evaluation). e.status) (same_Some _ _ (sym d.was_row ∙ b.is_row)) ∙ b.is_blocked))
      left_alone k t n worker is has false _ = refl

  numbered_stays : Stays opened numbered
  numbered_stays = stays_tables opened numbered (queues_keep (λ y. y.tenants) (λ y keys. refl) keys opened)
      (queues_keep (λ y. y.plans) (λ y keys. refl) keys opened)
      (λ name p is. (
        after_release (released_classes w x name p) p,
        get-map_rows names one_name _ waked.pools name ∙
            ap (option_map _) (ap (λ m. get m name) (queues_keep (λ y. y.pools) (λ y keys. refl) keys opened) ∙ is),
        release_grows (released_classes w x name p) p,
      ))
      (λ name r is.
      let y = row_of_map names one_name (λ name quota. after_quota_release (releases_quota w x name quota) quota) waked.quotas name r is in (
        y.0,
        ap (λ m. get m name) (sym (queues_keep (λ y. y.quotas) (λ y keys. refl) keys opened)) ∙ y.1,
        subst (λ (r : QuotaRows). y.0.release ≤ r.release) y.2 (quota_release_grows (releases_quota w x name y.0) y.0),
      ))

  -- an evaluation that is as before is not stamped
  stamp_leaves : (index : ℕ) (old : Tenant) (n : ℕ) (e : Evaluation) → get old.evaluations n ≡ Some e → stamped_evaluation index old n e ≡ e
  stamp_leaves index old n e at = ap (λ b. cond b
      (record e { create_index = created_at index (get old.evaluations n) (λ o. o.create_index); modify_index = index }) e)
      (ap (λ o. is_changed same_evaluation o e) at ∙ ap not (same_evaluation_refl e))

  closed_stays : IsHeldFrom w numbered → Stays numbered closed
  unfolding stamp_tenant
  closed_stays h = stays_map numbered closed (λ ns t. stamp_tenant (get w.tenants ns) t) refl refl refl refl
      (λ k t. (stamped_alike (get w.tenants k) t).workers)
      (λ k t n worker is has. let d = h k t n worker is has in
      ap (λ o. get (stamp_tenant o t).evaluations worker.evaluation) d.is_tenant ∙ row d.tenant t worker.evaluation d.row d.was_row d.is_row)
    where
      row : (o t : Tenant) (n : ℕ) (e : Evaluation) → get o.evaluations n ≡ Some e → get t.evaluations n ≡ Some e →
          get (stamp_tenant (Some o) t).evaluations n ≡ get t.evaluations n
      row o t n e was at = elim (is_touched o t) as (λ b. get (cond b (stamped (o.index + 1) o t) t).evaluations n ≡ get t.evaluations n) [
        | true ↦ get-map_rows numbers_ one_number (stamped_evaluation (o.index + 1) o) t.evaluations n ∙
            ap (option_map (stamped_evaluation (o.index + 1) o n)) at ∙ ap Some (stamp_leaves (o.index + 1) o n e was) ∙ sym at
        | false ↦ refl
      ]

  pub settle_stays : IsOrderly w → IsHeldFrom w x → Stays x (settle w x)
  settle_stays o h = subst (Stays x) (sym settled_is)
      (let first = stays_then x opened numbered (opened_stays o h) numbered_stays in
      stays_then x numbered closed first (closed_stays (held_then w x numbered h first)))
