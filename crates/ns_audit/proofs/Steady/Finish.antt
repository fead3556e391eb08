-- Finish keeps a world orderly.
use Rattle.std.specs.Prelude.{◌≡◌, ◌≢◌, ℕ, ◌+◌, Bool, true, false, cond, not, T, Option, Some, None, ◌&&◌, find, option_map}
use Rattle.std.proofs.Common.{refl, sym, ap, subst, ◌∙◌}
use Rattle.std.specs.FinMap.{get, insert, entries, entries-insert}
use Rattle.std.specs.Option.{option_map_or}
use Rattle.std.specs.Ordering.{eq_by_cmp, nat_cmp}
use Rattle.ns_types.specs.declared.evaluation.Evaluation.{Evaluation}
use Rattle.ns_types.specs.declared.evaluation.Status.{Status}
use Rattle.ns_types.specs.declared.reply.Content.TheVariants as Content
use Rattle.ns_types.specs.declared.snapshot.Snapshot.{Snapshot}
use Rattle.ns_types.specs.Working.Worker.{Worker}
use Rattle.ns_types.specs.Settling.Making.{put_tenant, with_status, with_evaluation}
use Rattle.ns_types.specs.State.Names.{Name, same_name, same_key, has_key}
use Rattle.ns_types.specs.Settling.Outcome.{NotEnabled, Done}
use Rattle.ns_types.specs.Working.Queue.{promote}
use Rattle.ns_types.specs.Settling.Releases.{missed}
use Rattle.ns_types.specs.State.Rows.{World, Tenant, is_open, is_blocked}
use Rattle.ns_types.specs.Working.Work.{without_worker, without_key, has_failed, end_of, needs_follower, follower_of, blocked_of, without_blocked}
use Rattle.ns_types.specs.Working.Work.{cancel_blocked, ended, tied_to, with_follower, followed, may_finish, finished, finish_for, finish}
use Rattle.ns_types.proofs.Lists.{not_both}
use Rattle.ns_types.proofs.Named.{names, numbers as numbers_, one_number, same_name_refl, same_number_refl, second_of_both}
use Rattle.ns_types.proofs.Tables.{each_row}
use Rattle.ns_types.proofs.Tests.{not_Some, same_Some, is_no}
use Rattle.ns_audit.specs.Orderly.{IsAllowedTo, IsKeptBy, IsOrderlyTenant, IsReadyIn, IsBlockedIn, IsOrderly}
use Rattle.ns_audit.proofs.Steady.Keeping.{at_inserted, KeepsTenant, keeps_same, keeps_then, keeps_with_evaluation, put_orderly, has_key_filter}
use Rattle.ns_audit.proofs.Steady.Keeping.{blocked_orderly}
use Rattle.ns_audit.proofs.Steady.Asks.{KeepsOrder}
use Rattle.ns_types.proofs.Leads.{leads_if}
use Rattle.ns_audit.proofs.Alone.Orderly.{blocked_is}
use Rattle.ns_audit.proofs.Steady.Resting.{same_orderly}
use Rattle.ns_audit.proofs.Steady.Work.{pending_not_blocked, keeping_orderly, keeps_row, keeps_other}
use Rattle.ns_audit.proofs.Steady.Workers.{at_tenant, find_each, find_put, promote_orderly, closed_keeps, unready, unblocked}
use Rattle.ns_audit.proofs.Alone.Naming.{ended_same}
use Rattle.ns_audit.proofs.Alone.Looking.{limits_by}

-- ---- the job's blocked evaluation

pub blocked_row : (t : Tenant) (job : Name) (n : ℕ) → blocked_of t job ≡ Some n → IsBlockedIn t n
blocked_row t job n is = by (find f (entries t.evaluations)) refl is
  where
    f : (ℕ × Evaluation) → Bool
    f e = same_name job e.1.job && is_blocked e.1.status

    by : (x : Option (ℕ × Evaluation)) → find f (entries t.evaluations) ≡ x → option_map (λ e. e.0) x ≡ Some n → IsBlockedIn t n
    by None found is = absurd (not_Some _ is)
    by (Some x) found is =
        let y = find_each (λ e. get t.evaluations e.0 ≡ Some e.1) f (entries t.evaluations) x
        (each_row numbers_ one_number (λ k e. get t.evaluations k ≡ Some e) t.evaluations (λ k e at. at)) found in
        subst (λ n. IsBlockedIn t n) (same_Some _ _ is)
        (record { row = x.1; is_row = y.0; is_blocked = blocked_is x.1.status (second_of_both (same_name job x.1.job) _ y.1) })

-- is the same once a pending one has ended
pub same_blocked : (t t' : Tenant) (job : Name) (n : ℕ) (e : Evaluation) (status : Status) → get t.evaluations n ≡ Some e → e.status ≡ Status.Pending →
    is_blocked status ≡ false
    → t'.evaluations ≡ insert t.evaluations n (record e { status = status }) → blocked_of t' job ≡ blocked_of t job
same_blocked t t' job n e status at pending shut is = ap (option_map (λ (x : ℕ × Evaluation). x.0)) (ap (λ m. find (λ x. passes x.1) (entries m)) is
    ∙ ap (find (λ x. passes x.1)) (entries-insert numbers_ t.evaluations n (record e { status = status }))
    ∙ find_put passes n (record e { status = status }) (entries t.evaluations) (none (same_name job e.job) status shut)
    (each_row numbers_ one_number (λ k x. n ≡ k → passes x ≡ false) t.evaluations (λ k x k_at same.
    none (same_name job x.job) x.status (ap is_blocked (ap (λ e. e.status) (same_Some _ _ (sym k_at ∙ ap (get t.evaluations) (sym same) ∙ at)) ∙ pending)))))
  where
    passes : Evaluation → Bool
    passes x = same_name job x.job && is_blocked x.status

    none : (a : Bool) (status : Status) → is_blocked status ≡ false → (a && is_blocked status) ≡ false
    none true status shut = shut
    none false status shut = refl

-- ---- the one that is blocked is canceled

cancel_keeps : (ns : Name) (ready blocked : ℕ → Bool) (t : Tenant) (s : IsOrderlyTenant ns t) (job : Name) →
    ((n m : ℕ) → blocked_of t job ≡ Some n → ready m ≡ true → m ≢ n) → ((n m : ℕ) → blocked_of t job ≡ Some n → blocked m ≡ true → m ≢ n)
    → KeepsTenant ns ready blocked t (cancel_blocked job t)
cancel_keeps ns ready blocked t s job unready unblocked = by (blocked_of t job) refl
  where
    by : (o : Option ℕ) → blocked_of t job ≡ o → KeepsTenant ns ready blocked t (option_map_or (λ n. with_status n Status.Canceled t) o t)
    by None is = keeps_same ns ready blocked t s
    by (Some n) is =
        let b = blocked_row t job n is in
        subst (KeepsTenant ns ready blocked t) (sym
        (ap (λ o. option_map_or (λ e. record t { evaluations = insert t.evaluations n (record e { status = Status.Canceled }) }) o t) b.is_row))
        (keeps_other ns ready blocked t s n b.row (record b.row { status = Status.Canceled }) b.is_row (λ open_. absurd (subst T (sym open_) tt))
        (λ m x x_is same. let p = s.held m x x_is in
        pending_not_blocked p.row.status p.is_pending (ap (λ e. e.status) (same_Some _ _ (sym p.is_row ∙ ap (get t.evaluations) same ∙ b.is_row)) ∙
        b.is_blocked))
        (λ m has. unready n m is has) (λ m has. unblocked n m is has))

-- ---- a follower

follower_keeps : (ns : Name) (ready blocked : ℕ → Bool) (t : Tenant) (s : IsOrderlyTenant ns t) (n : ℕ) (f : Evaluation) →
    IsAllowedTo t.namespace f.pool f.quota → KeepsTenant ns ready blocked t (with_follower n f t)
follower_keeps ns ready blocked t s n f allowed = by (get t.evaluations n) refl
  where
    number : ℕ
    number = t.evaluation_number + 1

    tied_row : Option Evaluation → Tenant
    tied_row o = option_map_or (λ e. record t { evaluations = insert t.evaluations n (record e { follower = Some (t.evaluation_number + 1) }) }) o t

    by : (o : Option Evaluation) → get t.evaluations n ≡ o →
        KeepsTenant ns ready blocked t (record (tied_row o) {
          evaluation_number = t.evaluation_number + 1;
          evaluations =
              insert (tied_row o).evaluations (t.evaluation_number + 1) f;
        })
    by None at = keeps_with_evaluation_of t s allowed
      where
        keeps_with_evaluation_of : (u : Tenant) → IsOrderlyTenant ns u → IsAllowedTo u.namespace f.pool f.quota →
            KeepsTenant ns ready blocked u (with_evaluation f u)
        keeps_with_evaluation_of u r a = keeps_with_evaluation ns ready blocked u f r a
    by (Some e) at =
        let u = record t { evaluations = insert t.evaluations n (record e { follower = Some (t.evaluation_number + 1) }) } in
        let first : KeepsTenant ns ready blocked t (record t {
          evaluations =
              insert t.evaluations n (record e { follower = Some (t.evaluation_number + 1) });
        }) =
        keeps_row ns ready blocked t s n e (record e { follower = Some (t.evaluation_number + 1) }) at (λ open_. s.evaluation n e at open_) refl in
        keeps_then ns ready blocked t (record t { evaluations = insert t.evaluations n (record e { follower = Some (t.evaluation_number + 1) }) }) _ first
        (keeps_with_evaluation ns ready blocked (record t { evaluations = insert t.evaluations n (record e { follower = Some (t.evaluation_number + 1) }) })
        f first.sound allowed)

follower_row : (n : ℕ) (f : Evaluation) (t : Tenant) → get (with_follower n f t).evaluations (t.evaluation_number + 1) ≡ Some f
follower_row n f t = at_inserted numbers_ (tied_to n (t.evaluation_number + 1) t).evaluations (t.evaluation_number + 1) f
    (same_number_refl (t.evaluation_number + 1))

-- ---- the list without the canceled one

module _ (ns job : Name) (t : Tenant) (w : World) where
  less_orderly : IsOrderly w → IsOrderly (without_blocked ns job t w)
  less_orderly s = by (blocked_of t job)
    where
      by : (o : Option ℕ) → IsOrderly (option_map_or (λ n. record w { blocked = without_key (ns, n) w.blocked }) o w)
      by None = s
      by (Some n) = same_orderly w (record w { blocked = without_key (ns, n) w.blocked }) refl (λ key has. has)
          (λ key has. (has_key_filter (λ other. not (same_key (ns, n) other)) w.blocked key has).0) s

  less_tenants : (without_blocked ns job t w).tenants ≡ w.tenants
  less_tenants = elim (blocked_of t job) as (λ (o : Option ℕ).
      (option_map_or (λ n. record w { blocked = without_key (ns, n) w.blocked }) o w).tenants ≡ w.tenants) [ Some n ↦ refl | None ↦ refl ]

  less_blocked : (m : ℕ) → has_key (without_blocked ns job t w).blocked (ns, m) ≡ true → blocked_of t job ≢ Some m
  less_blocked m = by (blocked_of t job)
    where
      by : (o : Option ℕ) → has_key (option_map_or (λ n. record w { blocked = without_key (ns, n) w.blocked }) o w).blocked (ns, m) ≡ true → o ≢ Some m
      by None has e = not_Some _ e
      by (Some n) has e = not_both (λ i. same_name_refl ns i && (ap (λ j. eq_by_cmp nat_cmp n j) (sym (same_Some n m e)) ∙ same_number_refl n) i)
          (is_no _ (has_key_filter (λ other. not (same_key (ns, n) other)) w.blocked (ns, m) has).1)

-- ---- Finish

pub shut_end : (worker : Worker) → (is_open (end_of worker) ≡ false) × (is_blocked (end_of worker) ≡ false)
shut_end worker = elim (has_failed worker) as (λ b. (is_open (cond b Status.Failed Status.Complete) ≡ false) ×
    (is_blocked (cond b Status.Failed Status.Complete) ≡ false)) [ true ↦ (refl, refl) | false ↦ (refl, refl) ]

module _ (w : World) (s : IsOrderly w) (ns : Name) (number : ℕ) (t : Tenant) (worker : Worker) (e : Evaluation) (kept : Snapshot)
    (is : get w.tenants ns ≡ Some t) (has : get t.workers number ≡ Some worker) (at : get t.evaluations worker.evaluation ≡ Some e)
    (keeps : worker.kept ≡ Some kept) where
  abbrev w1 : World
  w1 = without_blocked ns e.job t w

  abbrev t1 : Tenant
  t1 = with_status worker.evaluation (end_of worker) (without_worker number t)

  w1_orderly : IsOrderly w1
  w1_orderly = less_orderly ns e.job t w s

  is1 : get w1.tenants ns ≡ Some t
  is1 = ap (λ m. get m ns) (less_tenants ns e.job t w) ∙ is

  closing : KeepsTenant ns (λ n. has_key w1.ready (ns, n)) (λ n. has_key w1.blocked (ns, n)) t t1
  closing = closed_keeps ns _ _ t (s.tenant ns t is) number worker e has at (end_of worker) (shut_end worker).0
      (unready w1 w1_orderly ns number t worker is1 has) (unblocked w1 w1_orderly ns number t worker is1 has)

  same_one : blocked_of t1 e.job ≡ blocked_of t e.job
  same_one = same_blocked t t1 e.job worker.evaluation e (end_of worker) at (let p = (s.tenant ns t is).held number worker has in
      ap (λ e. e.status) (same_Some _ _ (sym at ∙ p.is_row)) ∙ p.is_pending) (shut_end worker).1
      (ap (λ (o : Option Evaluation). (option_map_or
      (λ e. record (without_worker number t) { evaluations = insert t.evaluations worker.evaluation (record e { status = end_of worker }) }) o
      (without_worker number t)).evaluations) at)

  ending : KeepsTenant ns (λ n. has_key w1.ready (ns, n)) (λ n. has_key w1.blocked (ns, n)) t (ended number worker e (end_of worker) t)
  ending = keeps_then ns _ _ t t1 (cancel_blocked e.job t1) closing (cancel_keeps ns _ _ t1 closing.sound e.job
      (λ n m one listed same.
      let r = at_tenant w1 IsReadyIn ns m t is1 (w1_orderly.ready ns m listed) in
      let b = blocked_row t e.job n (sym same_one ∙ one) in
      pending_not_blocked r.pending.row.status r.pending.is_pending
      (ap (λ e. e.status) (same_Some _ _ (sym r.pending.is_row ∙ ap (get t.evaluations) same ∙ b.is_row)) ∙ b.is_blocked))
      (λ n m one listed same. less_blocked ns e.job t w m listed (sym same_one ∙ one ∙ ap Some (sym same))))

  allowed : IsAllowedTo t.namespace (follower_of e worker kept).pool (follower_of e worker kept).quota
  allowed = record { permitted = k.allowed.permitted; its_quota = λ q named. k.allowed.its_quota q (limits_by e worker kept q named) }
    where
      k : IsKeptBy ns t kept
      k = (s.tenant ns t is).snapshot number worker kept has keeps

  abbrev t2 : Tenant
  t2 = ended number worker e (end_of worker) t

  following : (f : Evaluation) → IsAllowedTo t.namespace f.pool f.quota → KeepsTenant ns (λ n. has_key w1.ready (ns, n)) (λ n. has_key w1.blocked (ns, n)) t
      (with_follower worker.evaluation f t2)
  following f a = keeps_then ns _ _ t t2 (with_follower worker.evaluation f t2) ending
      (follower_keeps ns _ _ t2 ending.sound worker.evaluation f
      (subst (λ n. IsAllowedTo n f.pool f.quota) (sym (ended_same number worker e (end_of worker) t)) a))

  followed_orderly : (late : Bool) → IsOrderly (followed ns worker (follower_of e worker kept) t2 late w1)
  followed_orderly true = put_orderly w1 ns t (with_follower worker.evaluation (record (follower_of e worker kept) { status = Status.Pending }) t2)
      is1 w1_orderly (following (record (follower_of e worker kept) { status = Status.Pending })
      (record { permitted = allowed.permitted; its_quota = allowed.its_quota }))
  followed_orderly false = blocked_orderly (put_tenant ns (with_follower worker.evaluation (follower_of e worker kept) t2) w1)
      (put_orderly w1 ns t (with_follower worker.evaluation (follower_of e worker kept) t2) is1 w1_orderly (following (follower_of e worker kept) allowed)) ns
      (t2.evaluation_number + 1)
      (record {
        tenant = with_follower worker.evaluation (follower_of e worker kept) t2;
        is_tenant = at_inserted names w1.tenants ns (with_follower worker.evaluation (follower_of e worker kept) t2) (same_name_refl ns);
        entry = record { row = follower_of e worker kept; is_row = follower_row worker.evaluation (follower_of e worker kept) t2; is_blocked = refl };
      })

  finished_orderly : KeepsOrder (finished number ns w t worker e kept)
  finished_orderly = leads_if IsOrderly (needs_follower worker kept)
      (Done (Content.Finished (end_of worker) (Some (t.evaluation_number + 1)))
      (promote ns e.job (followed ns worker (follower_of e worker kept) t2 (missed w kept (follower_of e worker kept)) w1)))
      (Done (Content.Finished (end_of worker) None) (promote ns e.job (put_tenant ns t2 w1)))
      (λ _. promote_orderly ns e.job _ (followed_orderly (missed w kept (follower_of e worker kept))))
      (λ _. promote_orderly ns e.job _ (put_orderly w1 ns t t2 is1 w1_orderly ending))

pub finish_orderly : (w : World) → IsOrderly w → (ns : Name) (number : ℕ) → KeepsOrder (finish number ns w)
unfolding finish
finish_orderly w s ns number = keeping_orderly w number ns (finish_for number ns w) (λ t worker e kept is has at keeps.
    leads_if IsOrderly (may_finish worker kept) (finished number ns w t worker e kept) NotEnabled
    (λ _. finished_orderly w s ns number t worker e kept is has at keeps) (λ _. tt))
