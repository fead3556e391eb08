-- What administrators ask leaves workers and their evaluations alone.
use Rattle.std.specs.Prelude.{◌≡◌, ℕ, ◌≤◌, Bool, true, false, cond, T, Option, Some, None, ◌||◌, is_some, option_map}
use Rattle.std.proofs.Common.{◌⊎◌, inl, inr, refl, sym, ap, subst, ◌∙◌}
use Rattle.std.specs.FinMap.{get, get-empty, get-insert, get-remove, insert, remove}
use Rattle.std.specs.Option.{option_map_or}
use Rattle.std.specs.Ordering.{eq_by_cmp, nat_cmp}
use Rattle.ns_types.specs.declared.records.Namespace.{Namespace}
use Rattle.ns_types.specs.declared.records.Pool.{Pool}
use Rattle.ns_types.specs.declared.records.Quota.{Quota}
use Rattle.ns_types.specs.declared.snapshot.QuotaSeen.{QuotaSeen}
use Rattle.ns_types.specs.declared.snapshot.Snapshot.{Snapshot}
use Rattle.ns_types.specs.declared.step.AdminCommand.{AdminCommand}
use Rattle.ns_types.specs.Working.Worker.{Worker}
use Rattle.ns_types.specs.Asking.Policies.{with_world, with_acl, administer}
use Rattle.ns_types.specs.Asking.Admins.{has_open, new_tenant, with_namespace, put_namespace, delete_namespace, with_quota, put_quota, delete_quota, read_quota}
use Rattle.ns_types.specs.Asking.Admins.{with_pool, put_pool_record, names_pool, looks_to_pool, is_pool_in_use, delete_pool}
use Rattle.ns_types.specs.Settling.Making.{put_tenant}
use Rattle.ns_types.specs.State.Names.{Name, name_cmp, same_name}
use Rattle.ns_types.specs.Settling.Outcome.{Outcome, NotEnabled, Refused, Done, lift}
use Rattle.ns_types.specs.State.Rows.{State, World, Acl, Tenant, PoolRows, QuotaRows, is_open}
use Rattle.ns_types.specs.State.Tables.{any_row}
use Rattle.ns_types.specs.Validity.{IsSound}
use Rattle.ns_types.proofs.Lists.{not_both, left_none, right_none}
use Rattle.ns_types.proofs.Named.{names, one_name, one_number, same_name_is}
use Rattle.ns_types.proofs.Tables.{none_of_any}
use Rattle.ns_types.proofs.Tests.{not_Some, same_Some}
use Rattle.ns_types.proofs.TableRows.{row_of_insert}
use Rattle.ns_types.proofs.Leads.{Leads, leads_unless, leads_found}
use Rattle.ns_audit.proofs.Alone.Orderly.{turned_name, orderly}
use Rattle.ns_audit.proofs.ValidWorkers.Busy.{IsBusyIn, IsQueuedIn, IsQueued}
use Rattle.ns_audit.proofs.ValidWorkers.Quiet.{Quietly, quiet_same, quiet_put, quiet_pool, grows_none, quiet_stays, stays_held}
use Rattle.ns_audit.proofs.ValidWorkers.Settle.{queued_same}
use Rattle.ns_audit.proofs.ValidWorkers.Staff.{IsStaffed, Stays, CameFrom, LooksStill, looks_same, IsHeldFrom, sound_staffed, staffed_stays}
use Rattle.std.proofs.Math.Nat.{le_refl}

-- ---- what a step's own change owes

-- workers are sound as far as a step's own change can say, and have evaluations that were there before
pub record IsWell (w x : World) : Type 0 where
  pub staffed : IsStaffed x
  pub queued : IsQueued x
  pub held : IsHeldFrom w x

abbrev pub KeepsStaff : World → Outcome World → Type 0
KeepsStaff w = Leads (IsWell w)

unlooked : (passes : Name → Bool) (t : Tenant) → looks_to_pool passes t ≡ false →
    any_row (λ _ worker. option_map_or (λ kept. passes kept.pool) worker.kept false) t.workers ≡ false
unlooked passes t e = right_none _ _ e

module _ (w : World) (s : IsSound w) (q : IsQueued w) where
  stays_well : (x : World) → Stays w x → IsQueued x → IsWell w x
  stays_well x h queued = record { staffed = staffed_stays w x h (sound_staffed w s); queued = queued; held = stays_held w x h (orderly w s) }

  pub quiet_well : (o : Outcome World) → Quietly w o → KeepsStaff w o
  quiet_well NotEnabled h = tt
  quiet_well (Refused refusal) h = tt
  quiet_well (Done content x) h = stays_well x (quiet_stays w x h q (orderly w s)) (h.queued q)

  -- other pools and quotas, but for those that kept snapshots name
  looked_well : (x : World) → x.tenants ≡ w.tenants → x.ready ≡ w.ready → x.plans ≡ w.plans
      → ((k : Name) (t : Tenant) (n : ℕ) (worker : Worker) (kept : Snapshot) → get w.tenants k ≡ Some t → get t.workers n ≡ Some worker →
      worker.kept ≡ Some kept → LooksStill w x kept) → IsWell w x
  looked_well x tenants ready plans looks = stays_well x (record {
    came = λ k u n worker is has. record { tenant = u; is_tenant = ap (λ m. get m k) (sym tenants) ∙ is; is_worker = has; row = refl };
    goes = λ k t n worker is has. (t, ap (λ m. get m k) tenants ∙ is, has);
    plans = plans;
    looks = looks;
  }) (queued_same w x tenants ready q)

  -- ---- namespaces

  added_well : (ns : Name) (namespace : Namespace) → get w.tenants ns ≡ None → IsWell w (put_tenant ns (new_tenant namespace) w)
  added_well ns namespace none = stays_well x (record {
    came = λ k u n worker is has. came k u n worker (row_of_insert names one_name w.tenants ns new k u is) has;
    goes = λ k t n worker is has. (t, get-insert names w.tenants ns new k ∙ there k t is (same_name k ns) refl, has);
    plans = refl;
    looks = λ k t n worker kept is has keeps. looks_same w x refl refl kept;
  }) (record { tenant = λ k u is. queued k u (row_of_insert names one_name w.tenants ns new k u is); once = q.once })
    where
      new : Tenant
      new = new_tenant namespace

      x : World
      x = put_tenant ns new w

      came : (k : Name) (u : Tenant) (n : ℕ) (worker : Worker) → ((k ≡ ns) × (new ≡ u)) ⊎ (get w.tenants k ≡ Some u) → get u.workers n ≡ Some worker →
          CameFrom w k u n worker
      came k u n worker (inl e) has = absurd (not_Some _ (sym (get-empty nat_cmp n) ∙ ap (λ (t : Tenant). get t.workers n) e.1 ∙ has))
      came k u n worker (inr at) has = record { tenant = u; is_tenant = at; is_worker = has; row = refl }

      there : (k : Name) (t : Tenant) → get w.tenants k ≡ Some t → (b : Bool) → same_name k ns ≡ b → cond (same_name k ns) (Some new) (get w.tenants k) ≡ Some t
      there k t is true same = absurd (not_Some _ (sym none ∙ ap (get w.tenants) (sym (same_name_is k ns same)) ∙ is))
      there k t is false differs = ap (λ b. cond b (Some new) (get w.tenants k)) differs ∙ is

      -- no list names an evaluation of a namespace that was not there
      idle : (k : Name) (n : ℕ) → k ≡ ns → IsBusyIn w.ready k new.workers n → ⊥
      idle k n same (inl has) = let l = (orderly w s).ready k n has in not_Some _ (sym none ∙ ap (get w.tenants) (sym same) ∙ l.is_tenant)
      idle k n same (inr h) = not_Some _ (sym (get-empty nat_cmp h.number) ∙ h.is_worker)

      queued : (k : Name) (u : Tenant) → ((k ≡ ns) × (new ≡ u)) ⊎ (get w.tenants k ≡ Some u) → IsQueuedIn w.ready k u
      queued k u (inr at) = q.tenant k u at
      queued k u (inl e) = subst (λ u. IsQueuedIn w.ready k u) e.1 (record {
        numbered = λ n a at. absurd (not_Some _ (sym (get-empty nat_cmp n) ∙ at));
        there = λ n b. absurd (idle k n e.0 b);
        one_busy = λ m n d c bm bn dm cn same. absurd (idle k m e.0 bm);
      })

  removed_well : (ns : Name) (t : Tenant) → get w.tenants ns ≡ Some t → has_open t ≡ false → IsWell w (record w { tenants = remove w.tenants ns })
  removed_well ns t is none = stays_well x (record {
    came = λ k u n worker at has. record { tenant = u; is_tenant = was k u at; is_worker = has; row = refl };
    goes = λ k u n worker at has. (u, get-remove names w.tenants ns k ∙ there k u n worker at has (same_name k ns) refl, has);
    plans = refl;
    looks = λ k u n worker kept at has keeps. looks_same w x refl refl kept;
  }) (record { tenant = λ k u at. q.tenant k u (was k u at); once = q.once })
    where
      x : World
      x = record w { tenants = remove w.tenants ns }

      left : (k : Name) (u : Tenant) (b : Bool) → cond b None (get w.tenants k) ≡ Some u → get w.tenants k ≡ Some u
      left k u true at = absurd (not_Some _ at)
      left k u false at = at

      was : (k : Name) (u : Tenant) → get (remove w.tenants ns) k ≡ Some u → get w.tenants k ≡ Some u
      was k u at = left k u (eq_by_cmp name_cmp k ns) (sym (get-remove names w.tenants ns k) ∙ at)

      -- a worker's evaluation is open
      there : (k : Name) (u : Tenant) (n : ℕ) (worker : Worker) → get w.tenants k ≡ Some u → get u.workers n ≡ Some worker → (b : Bool) → same_name k ns ≡ b →
          cond (same_name k ns) None (get w.tenants k) ≡ Some u
      there k u n worker at has true same =
          let p = ((orderly w s).tenant k u at).held n worker has in
          let one = same_Some _ _ (sym is ∙ ap (get w.tenants) (sym (same_name_is k ns same)) ∙ at) in
          not_both (ap is_open p.is_pending) (none_of_any one_number (λ _ e. is_open e.status) t.evaluations worker.evaluation p.row none
          (ap (λ (t : Tenant). get t.evaluations worker.evaluation) one ∙ p.is_row))
      there k u n worker at has false differs = ap (λ b. cond b None (get w.tenants k)) differs ∙ at

  namespace_put : (name : Name) (namespace : Namespace) → KeepsStaff w (put_namespace name namespace w)
  unfolding put_namespace
  namespace_put name namespace = leads_unless (IsWell w) _ _ _
      (λ _. leads_unless (IsWell w) _ _ _ (λ _. leads_unless (IsWell w) _ _ _
      (λ _. leads_unless (IsWell w) _ _ _ (λ _. leads_unless (IsWell w) _ _ _ (λ _. by (get w.tenants name) refl)))))
    where
      by : (o : Option Tenant) → get w.tenants name ≡ o → IsWell w (put_tenant name (with_namespace namespace o) w)
      by None is = added_well name namespace is
      by (Some t) is =
          let h = quiet_put name t (record t { namespace = namespace }) w is (grows_none t _ refl refl refl) in
          stays_well (put_tenant name (record t { namespace = namespace }) w) (quiet_stays w _ h q (orderly w s)) (h.queued q)

  namespace_deleted : (name : Name) → KeepsStaff w (delete_namespace name w)
  unfolding delete_namespace
  namespace_deleted name = leads_found (IsWell w) (get w.tenants name) _
      (λ t is. leads_unless (IsWell w) _ _ _ (λ _. leads_unless (IsWell w) _ _ _ (λ idle. removed_well name t is (right_none _ _ (left_none _ _ idle)))))

  -- ---- quotas

  quota_put : (name : Name) (quota : Quota) → KeepsStaff w (put_quota name quota w)
  unfolding put_quota
  quota_put name quota = leads_unless (IsWell w) _ _ _ (λ _. looked_well x refl refl refl (λ k t n worker kept is has keeps. record {
    pool = λ p p_is. (p, p_is, le_refl p.release);
    quota = λ q its r r_is. by k t n worker kept is has keeps q its r (row_of_insert names one_name w.quotas name new q.name r r_is);
  }))
    where
      new : QuotaRows
      new = with_quota quota (get w.quotas name)

      x : World
      x = record w { quotas = insert w.quotas name new }

      known : (o : Option QuotaRows) (r : QuotaRows) → is_some o ≡ true → with_quota quota o ≡ r → (p : QuotaRows) × (o ≡ Some p) × (p.release ≤ r.release)
      known None r e same = absurd (subst T (sym e) tt)
      known (Some p) r e same = (p, refl, subst (λ (r : QuotaRows). p.release ≤ r.release) same (le_refl p.release))

      by : (k : Name) (t : Tenant) (n : ℕ) (worker : Worker) (kept : Snapshot) → get w.tenants k ≡ Some t → get t.workers n ≡ Some worker →
          worker.kept ≡ Some kept
          → (q : QuotaSeen) → kept.quota ≡ Some q → (r : QuotaRows) → ((q.name ≡ name) × (new ≡ r)) ⊎ (get w.quotas q.name ≡ Some r) → (p : QuotaRows) ×
          (get w.quotas q.name ≡ Some p) × (p.release ≤ r.release)
      by k t n worker kept is has keeps q its r (inr at) = (r, at, le_refl r.release)
      by k t n worker kept is has keeps q its r (inl e) =
          let sound = s.tenant k t is in
          let named = ((sound.worker n worker has).snapshot kept keeps).allowed.its_quota q.name (ap (option_map (λ (q : QuotaSeen). q.name)) its) in
          let there = sound.namespace.quota q.name named in
          let o = known (get w.quotas name) r (ap (λ k. is_some (get w.quotas k)) (sym e.0) ∙ there) e.1 in
          (o.0, ap (get w.quotas) e.0 ∙ o.1, o.2)

  quota_deleted : (name : Name) → KeepsStaff w (delete_quota name w)
  unfolding delete_quota
  quota_deleted name = leads_found (IsWell w) (get w.quotas name) _
      (λ o _. leads_unless (IsWell w) _ _ _ (λ _. looked_well (record w { quotas = remove w.quotas name }) refl refl refl
      (λ k t n worker kept is has keeps. record {
        pool = λ p p_is. (p, p_is, le_refl p.release);
        quota = λ q its r r_is. (r, by q.name r (eq_by_cmp name_cmp q.name name) (sym (get-remove names w.quotas name q.name) ∙ r_is), le_refl r.release);
      })))
    where
      by : (k : Name) (r : QuotaRows) (b : Bool) → cond b None (get w.quotas k) ≡ Some r → get w.quotas k ≡ Some r
      by k r true at = absurd (not_Some _ at)
      by k r false at = at

  -- ---- pools

  pool_put : (name : Name) (pool : Pool) → KeepsStaff w (put_pool_record name pool w)
  unfolding put_pool_record
  pool_put name pool = leads_unless (IsWell w) _ _ _ (λ _.
      let h = quiet_pool name (with_pool pool (get w.pools name)) w (λ p is. by (get w.pools name) p is) in
      stays_well _ (quiet_stays w _ h q (orderly w s)) (h.queued q))
    where
      by : (o : Option PoolRows) (p : PoolRows) → o ≡ Some p → p.release ≤ (with_pool pool o).release
      by None p is = absurd (not_Some _ is)
      by (Some o) p is = subst (λ (p : PoolRows). p.release ≤ o.release) (same_Some _ _ is) (le_refl o.release)

  pool_deleted : (name : Name) → KeepsStaff w (delete_pool name w)
  unfolding delete_pool
  pool_deleted name = leads_found (IsWell w) (get w.pools name) _ (λ o _. leads_unless (IsWell w) _ _ _ (λ _. leads_unless (IsWell w) _ _ _ (λ unused.
      looked_well (record w { pools = remove w.pools name }) refl refl refl (λ k t n worker kept is has keeps. record {
        pool = λ p p_is. (
          p,
          get-remove names w.pools name kept.pool ∙
              ap (λ b. cond b None (get w.pools kept.pool)) (other k t n worker kept is has keeps (right_none _ _ unused)) ∙ p_is,
          le_refl p.release,
        );
        quota = λ q its r r_is. (r, r_is, le_refl r.release);
      }))))
    where
      -- no kept snapshot names it
      other : (k : Name) (t : Tenant) (n : ℕ) (worker : Worker) (kept : Snapshot) → get w.tenants k ≡ Some t → get t.workers n ≡ Some worker →
          worker.kept ≡ Some kept → is_pool_in_use name w ≡ false → same_name kept.pool name ≡ false
      other k t n worker kept is has keeps unused =
          let none = right_none (names_pool name t.namespace) _
          (none_of_any one_name (λ _ t. names_pool name t.namespace || looks_to_pool (same_name name) t) w.tenants k t unused is) in
          turned_name name kept.pool (ap (λ o. option_map_or (λ kept. same_name name kept.pool) o false) (sym keeps)
          ∙ none_of_any one_number (λ _ worker. option_map_or (λ kept. same_name name kept.pool) worker.kept false) t.workers n worker
          (unlooked (same_name name) t none) has)

-- ---- all that administrators ask

abbrev pub KeepsStaffState : World → Outcome State → Type 0
KeepsStaffState w = Leads (λ (x : State). IsWell w x.world)

module _ (s : State) (o : IsSound s.world) (q : IsQueued s.world) where
  pub of_world : (c : Outcome World) → KeepsStaff s.world c → KeepsStaffState s.world (lift (with_world s.acl) c)
  of_world NotEnabled h = tt
  of_world (Refused refusal) h = tt
  of_world (Done content w) h = h

  same : IsWell s.world s.world
  same = let h = quiet_same s.world in stays_well s.world o q s.world (quiet_stays s.world s.world h q (orderly s.world o)) q

  of_acl : (c : Outcome Acl) → KeepsStaffState s.world (lift (with_acl s.world) c)
  of_acl NotEnabled = tt
  of_acl (Refused refusal) = tt
  of_acl (Done content acl) = same

  pub administer_well : (secret : Option Name) (command : AdminCommand) → KeepsStaffState s.world (administer secret command s)
  unfolding administer
  administer_well secret AdminCommand.ListNamespaces = same
  administer_well secret (AdminCommand.PutNamespace name namespace) = of_world _ (namespace_put s.world o q name namespace)
  administer_well secret (AdminCommand.DeleteNamespace name) = of_world _ (namespace_deleted s.world o q name)
  administer_well secret AdminCommand.ListQuotas = same
  administer_well secret (AdminCommand.ReadQuota name) =
      of_world (read_quota name s.world) (leads_found (IsWell s.world) (get s.world.quotas name) _ (λ q _. same))
  administer_well secret (AdminCommand.PutQuota name quota) = of_world _ (quota_put s.world o q name quota)
  administer_well secret (AdminCommand.DeleteQuota name) = of_world _ (quota_deleted s.world o q name)
  administer_well secret AdminCommand.ListPools = same
  administer_well secret (AdminCommand.PutPool name pool) = of_world _ (pool_put s.world o q name pool)
  administer_well secret (AdminCommand.DeletePool name) = of_world _ (pool_deleted s.world o q name)
  administer_well secret (AdminCommand.ReadPolicy name) = of_acl _
  administer_well secret (AdminCommand.PutPolicy name policy) = of_acl _
  administer_well secret (AdminCommand.DeletePolicy name) = of_acl _
  administer_well secret (AdminCommand.CreateToken new) = of_acl _
  administer_well secret (AdminCommand.DeleteToken accessor) = of_acl _
