-- What administrators ask keeps a world orderly.
use Rattle.std.specs.Prelude.{◌≡◌, ℕ, Bool, true, false, cond, not, T, Option, Some, None, ◌&&◌, ◌||◌}
use Rattle.std.proofs.Common.{◌⊎◌, inl, inr, refl, sym, ap, subst, ◌∙◌}
use Rattle.std.specs.FinMap.{get, get-empty, get-insert, get-remove, remove}
use Rattle.std.specs.Option.{option_map_or, option_eq}
use Rattle.std.specs.Ordering.{eq_by_cmp, nat_cmp}
use Rattle.ns_types.specs.declared.evaluation.Evaluation.{Evaluation}
use Rattle.ns_types.specs.declared.records.Namespace.{Namespace}
use Rattle.ns_types.specs.declared.step.AdminCommand.{AdminCommand}
use Rattle.ns_types.specs.Working.Worker.{Worker}
use Rattle.ns_types.specs.declared.snapshot.Snapshot.{Snapshot}
use Rattle.ns_types.specs.Asking.Policies.{with_world, with_acl, administer}
use Rattle.ns_types.specs.Asking.Admins.{has_open, has_live, looks_to_pool, uses_pool, new_tenant, with_namespace, is_withdrawn, same_quota, forbids_put}
use Rattle.ns_types.specs.Asking.Admins.{put_namespace, delete_namespace, put_quota, delete_quota, read_quota, put_pool_record, delete_pool}
use Rattle.ns_types.specs.Settling.Making.{put_tenant}
use Rattle.ns_types.specs.State.Names.{Name, name_cmp, same_name, has_key}
use Rattle.ns_types.specs.Settling.Outcome.{Outcome, NotEnabled, Refused, Done, lift}
use Rattle.ns_types.specs.State.Rows.{State, World, Acl, Tenant, is_open, is_live}
use Rattle.ns_types.specs.Access.Sharing.{permits}
use Rattle.ns_types.proofs.Lists.{not_both, left_none, right_none}
use Rattle.ns_types.proofs.Named.{names, one_name, one_number, same_name_is}
use Rattle.ns_types.proofs.Tables.{none_of_any}
use Rattle.ns_types.proofs.Tests.{not_Some, same_Some}
use Rattle.ns_types.proofs.TableRows.{row_of_insert}
use Rattle.ns_audit.specs.Orderly.{IsAllowedTo, IsOrderlyTenant, IsReadyIn, IsBlockedIn, IsListed, IsOrderly}
use Rattle.ns_audit.proofs.Steady.Keeping.{KeepsTenant, put_orderly}
use Rattle.ns_audit.proofs.Steady.Asks.{KeepsOrder}
use Rattle.ns_types.proofs.Leads.{Leads, leads_unless, leads_found}
use Rattle.ns_audit.proofs.Steady.Resting.{same_orderly}

-- ---- a namespace's record is put anew

module _ (ns : Name) (ready blocked : ℕ → Bool) (t : Tenant) (s : IsOrderlyTenant ns t) (new : Namespace) (free : forbids_put new t ≡ false) where
  unused : uses_pool (is_withdrawn t.namespace new) t ≡ false
  unused = left_none _ _ free

  unlooked : looks_to_pool (is_withdrawn t.namespace new) t ≡ false
  unlooked = left_none _ _ unused

  -- what is not withdrawn is permitted still
  still : (pool : Name) → permits t.namespace pool ≡ true → is_withdrawn t.namespace new pool ≡ false → permits new pool ≡ true
  still pool old kept = by (permits new pool) (λ i. (sym old ∙ refl) i) kept
    where
      by : (b : Bool) → true ≡ permits t.namespace pool → (permits t.namespace pool && not b) ≡ false → b ≡ true
      by true _ e = refl
      by false is e = not_both (ap (λ c. c && true) (sym is)) e

  none_open : same_quota t.namespace new ≡ false → has_open t ≡ false
  none_open differs = left_none _ (has_live t) (ap (λ b. not b && (has_open t || has_live t)) (sym differs) ∙ right_none _ _ free)

  same_name_of : (q : Name) → t.namespace.quota ≡ Some q → same_quota t.namespace new ≡ true → new.quota ≡ Some q
  same_name_of q old same = by new.quota (ap (λ o. option_eq same_name o new.quota) (sym old) ∙ same)
    where
      by : (o : Option Name) → option_eq same_name (Some q) o ≡ true → o ≡ Some q
      by None e = absurd (subst T (sym e) tt)
      by (Some r) e = ap Some (sym (same_name_is q r e))

  -- with an open evaluation the quota is the same
  quota_still : (n : ℕ) (e : Evaluation) → get t.evaluations n ≡ Some e → is_open e.status ≡ true → (q : Name) → t.namespace.quota ≡ Some q → new.quota ≡ Some q
  quota_still n e at open_ q old = by (same_quota t.namespace new) refl
    where
      by : (b : Bool) → same_quota t.namespace new ≡ b → new.quota ≡ Some q
      by true same = same_name_of q old same
      by false differs = not_both open_ (none_of_any one_number (λ _ e. is_open e.status) t.evaluations n e (none_open differs) at)

  kept_still : (n : ℕ) (worker : Worker) (kept : Snapshot) → get t.workers n ≡ Some worker → worker.kept ≡ Some kept →
      is_withdrawn t.namespace new kept.pool ≡ false
  kept_still n worker kept at has =
      ap (λ o. option_map_or (λ kept. is_withdrawn t.namespace new kept.pool) o false) (sym has)
      ∙ none_of_any one_number (λ _ worker. option_map_or (λ kept. is_withdrawn t.namespace new kept.pool) worker.kept false) t.workers n worker
      (right_none _ _ unlooked) at

  evaluation_still : (n : ℕ) (e : Evaluation) → get t.evaluations n ≡ Some e → is_open e.status ≡ true → IsAllowedTo new e.pool e.quota
  evaluation_still n e at open_ =
      let a = s.evaluation n e at open_ in record {
        permitted = still e.pool a.permitted (ap (λ b. b && is_withdrawn t.namespace new e.pool) (sym open_) ∙
            none_of_any one_number (λ _ e. is_open e.status && is_withdrawn t.namespace new e.pool) t.evaluations n e (right_none _ _ (left_none _ _ unlooked))
            at);
        its_quota = λ q is. quota_still n e at open_ q (a.its_quota q is);
      }

  renamed_keeps : KeepsTenant ns ready blocked t (record t { namespace = new })
  renamed_keeps = record {
    sound = record {
      job = λ id j at. still j.document.pool (s.job id j at)
          (none_of_any one_name (λ _ job. is_withdrawn t.namespace new job.document.pool) t.jobs id j (left_none _ _ (left_none _ _ unlooked)) at);
      evaluation = evaluation_still;
      allocation = λ n a at live. still a.pool (s.allocation n a at live) (ap (λ b. b && is_withdrawn t.namespace new a.pool) (sym live) ∙
          none_of_any one_number (λ _ a. is_live a && is_withdrawn t.namespace new a.pool) t.allocations n a (right_none _ _ unused) at);
      snapshot = λ n worker kept at has.
          let k = s.snapshot n worker kept at has in
          let p = s.held n worker at in record {
            namespace = k.namespace;
            allowed = record {
              permitted = still kept.pool k.allowed.permitted (kept_still n worker kept at has);
              its_quota = λ q is. quota_still worker.evaluation p.row p.is_row (ap is_open p.is_pending) q (k.allowed.its_quota q is);
            };
          };
      held = λ n worker at. let p = s.held n worker at in record { row = p.row; is_row = p.is_row; is_pending = p.is_pending };
      one_each = s.one_each;
      numbers = s.numbers;
    };
    ready_kept = λ n has r. record { pending = record { row = r.pending.row; is_row = r.pending.is_row; is_pending = r.pending.is_pending }; free = r.free };
    blocked_kept = λ n has b. record { row = b.row; is_row = b.is_row; is_blocked = b.is_blocked };
  }

-- ---- a new namespace, and one that goes

pub new_orderly : (ns : Name) (namespace : Namespace) → IsOrderlyTenant ns (new_tenant namespace)
new_orderly ns namespace = record {
  job = λ id j at. absurd (not_Some _ (sym (get-empty name_cmp id) ∙ at));
  evaluation = λ n e at _. absurd (not_Some _ (sym (get-empty nat_cmp n) ∙ at));
  allocation = λ n a at _. absurd (not_Some _ (sym (get-empty nat_cmp n) ∙ at));
  snapshot = λ n worker kept at _. absurd (not_Some _ (sym (get-empty nat_cmp n) ∙ at));
  held = λ n worker at. absurd (not_Some _ (sym (get-empty nat_cmp n) ∙ at));
  one_each = λ m n v x at _ _. absurd (not_Some _ (sym (get-empty nat_cmp m) ∙ at));
  numbers = λ n e at. absurd (not_Some _ (sym (get-empty nat_cmp n) ∙ at));
}

added_orderly : (w : World) (ns : Name) (namespace : Namespace) → IsOrderly w → get w.tenants ns ≡ None → IsOrderly (put_tenant ns (new_tenant namespace) w)
added_orderly w ns namespace s none = record {
  tenant = λ k x at. by_tenant k x (row_of_insert names one_name w.tenants ns (new_tenant namespace) k x at);
  ready = λ k n has. again IsReadyIn k n (s.ready k n has);
  blocked = λ k n has. again IsBlockedIn k n (s.blocked k n has);
}
  where
    by_tenant : (k : Name) (x : Tenant) → ((k ≡ ns) × (new_tenant namespace ≡ x)) ⊎ (get w.tenants k ≡ Some x) → IsOrderlyTenant k x
    by_tenant k x (inl e) = subst (IsOrderlyTenant k) e.1 (new_orderly k namespace)
    by_tenant k x (inr at) = s.tenant k x at

    again : (P : Tenant → ℕ → Type 0) (k : Name) (n : ℕ) → IsListed w P k n → IsListed (put_tenant ns (new_tenant namespace) w) P k n
    again P k n l = record {
      tenant = l.tenant;
      entry = l.entry;
      is_tenant = get-insert names w.tenants ns (new_tenant namespace) k ∙
          by (eq_by_cmp name_cmp k ns) refl;
    }
      where
        by : (b : Bool) → eq_by_cmp name_cmp k ns ≡ b → cond b (Some (new_tenant namespace)) (get w.tenants k) ≡ Some l.tenant
        by true same = absurd (not_Some _ (sym none ∙ ap (get w.tenants) (sym (same_name_is k ns same)) ∙ l.is_tenant))
        by false _ = l.is_tenant

removed_orderly : (w : World) (ns : Name) (t : Tenant) → IsOrderly w → get w.tenants ns ≡ Some t → has_open t ≡ false →
    IsOrderly (record w { tenants = remove w.tenants ns })
removed_orderly w ns t s is none = record {
  tenant = λ k x at. by_tenant k x (eq_by_cmp name_cmp k ns) (sym (get-remove names w.tenants ns k) ∙ at);
  ready = λ k n has. again IsReadyIn k n (λ x r. open_row x n r.pending.row r.pending.is_row (ap is_open r.pending.is_pending)) (s.ready k n has);
  blocked = λ k n has. again IsBlockedIn k n (λ x b. open_row x n b.row b.is_row (ap is_open b.is_blocked)) (s.blocked k n has);
}
  where
    by_tenant : (k : Name) (x : Tenant) (b : Bool) → cond b None (get w.tenants k) ≡ Some x → IsOrderlyTenant k x
    by_tenant k x true at = absurd (not_Some _ at)
    by_tenant k x false at = s.tenant k x at

    -- no list names an evaluation of a namespace that has no open one
    open_row : (x : Tenant) (n : ℕ) (e : Evaluation) → get x.evaluations n ≡ Some e → is_open e.status ≡ true → t ≡ x → ⊥
    open_row x n e at open_ same = not_both open_
        (none_of_any one_number (λ _ e. is_open e.status) t.evaluations n e none (ap (λ (y : Tenant). get y.evaluations n) same ∙ at))

    again : (P : Tenant → ℕ → Type 0) (k : Name) (n : ℕ) → ((x : Tenant) → P x n → t ≡ x → ⊥) → IsListed w P k n →
        IsListed (record w { tenants = remove w.tenants ns }) P k n
    again P k n never l = record { tenant = l.tenant; entry = l.entry; is_tenant = get-remove names w.tenants ns k ∙ by (eq_by_cmp name_cmp k ns) refl }
      where
        by : (b : Bool) → eq_by_cmp name_cmp k ns ≡ b → cond b None (get w.tenants k) ≡ Some l.tenant
        by true same = absurd (never l.tenant l.entry (same_Some _ _ (sym is ∙ ap (get w.tenants) (sym (same_name_is k ns same)) ∙ l.is_tenant)))
        by false _ = l.is_tenant

-- ---- commands

module _ (w : World) (s : IsOrderly w) where
  namespace_put : (name : Name) (namespace : Namespace) → KeepsOrder (put_namespace name namespace w)
  unfolding put_namespace
  namespace_put name namespace = leads_unless IsOrderly _ _ _
      (λ _. leads_unless IsOrderly _ _ _ (λ _. leads_unless IsOrderly _ _ _
      (λ _. leads_unless IsOrderly _ _ _ (λ free. leads_unless IsOrderly _ _ _ (λ _. by (get w.tenants name) refl free)))))
    where
      by : (o : Option Tenant) → get w.tenants name ≡ o → option_map_or (forbids_put namespace) o false ≡ false →
          IsOrderly (put_tenant name (with_namespace namespace o) w)
      by None is free = added_orderly w name namespace s is
      by (Some t) is free = put_orderly w name t (record t { namespace = namespace }) is s (renamed_keeps name _ _ t (s.tenant name t is) namespace free)

  namespace_deleted : (name : Name) → KeepsOrder (delete_namespace name w)
  unfolding delete_namespace
  namespace_deleted name = leads_found IsOrderly (get w.tenants name) _
      (λ t is. leads_unless IsOrderly _ _ _ (λ _. leads_unless IsOrderly _ _ _ (λ idle. removed_orderly w name t s is (right_none _ _ (left_none _ _ idle)))))

  rest_orderly : (x : World) → x.tenants ≡ w.tenants → x.ready ≡ w.ready → x.blocked ≡ w.blocked → IsOrderly x
  rest_orderly x tenants ready blocked = same_orderly w x tenants (λ key has. ap (λ keys. has_key keys key) (sym ready) ∙ has)
      (λ key has. ap (λ keys. has_key keys key) (sym blocked) ∙ has) s

abbrev pub KeepsOrderState : Outcome State → Type 0
KeepsOrderState = Leads (λ (x : State). IsOrderly x.world)

module _ (s : State) (o : IsOrderly s.world) where
  pub of_world : (c : Outcome World) → KeepsOrder c → KeepsOrderState (lift (with_world s.acl) c)
  of_world NotEnabled h = tt
  of_world (Refused refusal) h = tt
  of_world (Done content w) h = h

  of_acl : (c : Outcome Acl) → KeepsOrderState (lift (with_acl s.world) c)
  of_acl NotEnabled = tt
  of_acl (Refused refusal) = tt
  of_acl (Done content acl) = o

  pub administer_orderly : (secret : Option Name) (command : AdminCommand) → KeepsOrderState (administer secret command s)
  unfolding administer put_quota delete_quota put_pool_record delete_pool
  administer_orderly secret AdminCommand.ListNamespaces = o
  administer_orderly secret (AdminCommand.PutNamespace name namespace) = of_world _ (namespace_put s.world o name namespace)
  administer_orderly secret (AdminCommand.DeleteNamespace name) = of_world _ (namespace_deleted s.world o name)
  administer_orderly secret AdminCommand.ListQuotas = o
  administer_orderly secret (AdminCommand.ReadQuota name) = of_world (read_quota name s.world) (leads_found IsOrderly (get s.world.quotas name) _ (λ q _. o))
  administer_orderly secret (AdminCommand.PutQuota name quota) =
      of_world (put_quota name quota s.world) (leads_unless IsOrderly _ _ _ (λ _. rest_orderly s.world o _ refl refl refl))
  administer_orderly secret (AdminCommand.DeleteQuota name) =
      of_world (delete_quota name s.world) (leads_found IsOrderly (get s.world.quotas name) _
      (λ q _. leads_unless IsOrderly _ _ _ (λ _. rest_orderly s.world o _ refl refl refl)))
  administer_orderly secret AdminCommand.ListPools = o
  administer_orderly secret (AdminCommand.PutPool name pool) =
      of_world (put_pool_record name pool s.world) (leads_unless IsOrderly _ _ _ (λ _. rest_orderly s.world o _ refl refl refl))
  administer_orderly secret (AdminCommand.DeletePool name) =
      of_world (delete_pool name s.world) (leads_found IsOrderly (get s.world.pools name) _
      (λ p _. leads_unless IsOrderly _ _ _ (λ _. leads_unless IsOrderly _ _ _ (λ _. rest_orderly s.world o _ refl refl refl))))
  administer_orderly secret (AdminCommand.ReadPolicy name) = of_acl _
  administer_orderly secret (AdminCommand.PutPolicy name policy) = of_acl _
  administer_orderly secret (AdminCommand.DeletePolicy name) = of_acl _
  administer_orderly secret (AdminCommand.CreateToken new) = of_acl _
  administer_orderly secret (AdminCommand.DeleteToken accessor) = of_acl _
