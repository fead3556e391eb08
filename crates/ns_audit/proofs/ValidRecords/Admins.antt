-- What administrators ask of namespaces, quotas and pools keeps records sound.
use Rattle.std.specs.Prelude.{◌≡◌, ◌≤◌, Bool, true, false, not, List, [], ◌∷◌, Option, Some, None, ◌&&◌, ◌||◌, nat_le}
use Rattle.std.proofs.Common.{◌⊎◌, inl, inr, refl, sym, ap, subst, ◌∙◌, arith}
use Rattle.std.proofs.Math.Nat.{le_trans}
use Rattle.std.specs.FinMap.{get, get-empty, contains_key, insert, remove, empty, len, len-empty}
use Rattle.std.specs.List.{list_all, list_any}
use Rattle.std.specs.Option.{option_map_or}
use Rattle.ns_types.specs.declared.job.Job.{Job}
use Rattle.ns_types.specs.declared.name.NameKind.TheVariants as NameKind
use Rattle.ns_types.specs.declared.node.Node.{Node}
use Rattle.ns_types.specs.declared.records.Namespace.{Namespace}
use Rattle.ns_types.specs.declared.records.Pool.{Pool}
use Rattle.ns_types.specs.declared.records.Quota.{Quota}
use Rattle.ns_types.specs.Asking.Admins.{most_rows, is_full, looks_to_pool, new_tenant, with_namespace, lacks_quota, lacks_pool, lacks_allowed, put_namespace}
use Rattle.ns_types.specs.Asking.Admins.{delete_namespace, with_quota, put_quota, delete_quota, with_pool, put_pool_record, names_pool, delete_pool}
use Rattle.ns_types.specs.Asking.Asks.{most_jobs}
use Rattle.ns_types.specs.Asking.Nodes.{most_nodes}
use Rattle.ns_types.specs.State.Limits.{is_text, is_pool_name, is_good_namespace, is_good_quota}
use Rattle.ns_types.specs.Settling.Making.{put_tenant}
use Rattle.ns_types.specs.State.Name.{is_name}
use Rattle.ns_types.specs.State.Names.{Name, ByName, name_cmp, class_cmp, same_name, has_name}
use Rattle.ns_types.specs.State.Rows.{World, Tenant, PoolRows, QuotaRows}
use Rattle.ns_types.specs.State.Sums.{names_quota}
use Rattle.ns_types.specs.State.Tables.{any_row}
use Rattle.ns_types.specs.Validity.{IsSoundQuota}
use Rattle.ns_types.proofs.Lists.{left_none, right_none}
use Rattle.ns_types.proofs.Named.{names, one_name, first_of_both, second_of_both}
use Rattle.ns_types.proofs.Tables.{none_of_any}
use Rattle.ns_types.proofs.Tests.{not_Some, is_yes}
use Rattle.ns_types.proofs.TableRows.{row_of_insert, row_of_remove}
use Rattle.ns_audit.proofs.ValidRecords.Statement.{IsGoodPool}
use Rattle.ns_types.proofs.Leads.{Leads, leads_unless, leads_found}
use Rattle.ns_audit.proofs.ValidRecords.Sound.{kept_of, Names, IsFoundRecord, IsGoodKept, IsRecorded, IsNearKept, IsNear, near_first}
use Rattle.ns_audit.proofs.ValidRecords.Tables.{list_all_of, len_removed, len_room, still_there, there_but, values_pass}
use Rattle.ns_types.proofs.Classes.{by_class, one_class}

-- what holds of each of a list, but of those that are gone, which it does not name
all_but : (gone f g : Name → Bool) → ((q : Name) → gone q ≡ false → f q ≡ true → g q ≡ true) → (xs : List Name) → list_any gone xs ≡ false →
    list_all f xs ≡ true → list_all g xs ≡ true
all_but gone f g h [] none e = refl
all_but gone f g h (x ∷ xs) none e = λ i. h x (left_none (gone x) _ none) (first_of_both _ _ e) i
    && all_but gone f g h xs (right_none (gone x) _ none) (second_of_both _ _ e) i

-- ---- new ones

pub new_pool_good : (name : Name) (pool : Pool) → is_pool_name name ≡ true → is_text pool.description ≡ true → IsGoodPool name (with_pool pool None)
new_pool_good name pool named described = record {
  named = named;
  described = described;
  few_nodes = subst (λ n. n ≤ most_nodes) (sym (len-empty name_cmp Node)) (omega arith);
  node = λ n node has. absurd (not_Some _ (sym (get-empty name_cmp n) ∙ has));
  classes = values_pass by_class one_class (λ r. nat_le r 0) empty (λ c r has. absurd (not_Some _ (sym (get-empty class_cmp c) ∙ has)));
}

pub new_tenant_good : (pools quotas : Names) (ns : Name) (namespace : Namespace) → is_name NameKind.Namespace ns ≡ true → IsFoundRecord pools quotas namespace →
    IsGoodKept pools quotas ns 0 (kept_of (new_tenant namespace))
new_tenant_good pools quotas ns namespace named f = record {
  named = named;
  namespace = f;
  few_jobs = subst (λ n. n ≤ most_jobs) (sym (len-empty name_cmp Job)) (omega arith);
  job = λ id j at. absurd (not_Some _ (sym (get-empty name_cmp id) ∙ at));
  few_events = omega arith;
  events_below = refl;
}

-- ---- tables of pools and quotas

module _ (w : World) (s : IsRecorded w) where
  -- what namespaces name is in the new tables
  tables_near : (pools : ByName PoolRows) (quotas : ByName QuotaRows) → len pools ≤ most_rows → len quotas ≤ most_rows
      → ((ns : Name) (t : Tenant) → get w.tenants ns ≡ Some t → IsFoundRecord (contains_key pools) (contains_key quotas) t.namespace)
      → ((ns : Name) (t : Tenant) (id : Name) (j : Job) → get w.tenants ns ≡ Some t → get t.jobs id ≡ Some j → contains_key pools j.document.pool ≡ true)
      → ((name : Name) (p : PoolRows) → get pools name ≡ Some p → IsGoodPool name p) →
      ((name : Name) (q : QuotaRows) → get quotas name ≡ Some q → IsSoundQuota name q)
      → IsNear w (record w { pools = pools; quotas = quotas })
  tables_near pools quotas few_pools few_quotas found there pool quota = record {
    few_tenants = s.few_tenants;
    few_pools = few_pools;
    few_quotas = few_quotas;
    pool = pool;
    quota = quota;
    tenant = λ ns t is. let k = (near_first w s).tenant ns t is in record {
      same_index = k.same_index;
      good = record {
        named = k.good.named;
        namespace = found ns t is;
        few_jobs = k.good.few_jobs;
        few_events = k.good.few_events;
        events_below = k.good.events_below;
        job = λ id j at. let g = k.good.job id j at in
            record { named = g.named; good = g.good; exists = there ns t id j is at; created = g.created; modified = g.modified; versions = g.versions };
      };
    };
  }

  pub pool_put : (name : Name) (pool : Pool) → is_pool_name name ≡ true → is_text pool.description ≡ true → Leads (IsNear w) (put_pool_record name pool w)
  unfolding put_pool_record
  pool_put name pool named described = leads_unless (IsNear w) (is_full w.pools name) _ _ (λ room.
      tables_near (insert w.pools name new) w.quotas (len_room w.pools name new most_rows s.few_pools room) s.few_quotas
      (λ ns t is. let f = (s.tenant ns t is).namespace in record {
        good = f.good;
        default = still_there w.pools name new t.namespace.default_pool f.default;
        allowed = λ listed e. list_all_of (contains_key w.pools) (contains_key (insert w.pools name new)) (still_there w.pools name new) listed
            (f.allowed listed e);
        quota = f.quota;
      })
      (λ ns t id j is at. still_there w.pools name new j.document.pool ((s.tenant ns t is).job id j at).exists)
      (λ k p at. by k p (row_of_insert names one_name w.pools name new k p at)) s.quota)
    where
      new : PoolRows
      new = with_pool pool (get w.pools name)

      made : (o : Option PoolRows) → get w.pools name ≡ o → IsGoodPool name (with_pool pool o)
      made None at = new_pool_good name pool named described
      made (Some p) at = let g = s.pool name p at in
          record { named = named; described = described; few_nodes = g.few_nodes; node = g.node; classes = g.classes }

      by : (k : Name) (p : PoolRows) → ((k ≡ name) × (new ≡ p)) ⊎ (get w.pools k ≡ Some p) → IsGoodPool k p
      by k p (inl e) = subst (IsGoodPool k) e.1 (subst (λ k. IsGoodPool k new) (sym e.0) (made (get w.pools name) refl))
      by k p (inr at) = s.pool k p at

  pub pool_deleted : (name : Name) → Leads (IsNear w) (delete_pool name w)
  unfolding delete_pool
  pool_deleted name = leads_found (IsNear w) (get w.pools name) _ (λ p _. leads_unless (IsNear w) _ _ _ (λ _. leads_unless (IsNear w) _ _ _ (λ idle.
      tables_near (remove w.pools name) w.quotas (le_trans (len_removed w.pools name) s.few_pools) s.few_quotas
      (λ ns t is. found ns t is (unnamed (right_none _ _ idle) ns t is))
      (λ ns t id j is at. there_but w.pools name j.document.pool (unlooked (right_none _ _ idle) ns t is id j at) ((s.tenant ns t is).job id j at).exists)
      (λ k p at. s.pool k p (row_of_remove w.pools name k p at)) s.quota)))
    where
      named_by : Name → Tenant → Bool
      named_by _ t = names_pool name t.namespace || looks_to_pool (same_name name) t

      unnamed : any_row named_by w.tenants ≡ false → (ns : Name) (t : Tenant) → get w.tenants ns ≡ Some t → names_pool name t.namespace ≡ false
      unnamed idle ns t is = left_none (names_pool name t.namespace) (looks_to_pool (same_name name) t) (none_of_any one_name named_by w.tenants ns t idle is)

      unlooked : any_row named_by w.tenants ≡ false → (ns : Name) (t : Tenant) → get w.tenants ns ≡ Some t → (id : Name) (j : Job) → get t.jobs id ≡ Some j →
          same_name name j.document.pool ≡ false
      unlooked idle ns t is id j at = none_of_any one_name (λ _ job. same_name name job.document.pool) t.jobs id j
          (left_none _ _ (left_none _ _ (right_none (names_pool name t.namespace) (looks_to_pool (same_name name) t)
          (none_of_any one_name named_by w.tenants ns t idle is)))) at

      found : (ns : Name) (t : Tenant) → get w.tenants ns ≡ Some t → names_pool name t.namespace ≡ false →
          IsFoundRecord (contains_key (remove w.pools name)) (contains_key w.quotas) t.namespace
      found ns t is none = let f = (s.tenant ns t is).namespace in record {
        good = f.good;
        default = there_but w.pools name t.namespace.default_pool (left_none _ _ none) f.default;
        allowed = λ listed e. all_but (same_name name) (contains_key w.pools) (contains_key (remove w.pools name)) (there_but w.pools name) listed
            (unlisted listed (sym (ap (λ o. option_map_or (λ allowed. has_name allowed name) o false) e) ∙
            right_none (same_name name t.namespace.default_pool) _ none)) (f.allowed listed e);
        quota = f.quota;
      }
        where
          unlisted : (listed : List Name) → has_name listed name ≡ false → list_any (same_name name) listed ≡ false
          unlisted listed e = e

  pub quota_put : (name : Name) (quota : Quota) → is_name NameKind.Quota name ≡ true → is_good_quota quota ≡ true → Leads (IsNear w) (put_quota name quota w)
  unfolding put_quota
  quota_put name quota named good = leads_unless (IsNear w) (is_full w.quotas name) _ _ (λ room.
      tables_near w.pools (insert w.quotas name new) s.few_pools (len_room w.quotas name new most_rows s.few_quotas room)
      (λ ns t is. let f = (s.tenant ns t is).namespace in
      record { good = f.good; default = f.default; allowed = f.allowed; quota = λ q e. still_there w.quotas name new q (f.quota q e) })
      (λ ns t id j is at. ((s.tenant ns t is).job id j at).exists) s.pool (λ k q at. by k q (row_of_insert names one_name w.quotas name new k q at)))
    where
      new : QuotaRows
      new = with_quota quota (get w.quotas name)

      by : (k : Name) (q : QuotaRows) → ((k ≡ name) × (new ≡ q)) ⊎ (get w.quotas k ≡ Some q) → IsSoundQuota k q
      by k q (inl e) = subst (IsSoundQuota k) e.1 (subst (λ k. IsSoundQuota k new) (sym e.0) (record { named = named; good = good }))
      by k q (inr at) = s.quota k q at

  pub quota_deleted : (name : Name) → Leads (IsNear w) (delete_quota name w)
  unfolding delete_quota
  quota_deleted name = leads_found (IsNear w) (get w.quotas name) _ (λ q _. leads_unless (IsNear w) _ _ _ (λ idle.
      tables_near w.pools (remove w.quotas name) s.few_pools (le_trans (len_removed w.quotas name) s.few_quotas)
      (λ ns t is. let f = (s.tenant ns t is).namespace in
      record { good = f.good; default = f.default; allowed = f.allowed; quota = λ q e. there_but w.quotas name q (other ns t is idle q e) (f.quota q e) })
      (λ ns t id j is at. ((s.tenant ns t is).job id j at).exists) s.pool (λ k q at. s.quota k q (row_of_remove w.quotas name k q at))))
    where
      other : (ns : Name) (t : Tenant) → get w.tenants ns ≡ Some t → any_row (λ _ t. names_quota name t.namespace) w.tenants ≡ false → (q : Name) →
          t.namespace.quota ≡ Some q → same_name name q ≡ false
      other ns t is idle q e = sym (ap (λ o. option_map_or (same_name name) o false) e) ∙
          none_of_any one_name (λ _ t. names_quota name t.namespace) w.tenants ns t idle is

  -- ---- namespaces

  pub namespace_put : (name : Name) (namespace : Namespace) → is_name NameKind.Namespace name ≡ true → is_good_namespace namespace ≡ true →
      Leads (IsNear w) (put_namespace name namespace w)
  unfolding put_namespace
  namespace_put name namespace named good =
      leads_unless (IsNear w) (lacks_quota w namespace) _ _
      (λ quota. leads_unless (IsNear w) (lacks_pool w namespace.default_pool) _ _
      (λ default. leads_unless (IsNear w) (lacks_allowed w namespace) _ _ (λ allowed.
      leads_unless (IsNear w) _ _ _ (λ _. leads_unless (IsNear w) (is_full w.tenants name) _ _ (λ room. whole room (found quota default allowed))))))
    where
      new : Tenant
      new = with_namespace namespace (get w.tenants name)

      found : lacks_quota w namespace ≡ false → lacks_pool w namespace.default_pool ≡ false → lacks_allowed w namespace ≡ false →
          IsFoundRecord (contains_key w.pools) (contains_key w.quotas) namespace
      found quota default allowed = record {
        good = good;
        default = is_yes _ default;
        allowed = λ listed e. is_yes (list_all (contains_key w.pools) listed)
            (sym (ap (λ o. option_map_or (λ allowed. not (list_all (contains_key w.pools) allowed)) o false) e) ∙ allowed);
        quota = λ q e. is_yes (contains_key w.quotas q) (sym (ap (λ o. option_map_or (λ q. not (contains_key w.quotas q)) o false) e) ∙ quota);
      }

      made : IsFoundRecord (contains_key w.pools) (contains_key w.quotas) namespace → (o : Option Tenant) → get w.tenants name ≡ o →
          IsNearKept (contains_key w.pools) (contains_key w.quotas) o name (kept_of (with_namespace namespace o))
      made f None is = record {
        same_index = λ o e. absurd (not_Some _ e);
        good = new_tenant_good (contains_key w.pools) (contains_key w.quotas) name namespace named f;
      }
      made f (Some t) is =
          let k = subst (λ o. IsNearKept (contains_key w.pools) (contains_key w.quotas) o name (kept_of t)) is ((near_first w s).tenant name t is) in record {
            same_index = k.same_index;
            good = record {
              named = named;
              namespace = f;
              few_jobs = k.good.few_jobs;
              job = k.good.job;
              few_events = k.good.few_events;
              events_below =
                  k.good.events_below;
            };
          }

      whole : is_full w.tenants name ≡ false → IsFoundRecord (contains_key w.pools) (contains_key w.quotas) namespace → IsNear w (put_tenant name new w)
      whole room f = record {
        few_tenants = len_room w.tenants name new most_rows s.few_tenants room;
        few_pools = s.few_pools;
        few_quotas = s.few_quotas;
        tenant = λ k x at. by k x (row_of_insert names one_name w.tenants name new k x at);
        pool = s.pool;
        quota = s.quota;
      }
        where
          by : (k : Name) (x : Tenant) → ((k ≡ name) × (new ≡ x)) ⊎ (get w.tenants k ≡ Some x) →
              IsNearKept (contains_key w.pools) (contains_key w.quotas) (get w.tenants k) k (kept_of x)
          by k x (inl e) = subst (λ x. IsNearKept (contains_key w.pools) (contains_key w.quotas) (get w.tenants k) k (kept_of x)) e.1
              (subst (λ k. IsNearKept (contains_key w.pools) (contains_key w.quotas) (get w.tenants k) k (kept_of new)) (sym e.0)
              (made f (get w.tenants name) refl))
          by k x (inr at) = (near_first w s).tenant k x at

  pub namespace_deleted : (name : Name) → Leads (IsNear w) (delete_namespace name w)
  unfolding delete_namespace
  namespace_deleted name = leads_found (IsNear w) (get w.tenants name) _
      (λ t is. leads_unless (IsNear w) _ _ _ (λ _. leads_unless (IsNear w) _ _ _ (λ _. gone)))
    where
      gone : IsNear w (record w { tenants = remove w.tenants name })
      gone = record {
        few_tenants = le_trans (len_removed w.tenants name) s.few_tenants;
        few_pools = s.few_pools;
        few_quotas = s.few_quotas;
        tenant = λ k x at. (near_first w s).tenant k x (row_of_remove w.tenants name k x at);
        pool = s.pool;
        quota = s.quota;
      }
