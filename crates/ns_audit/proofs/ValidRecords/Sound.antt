-- What administrators and registrations write stays sound: what of it holds before a step settles, and after it.
use Rattle.std.specs.Prelude.{◌≡◌, ℕ, ◌+◌, ◌≤◌, Bool, List, Option, Some, None, IsTrue, length, nat_le, is_some, option_map}
use Rattle.std.proofs.Common.{◌⊎◌, inl, inr, refl, sym, ap, subst, ◌∙◌}
use Rattle.std.specs.FinMap.{get, contains_key, len}
use Rattle.std.specs.List.{list_all}
use Rattle.ns_types.specs.declared.event.Event.{Event}
use Rattle.ns_types.specs.declared.job.Job.{Job}
use Rattle.ns_types.specs.declared.name.NameKind.TheVariants as NameKind
use Rattle.ns_types.specs.declared.records.Namespace.{Namespace}
use Rattle.ns_types.specs.Asking.Admins.{most_rows}
use Rattle.ns_types.specs.Asking.Asks.{most_jobs}
use Rattle.ns_types.specs.State.Limits.{is_good_document, is_good_namespace}
use Rattle.ns_types.specs.Settling.Making.{put_tenant, put_pool}
use Rattle.ns_types.specs.State.Name.{is_name}
use Rattle.ns_types.specs.State.Names.{Name, ByName}
use Rattle.ns_types.specs.State.Rows.{World, Tenant, PoolRows, QuotaRows}
use Rattle.ns_types.specs.Validity.{IsSoundQuota}
use Rattle.ns_types.proofs.Named.{names as by_name, one_name}
use Rattle.ns_types.proofs.Tests.{some_mapped, not_Some, same_Some}
use Rattle.ns_types.proofs.TableRows.{row_of_insert}
use Rattle.ns_audit.proofs.ValidRecords.Statement.{IsGoodPool}
use Rattle.ns_audit.proofs.Alone.Fixed.{SameIn}
use Rattle.ns_audit.proofs.Steady.Keeping.{more}
use Rattle.ns_audit.proofs.ValidRecords.Tables.{same_len, keys_put, len_put}

-- ---- namespaces

-- what of a namespace this is about
pub record Kept : Type 0 where
  pub namespace : Namespace
  pub index : ℕ
  pub jobs : ByName Job
  pub events : List Event

abbrev pub kept_of : Tenant → Kept
kept_of t = record { namespace = t.namespace; index = t.index; jobs = t.jobs; events = t.events }

-- which names are taken
abbrev pub Names : Type 0
Names = Name → Bool

pub record IsFoundRecord (pools quotas : Names) (namespace : Namespace) : Type 0 where
  pub good : IsTrue (is_good_namespace namespace)
  pub default : IsTrue (pools namespace.default_pool)
  pub allowed : (listed : List Name) → namespace.allowed ≡ Some listed → IsTrue (list_all pools listed)
  pub quota : (q : Name) → namespace.quota ≡ Some q → IsTrue (quotas q)

-- its numbers are at most a bound
pub record IsGoodJob (pools : Names) (bound : ℕ) (id : Name) (job : Job) : Type 0 where
  pub named : IsTrue (is_name NameKind.Job id)
  pub good : IsTrue (is_good_document job.document)
  pub exists : IsTrue (pools job.document.pool)
  pub created : job.create_index ≤ bound
  pub modified : job.modify_index ≤ bound
  pub versions : job.version ≤ bound

pub record IsGoodKept (pools quotas : Names) (ns : Name) (bound : ℕ) (k : Kept) : Type 0 where
  pub named : IsTrue (is_name NameKind.Namespace ns)
  pub namespace : IsFoundRecord pools quotas k.namespace
  pub few_jobs : len k.jobs ≤ most_jobs
  pub job : (id : Name) (j : Job) → get k.jobs id ≡ Some j → IsGoodJob pools bound id j
  pub few_events : length k.events ≤ 100
  pub events_below : IsTrue (list_all (λ event. nat_le event.index k.index) k.events)

-- ---- after a step

pub record IsRecorded (w : World) : Type 0 where
  pub few_tenants : len w.tenants ≤ most_rows
  pub few_pools : len w.pools ≤ most_rows
  pub few_quotas : len w.quotas ≤ most_rows
  pub tenant : (ns : Name) (t : Tenant) → get w.tenants ns ≡ Some t → IsGoodKept (contains_key w.pools) (contains_key w.quotas) ns t.index (kept_of t)
  pub pool : (name : Name) (p : PoolRows) → get w.pools name ≡ Some p → IsGoodPool name p
  pub quota : (name : Name) (q : QuotaRows) → get w.quotas name ≡ Some q → IsSoundQuota name q

-- ---- before it settles

-- a changed job of a namespace that was there has the next index already
abbrev pub bound_of : Option Tenant → ℕ → ℕ
bound_of None index = index
bound_of (Some old) index = index + 1

-- the namespace's index goes up at the end
pub record IsNearKept (pools quotas : Names) (old : Option Tenant) (ns : Name) (k : Kept) : Type 0 where
  pub good : IsGoodKept pools quotas ns (bound_of old k.index) k
  pub same_index : (o : Tenant) → old ≡ Some o → k.index ≡ o.index

-- x is what a step has made of w
pub record IsNear (w x : World) : Type 0 where
  pub few_tenants : len x.tenants ≤ most_rows
  pub few_pools : len x.pools ≤ most_rows
  pub few_quotas : len x.quotas ≤ most_rows
  pub tenant : (ns : Name) (t : Tenant) → get x.tenants ns ≡ Some t →
      IsNearKept (contains_key x.pools) (contains_key x.quotas) (get w.tenants ns) ns (kept_of t)
  pub pool : (name : Name) (p : PoolRows) → get x.pools name ≡ Some p → IsGoodPool name p
  pub quota : (name : Name) (q : QuotaRows) → get x.quotas name ≡ Some q → IsSoundQuota name q

-- ---- changes that keep it

pub found_in : {X Y : Type 0} (f : X → Y) (o : Option X) (y : Y) → option_map f o ≡ Some y → (x : X) × (o ≡ Some x) × (f x ≡ y)
found_in f None y e = absurd (not_Some _ e)
found_in f (Some x) y e = (x, refl, same_Some _ _ e)

module _ (w y x : World) (near : IsNear w y) where
  -- nothing of it is changed
  pub near_same : SameIn kept_of y x → x.pools ≡ y.pools → x.quotas ≡ y.quotas → IsNear w x
  near_same same pools quotas = record {
    few_tenants = subst (λ n. n ≤ most_rows) (sym
        (same_len by_name one_name x.tenants y.tenants (λ k. sym (some_mapped kept_of (get x.tenants k)) ∙ ap is_some (same k) ∙
        some_mapped kept_of (get y.tenants k)))) near.few_tenants;
    few_pools = subst (λ m. len m ≤ most_rows) (sym pools) near.few_pools;
    few_quotas = subst (λ m. len m ≤ most_rows) (sym quotas) near.few_quotas;
    tenant = λ ns t is.
        let u = found_in kept_of (get y.tenants ns) (kept_of t) (sym (same ns) ∙ ap (option_map kept_of) is) in
        subst (λ m. IsNearKept (contains_key m) (contains_key x.quotas) (get w.tenants ns) ns (kept_of t)) (sym pools)
        (subst (λ m. IsNearKept (contains_key y.pools) (contains_key m) (get w.tenants ns) ns (kept_of t)) (sym quotas)
        (subst (IsNearKept (contains_key y.pools) (contains_key y.quotas) (get w.tenants ns) ns) u.2 (near.tenant ns u.0 u.1)));
    pool = λ name p is. near.pool name p (ap (λ m. get m name) (sym pools) ∙ is);
    quota = λ name q is. near.quota name q (ap (λ m. get m name) (sym quotas) ∙ is);
  }

module _ (w y : World) (near : IsNear w y) where
  pub near_put : (ns : Name) (t t' : Tenant) → get y.tenants ns ≡ Some t →
      IsNearKept (contains_key y.pools) (contains_key y.quotas) (get w.tenants ns) ns (kept_of t') → IsNear w (put_tenant ns t' y)
  near_put ns t t' is good = record {
    few_tenants = subst (λ n. n ≤ most_rows) (sym (len_put y.tenants ns t' t is)) near.few_tenants;
    few_pools = near.few_pools;
    few_quotas = near.few_quotas;
    tenant = λ k x at. by k x (row_of_insert by_name one_name y.tenants ns t' k x at);
    pool = near.pool;
    quota = near.quota;
  }
    where
      by : (k : Name) (x : Tenant) → ((k ≡ ns) × (t' ≡ x)) ⊎ (get y.tenants k ≡ Some x) →
          IsNearKept (contains_key y.pools) (contains_key y.quotas) (get w.tenants k) k (kept_of x)
      by k x (inl e) = subst (λ x. IsNearKept (contains_key y.pools) (contains_key y.quotas) (get w.tenants k) k (kept_of x)) e.1
          (subst (λ k. IsNearKept (contains_key y.pools) (contains_key y.quotas) (get w.tenants k) k (kept_of t')) (sym e.0) good)
      by k x (inr at) = near.tenant k x at

  pub near_pool : (name : Name) (p p' : PoolRows) → get y.pools name ≡ Some p → IsGoodPool name p' → IsNear w (put_pool name p' y)
  near_pool name p p' is good = record {
    few_tenants = near.few_tenants;
    few_pools = subst (λ n. n ≤ most_rows) (sym (len_put y.pools name p' p is)) near.few_pools;
    few_quotas = near.few_quotas;
    tenant = λ ns t at. subst (λ pools. IsNearKept pools (contains_key y.quotas) (get w.tenants ns) ns (kept_of t))
        (λ i k. sym (keys_put y.pools name p' p is k) i) (near.tenant ns t at);
    pool = λ k x at. by k x (row_of_insert by_name one_name y.pools name p' k x at);
    quota = near.quota;
  }
    where
      by : (k : Name) (x : PoolRows) → ((k ≡ name) × (p' ≡ x)) ⊎ (get y.pools k ≡ Some x) → IsGoodPool k x
      by k x (inl e) = subst (IsGoodPool k) e.1 (subst (λ k. IsGoodPool k p') (sym e.0) good)
      by k x (inr at) = near.pool k x at

-- as it was before the step
pub near_first : (w : World) → IsRecorded w → IsNear w w
near_first w s = record {
  few_tenants = s.few_tenants;
  few_pools = s.few_pools;
  few_quotas = s.few_quotas;
  tenant = λ ns t is. let k = s.tenant ns t is in record {
    good = record {
      named = k.named;
      namespace = k.namespace;
      few_jobs = k.few_jobs;
      job = λ id j at. let g = k.job id j at in higher ns t is id j g;
      few_events = k.few_events;
      events_below = k.events_below;
    };
    same_index = λ o at. ap (λ (t : Tenant). t.index) (same_Some _ _ (sym is ∙ at));
  };
  pool = s.pool;
  quota = s.quota;
}
  where
    higher : (ns : Name) (t : Tenant) → get w.tenants ns ≡ Some t → (id : Name) (j : Job) → IsGoodJob (contains_key w.pools) t.index id j →
        IsGoodJob (contains_key w.pools) (bound_of (get w.tenants ns) t.index) id j
    higher ns t is id j g = subst (λ o. IsGoodJob (contains_key w.pools) (bound_of o t.index) id j) (sym is)
        (record {
          named = g.named;
          good = g.good;
          exists = g.exists;
          created = more _ _ g.created;
          modified = more _ _ g.modified;
          versions =
              more _ _ g.versions;
        })
