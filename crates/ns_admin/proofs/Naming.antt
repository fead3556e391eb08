-- Which quota each namespace names, and what it uses, once a record is written.
use Rattle.std.specs.Prelude.{◌≡◌, ℕ, Bool, true, false, cond, List, [], OnErr, Option, Some, None, Result, Ok, Err, sum_by}
use Rattle.std.proofs.Common.{refl, sym, ap, subst, ◌∙◌}
use Rattle.std.specs.FinMap.{empty, entries, get, get-insert, get-remove}
use Rattle.std.specs.Option.{option_and_then, option_map_or}
use Rattle.std.specs.Ordering.{nat_cmp}
use Rattle.std.specs.declared.alloc.AllocError.{AllocError}
use Rattle.keyed.specs.Table.{row_at}
use Rattle.ns_types.specs.declared.records.Namespace.{Namespace}
use Rattle.ns_types.specs.Asking.Admins.{with_namespace}
use Rattle.ns_types.specs.State.Names.{Name, same_name}
use Rattle.ns_types.specs.declared.allocation.Allocation.{Allocation}
use Rattle.ns_types.specs.declared.resources.Resources.{Resources}
use Rattle.ns_types.specs.State.Resources.{each_resource, none, quantity}
use Rattle.ns_types.specs.State.Rows.{Tenant, World, is_live}
use Rattle.ns_types.specs.Working.Commit.{quota_named}
use Rattle.ns_types.proofs.Named.{names, numbers, one_number, same_name_is}
use Rattle.ns_types.proofs.TableRows.{entries_empty}
use Rattle.ns_live_index.specs.declared.live.Live.{Live}
use Rattle.ns_live_index.specs.Naming.{AreKept, AreNamed, HoldsSame, PutsQuota, use_in, with_quota, with_use}
use Rattle.ns_live_index.proofs.QuotaLevels.{with_here}
use Rattle.ns_live_index.proofs.Totals.{are_still_kept, free_moved}
use Rattle.ns_types.proofs.Amounts.{none_total}
use Rattle.ns_tables.specs.Allocations.{IsTotalOf, rows_use}
use Rattle.ns_types.specs.State.Resources.{IsTotal}
use Rattle.ns_tables.specs.declared.tables.Tables.{Tables}
use Rattle.ns_tables.specs.declared.tables.TenantRows.{TenantRows}
use Rattle.ns_tables.specs.World.{world_of}
use Rattle.ns_admin.specs.Recorded.{Writes}
use Rattle.ns_admin.specs.Viewed.{with_namespace_put, without_namespace}
use Rattle.ns_admin.proofs.World.{tenant_is}

abbrev of : Option Tenant → Option Name
of t = option_and_then (λ t. t.namespace.quota) t

abbrev use_of : Option Tenant → Resources
use_of t = option_map_or (λ t. rows_use t.allocations) t none

module _ (name : Name) (w : World) where
  put_named : (namespace : Namespace) (ns : Name) → quota_named (with_namespace_put name namespace w) ns ≡ with_quota name namespace.quota (quota_named w) ns
  put_named namespace ns = ap of (get-insert names w.tenants name (with_namespace namespace (get w.tenants name)) ns) ∙ by (same_name ns name)
    where
      new : (old : Option Tenant) → (with_namespace namespace old).namespace.quota ≡ namespace.quota
      new None = refl
      new (Some t) = refl

      by : (b : Bool) → of (cond b (Some (with_namespace namespace (get w.tenants name))) (get w.tenants ns))
          ≡ cond b namespace.quota (quota_named w ns)
      by true = new (get w.tenants name)
      by false = refl

  gone_named : (ns : Name) → quota_named (without_namespace name w) ns ≡ with_quota name None (quota_named w) ns
  gone_named ns = ap of (get-remove names w.tenants name ns) ∙ by (same_name ns name)
    where
      by : (b : Bool) → of (cond b None (get w.tenants ns)) ≡ cond b None (quota_named w ns)
      by true = refl
      by false = refl

  -- a namespace that is put has what it had, and a new one has nothing
  put_used : (namespace : Namespace) (ns : Name) → use_in (with_namespace_put name namespace w).tenants ns ≡ use_in w.tenants ns
  put_used namespace ns = ap use_of (get-insert names w.tenants name (with_namespace namespace (get w.tenants name)) ns) ∙ by (same_name ns name) refl
    where
      kept : (old : Option Tenant) → use_of (Some (with_namespace namespace old)) ≡ use_of old
      kept None = λ i. each_resource (λ r. ap (live_amount (quantity r)) no_rows i)
        where
          live_amount : (Resources → ℕ) → List (ℕ × Allocation) → ℕ
          live_amount amount es = sum_by (λ e. cond (is_live e.1) (amount e.1.size) 0) es

          no_rows : entries (empty {X = Allocation} {R = nat_cmp}) ≡ []
          no_rows = entries_empty numbers one_number
      kept (Some t) = refl

      by : (b : Bool) → same_name ns name ≡ b → use_of (cond b (Some (with_namespace namespace (get w.tenants name))) (get w.tenants ns)) ≡ use_in w.tenants ns
      by true t = kept (get w.tenants name) ∙ ap (use_in w.tenants) (sym (same_name_is ns name t))
      by false t = refl

  gone_used : (ns : Name) → use_in (without_namespace name w).tenants ns ≡ with_use name none (use_in w.tenants) ns
  gone_used ns = ap use_of (get-remove names w.tenants name ns) ∙ by (same_name ns name)
    where
      by : (b : Bool) → use_of (cond b None (get w.tenants ns)) ≡ cond b none (use_in w.tenants ns)
      by true = refl
      by false = refl

  module _ (w' : World) (live mid new : Live) (same : HoldsSame live.quotas mid.quotas) (before after : Option Name) (used : Resources)
      (puts : PutsQuota name before after used mid.quotas new.quotas) (was : quota_named w name ≡ before) (part : IsTotal used (use_in w.tenants name)) where
    put_kept : AreNamed w live → AreKept (with_quota name after (quota_named w)) (use_in w.tenants) new.quotas
    put_kept right = puts (quota_named w) (use_in w.tenants) (are_still_kept live.quotas mid.quotas same (quota_named w) (use_in w.tenants) right) was part

    now_named : (use_of : Name → Resources) → ((ns : Name) → quota_named w' ns ≡ with_quota name after (quota_named w) ns) →
        ((ns : Name) → use_in w'.tenants ns ≡ use_of ns) → AreKept (with_quota name after (quota_named w)) use_of new.quotas → AreNamed w' new
    now_named use_of named uses kept = subst (λ quotas. AreKept quotas (use_in w'.tenants) new.quotas) (λ i ns. sym (named ns) i)
        (subst (λ uses. AreKept (with_quota name after (quota_named w)) uses new.quotas) (λ i ns. sym (uses ns) i) kept)

    pub written_named : (namespace : Namespace) → after ≡ namespace.quota → w' ≡ with_namespace_put name namespace w → AreNamed w live → AreNamed w' new
    written_named namespace its put right = now_named (use_in w.tenants)
        (λ ns. ap (λ w. quota_named w ns) put ∙ put_named namespace ns ∙ ap (λ r. with_quota name r (quota_named w) ns) (sym its))
        (λ ns. ap (λ w. use_in w.tenants ns) put ∙ put_used namespace ns) (put_kept right)

    pub removed_named : after ≡ None → w' ≡ without_namespace name w → AreNamed w live → AreNamed w' new
    removed_named nowhere gone right = now_named (with_use name none (use_in w.tenants))
        (λ ns. ap (λ w. quota_named w ns) gone ∙ gone_named ns ∙ ap (λ r. with_quota name r (quota_named w) ns) (sym nowhere))
        (λ ns. ap (λ w. use_in w.tenants ns) gone ∙ gone_used ns)
        (free_moved new.quotas (with_quota name after (quota_named w)) (use_in w.tenants) (put_kept right) name
        (with_here name (quota_named w) after ∙ nowhere) none)

-- what a namespace that is there names, and uses
pub named_there : (t : Tables) (name : Name) (x : TenantRows) → row_at t.tenants name ≡ Some x → quota_named (world_of t) name ≡ x.namespace.quota
named_there t name x at = ap of (tenant_is t name (Some x) at)

pub named_nowhere : (t : Tables) (name : Name) → row_at t.tenants name ≡ None → quota_named (world_of t) name ≡ None
named_nowhere t name at = ap of (tenant_is t name None at)

pub used_there : (t : Tables) (name : Name) (x : TenantRows) → row_at t.tenants name ≡ Some x → (total : Resources) →
    IsTotalOf total x.allocations.slots → IsTotal total (use_in (world_of t).tenants name)
used_there t name x at total is = subst (IsTotal total) (sym (ap use_of (tenant_is t name (Some x) at))) is

pub used_nowhere : (t : Tables) (name : Name) → row_at t.tenants name ≡ None → (total : Resources) → total ≡ none →
    IsTotal total (use_in (world_of t).tenants name)
used_nowhere t name at total is = subst (λ r. IsTotal r (use_in (world_of t).tenants name)) (sym is)
    (subst (IsTotal none) (sym (ap use_of (tenant_is t name None at))) none_total)

-- a vacant slot at a quota is no name
pub same_named : (w : World) (old new : Live) → HoldsSame old.quotas new.quotas → AreNamed w old → AreNamed w new
same_named w old new same = are_still_kept old.quotas new.quotas same (quota_named w) (use_in w.tenants)

-- a record of another owner
pub other_named : (change : World → World) → ((w : World) (ns : Name) → quota_named (change w) ns ≡ quota_named w ns) →
    ((w : World) (ns : Name) → use_in (change w).tenants ns ≡ use_in w.tenants ns) → (old new : Tables)
    (result : Result (Unit {0}) AllocError) → Writes change old result new → OnErr result (new ≡ old) → (live : Live) →
    AreNamed (world_of old) live → AreNamed (world_of new) live
other_named change stays uses old new (Ok done) writes kept live right = subst (λ w. AreNamed w live) (sym writes)
    (subst (λ quotas. AreKept quotas (use_in (change (world_of old)).tenants) live.quotas) (λ i ns. sym (stays (world_of old) ns) i)
    (subst (λ uses. AreKept (quota_named (world_of old)) uses live.quotas) (λ i ns. sym (uses (world_of old) ns) i) right))
other_named change stays uses old new (Err e) writes kept live right = subst (λ t. AreNamed (world_of t) live) (sym kept) right
