-- What administrators' commands leave, command by command.
use Rattle.std.specs.Prelude.{◌≡◌, Bool, true, false, cond, ◌||◌, Option, Some, None, is_some}
use Rattle.std.proofs.Common.{refl, sym, ap, subst, ◌∙◌, not, ⊎_elim}
use Rattle.std.specs.Option.{option_map_or}
use Rattle.std.specs.Ordering.{eq_by_cmp}
use Rattle.std.specs.FinMap.{get, get-remove, insert, remove}
use Rattle.ns_types.specs.declared.records.Namespace.{Namespace}
use Rattle.ns_types.specs.declared.records.Pool.{Pool}
use Rattle.ns_types.specs.declared.records.Quota.{Quota}
use Rattle.ns_types.specs.declared.refusal.Refusal.{Refusal}
use Rattle.ns_types.specs.declared.step.AdminCommand.{AdminCommand}
use Rattle.ns_types.specs.Asking.Admins.{delete_namespace, delete_pool, delete_quota, has_live, has_open, is_relimited, put_namespace, put_pool_record}
use Rattle.ns_types.specs.Asking.Admins.{put_quota, read_quota, with_namespace, with_pool, with_quota}
use Rattle.ns_types.specs.Asking.Policies.{administer, create_token, delete_policy, delete_token, put_policy, read_policy, with_acl, with_world}
use Rattle.ns_types.specs.Settling.Making.{put_pool, put_tenant}
use Rattle.ns_types.specs.Settling.Outcome.{Outcome, NotEnabled, Refused, Done, found, lift, unless}
use Rattle.ns_types.specs.Settling.Releases.{changes_limits}
use Rattle.ns_types.specs.State.Names.{Name, ByName, name_cmp}
use Rattle.ns_types.specs.State.Resources.{limits_in}
use Rattle.ns_types.specs.State.Rows.{Acl, State, World, Tenant, PoolRows, QuotaRows, is_live}
use Rattle.ns_types.specs.State.Tables.{any_row}
use Rattle.ns_types.proofs.Alike.{same_limits_refl}
use Rattle.ns_types.proofs.Lists.{not_both, right_none}
use Rattle.ns_types.proofs.Named.{names, one_name, one_number}
use Rattle.ns_types.proofs.Tables.{none_of_any, tied}
use Rattle.ns_types.proofs.TableRows.{row_of_insert, row_of_remove, stays}
use Rattle.ns_types.proofs.Tests.{same_Some}
use Rattle.ns_admin.specs.Laws.{relimits}
use Rattle.ns_admin.proofs.Resting.{HasNoneLive, IsPoolOf, IsQuotaOf, IsTenantOf, KeepsLimits, Rests}

-- a row that is not left is the one taken out
taken : {X : Type 0} (m : ByName X) (k q : Name) (x : X) → get m q ≡ Some x → get (remove m k) q ≡ None → q ≡ k
taken m k q x is none = by (eq_by_cmp name_cmp q k) refl
  where
    by : (b : Bool) → eq_by_cmp name_cmp q k ≡ b → q ≡ k
    by true e = tied one_name q k e
    by false e = not_both refl (ap is_some (sym is ∙ sym (ap (λ b. cond b None (get m q)) e) ∙ sym (get-remove names m k q) ∙ none))

-- what holds of each row and of the new one holds of each row once that is in
inserted : {X : Type 0} (P : Name → X → Type 0) (m : ByName X) (k : Name) (v : X) → ((q : Name) (x : X) → get m q ≡ Some x → P q x) → P k v
    → (q : Name) (x : X) → get (insert m k v) q ≡ Some x → P q x
inserted P m k v each new q x is = ⊎_elim (λ own. subst (P q) own.1 (subst (λ n. P n v) (sym own.0) new)) (each q x)
    (row_of_insert names one_name m k v q x is)

-- ---- what each command leaves

-- a refusal of a step that is enabled: of the state, and not of memory
abbrev pub is_of_step : Refusal → Bool
is_of_step Refusal.NotEnabled = false
is_of_step Refusal.Memory = false
is_of_step _ = true

-- a world in which only records changed, with the limits that quotas had where the command says no others
abbrev pub Left : Bool → World → World → Type 0
Left others w w' = Rests w w' × (others ≡ false → KeepsLimits w w')

abbrev pub Leaves : Bool → World → Outcome World → Type 0
Leaves others w NotEnabled = Unit {0}
Leaves others w (Refused refusal) = is_of_step refusal ≡ true
Leaves others w (Done content w') = Left others w w'

module _ (others : Bool) (w : World) where
  leaves_unless : (b : Bool) (refusal : Refusal) (rest : Outcome World) → is_of_step refusal ≡ true → (b ≡ false → Leaves others w rest) →
      Leaves others w (unless b refusal rest)
  unfolding unless
  leaves_unless true refusal rest named h = named
  leaves_unless false refusal rest named h = h refl

  leaves_found : {A : Type 0} (o : Option A) (f : A → Outcome World) → ((a : A) → o ≡ Some a → Leaves others w (f a)) → Leaves others w (found o f)
  leaves_found {A = A} o f h = by o refl
    where
      by : (x : Option A) → o ≡ x → Leaves others w (found x f)
      by None is = refl
      by (Some a) is = h a is

module _ (w : World) where
  -- ---- parts that stay as they are

  same_tenant : (ns : Name) (t : Tenant) → get w.tenants ns ≡ Some t → IsTenantOf (get w.tenants ns) t
  same_tenant ns t is = subst (λ o. IsTenantOf o t) (sym is) refl

  none_gone : (ns : Name) (t : Tenant) → get w.tenants ns ≡ Some t → get w.tenants ns ≡ None → HasNoneLive t
  none_gone ns t is none = not_both refl (ap is_some (sym is ∙ none))

  same_pool : (name : Name) (p : PoolRows) → get w.pools name ≡ Some p → IsPoolOf (get w.pools name) p
  same_pool name p is = subst (λ o. IsPoolOf o p) (sym is) refl

  same_quota : (name : Name) (q : QuotaRows) → get w.quotas name ≡ Some q → IsQuotaOf (get w.quotas name) q
  same_quota name q is = subst (λ o. IsQuotaOf o q) (sym is) refl

  pub limits_kept : (name : Name) (q : QuotaRows) → get w.quotas name ≡ Some q → option_map_or (λ old. changes_limits old q) (get w.quotas name) false ≡ false
  limits_kept name q is = ap (λ o. option_map_or (λ old. changes_limits old q) o false) is ∙ ap not (same_limits_refl (limits_in q.quota.limits))

  pub nothing_changes : (others : Bool) → Left others w w
  nothing_changes others = (record { tenant = same_tenant; gone = none_gone; pool = same_pool; quota = same_quota }, λ _. limits_kept)

  -- ---- namespaces

  module _ (name : Name) (namespace : Namespace) where
    is_of : (o : Option Tenant) → IsTenantOf o (with_namespace namespace o)
    is_of None = refl
    is_of (Some t) = refl

    put_tenant_rests : Rests w (put_tenant name (with_namespace namespace (get w.tenants name)) w)
    put_tenant_rests = record {
      tenant = inserted (λ ns t. IsTenantOf (get w.tenants ns) t) w.tenants name _ same_tenant (is_of (get w.tenants name));
      gone = λ ns t is none. not_both (stays names one_name w.tenants name (with_namespace namespace (get w.tenants name)) ns (ap is_some is))
          (ap is_some none);
      pool = same_pool;
      quota = same_quota;
    }

    pub put_namespace_leaves : Leaves false w (put_namespace name namespace w)
    unfolding put_namespace
    put_namespace_leaves = leaves_unless false w _ _ _ refl (λ _. leaves_unless false w _ _ _ refl (λ _. leaves_unless false w _ _ _ refl
        (λ _. leaves_unless false w _ _ _ refl (λ _. leaves_unless false w _ _ _ refl (λ _. (put_tenant_rests, λ _. limits_kept))))))

  module _ (name : Name) (t : Tenant) (is : get w.tenants name ≡ Some t) where
    removed_rests : (any_row (λ _ job. true) t.jobs || has_open t || has_live t) ≡ false → Rests w (record w { tenants = remove w.tenants name })
    removed_rests empty = record {
      tenant = λ ns t' at. same_tenant ns t' (row_of_remove w.tenants name ns t' at);
      gone = λ ns x at none. subst HasNoneLive (same_Some t x (sym is ∙ ap (get w.tenants) (sym (taken w.tenants name ns x at none)) ∙ at))
          (λ n a there. none_of_any one_number (λ _ a. is_live a) t.allocations n a (right_none _ (has_live t) empty) there);
      pool = same_pool;
      quota = same_quota;
    }

  pub delete_namespace_leaves : (name : Name) → Leaves false w (delete_namespace name w)
  unfolding delete_namespace
  delete_namespace_leaves name = leaves_found false w (get w.tenants name) _
      (λ t is. leaves_unless false w _ _ _ refl (λ _. leaves_unless false w _ _ _ refl (λ empty. (removed_rests name t is empty, λ _. limits_kept))))

  -- ---- quotas

  module _ (name : Name) (quota : Quota) where
    is_of_quota : (o : Option QuotaRows) → IsQuotaOf o (with_quota quota o)
    is_of_quota None = refl
    is_of_quota (Some q) = refl

    pub put_quota_rests : Rests w (record w { quotas = insert w.quotas name (with_quota quota (get w.quotas name)) })
    put_quota_rests = record {
      tenant = same_tenant;
      gone = none_gone;
      pool = same_pool;
      quota = inserted (λ other q. IsQuotaOf (get w.quotas other) q) w.quotas name _ same_quota (is_of_quota (get w.quotas name));
    }

    limits_put : (o : Option QuotaRows) → option_map_or (λ old. changes_limits old (with_quota quota (Some old))) o false ≡ false
        → option_map_or (λ old. changes_limits old (with_quota quota o)) o false ≡ false
    limits_put None same = refl
    limits_put (Some old) same = same

    put_quota_keeps : is_relimited name quota w ≡ false → KeepsLimits w (record w { quotas = insert w.quotas name (with_quota quota (get w.quotas name)) })
    put_quota_keeps same = inserted (λ other q. option_map_or (λ old. changes_limits old q) (get w.quotas other) false ≡ false) w.quotas name _ limits_kept
        (limits_put (get w.quotas name) same)

    pub put_quota_leaves : Leaves (is_relimited name quota w) w (put_quota name quota w)
    unfolding put_quota
    put_quota_leaves = leaves_unless (is_relimited name quota w) w _ _ _ refl (λ _. (put_quota_rests, put_quota_keeps))

  pub delete_quota_leaves : (name : Name) → Leaves false w (delete_quota name w)
  unfolding delete_quota
  delete_quota_leaves name = leaves_found false w (get w.quotas name) _ (λ q is. leaves_unless false w _ _ _ refl (λ _. (
    record {
      tenant = same_tenant;
      gone = none_gone;
      pool = same_pool;
      quota = λ other x at. same_quota other x (row_of_remove w.quotas name other x at);
    },
    λ _ other x at. limits_kept other x (row_of_remove w.quotas name other x at),
  )))

  pub read_quota_leaves : (name : Name) → Leaves false w (read_quota name w)
  read_quota_leaves name = leaves_found false w (get w.quotas name) _ (λ q is. nothing_changes false)

  -- ---- pools

  module _ (name : Name) (pool : Pool) where
    is_of_pool : (o : Option PoolRows) → IsPoolOf o (with_pool pool o)
    is_of_pool None = refl
    is_of_pool (Some p) = refl

    put_pool_rests : Rests w (put_pool name (with_pool pool (get w.pools name)) w)
    put_pool_rests = record {
      tenant = same_tenant;
      gone = none_gone;
      pool = inserted (λ other p. IsPoolOf (get w.pools other) p) w.pools name _ same_pool (is_of_pool (get w.pools name));
      quota = same_quota;
    }

    pub put_pool_leaves : Leaves false w (put_pool_record name pool w)
    unfolding put_pool_record
    put_pool_leaves = leaves_unless false w _ _ _ refl (λ _. (put_pool_rests, λ _. limits_kept))

  pub delete_pool_leaves : (name : Name) → Leaves false w (delete_pool name w)
  unfolding delete_pool
  delete_pool_leaves name = leaves_found false w (get w.pools name) _ (λ p is. leaves_unless false w _ _ _ refl (λ _. leaves_unless false w _ _ _ refl (λ _. (
    record {
      tenant = same_tenant;
      gone = none_gone;
      pool = λ other p' at. same_pool other p' (row_of_remove w.pools name other p' at);
      quota = same_quota;
    },
    λ _. limits_kept,
  ))))

-- ---- refusals of the access lists

abbrev IsNamed : Outcome Acl → Type 0
IsNamed NotEnabled = Unit {0}
IsNamed (Refused refusal) = is_of_step refusal ≡ true
IsNamed (Done content acl) = Unit {0}

named_unless : (b : Bool) (refusal : Refusal) (rest : Outcome Acl) → is_of_step refusal ≡ true → IsNamed rest → IsNamed (unless b refusal rest)
unfolding unless
named_unless true refusal rest named h = named
named_unless false refusal rest named h = h

named_found : {A : Type 0} (o : Option A) (f : A → Outcome Acl) → ((a : A) → IsNamed (f a)) → IsNamed (found o f)
named_found None f h = refl
named_found (Some a) f h = h a

-- ---- all commands

abbrev pub LeavesState : Bool → State → Outcome State → Type 0
LeavesState others s NotEnabled = Unit {0}
LeavesState others s (Refused refusal) = is_of_step refusal ≡ true
LeavesState others s (Done content s') = Left others s.world s'.world

world_leaves : (others : Bool) (s : State) (o : Outcome World) → Leaves others s.world o → LeavesState others s (lift (with_world s.acl) o)
world_leaves others s NotEnabled h = tt
world_leaves others s (Refused refusal) h = h
world_leaves others s (Done content w) h = h

acl_leaves : (s : State) (o : Outcome Acl) → IsNamed o → LeavesState false s (lift (with_acl s.world) o)
acl_leaves s NotEnabled h = tt
acl_leaves s (Refused refusal) h = h
acl_leaves s (Done content acl) h = nothing_changes s.world false

pub command_leaves : (secret : Option Name) (command : AdminCommand) (s : State) → LeavesState (relimits command s.world) s (administer secret command s)
unfolding administer
command_leaves secret AdminCommand.ListNamespaces s = nothing_changes s.world false
command_leaves secret (AdminCommand.PutNamespace name namespace) s = world_leaves false s _ (put_namespace_leaves s.world name namespace)
command_leaves secret (AdminCommand.DeleteNamespace name) s = world_leaves false s _ (delete_namespace_leaves s.world name)
command_leaves secret AdminCommand.ListQuotas s = nothing_changes s.world false
command_leaves secret (AdminCommand.ReadQuota name) s = world_leaves false s _ (read_quota_leaves s.world name)
command_leaves secret (AdminCommand.PutQuota name quota) s = world_leaves (is_relimited name quota s.world) s _ (put_quota_leaves s.world name quota)
command_leaves secret (AdminCommand.DeleteQuota name) s = world_leaves false s _ (delete_quota_leaves s.world name)
command_leaves secret AdminCommand.ListPools s = nothing_changes s.world false
command_leaves secret (AdminCommand.PutPool name pool) s = world_leaves false s _ (put_pool_leaves s.world name pool)
command_leaves secret (AdminCommand.DeletePool name) s = world_leaves false s _ (delete_pool_leaves s.world name)
command_leaves secret (AdminCommand.ReadPolicy name) s = acl_leaves s (read_policy name s.acl) (named_found (get s.acl.policies name) _ (λ policy. tt))
command_leaves secret (AdminCommand.PutPolicy name policy) s = acl_leaves s (put_policy name policy s.acl) (named_unless _ _ _ refl tt)
command_leaves secret (AdminCommand.DeletePolicy name) s = acl_leaves s (delete_policy name s.acl) (named_found (get s.acl.policies name) _ (λ policy. tt))
command_leaves secret (AdminCommand.CreateToken new) s = acl_leaves s (create_token new s.acl) (named_unless _ _ _ refl (named_unless _ _ _ refl tt))
command_leaves secret (AdminCommand.DeleteToken accessor) s =
    acl_leaves s (delete_token accessor s.acl) (named_found _ _ (λ token. named_unless _ _ _ refl tt))
