-- Steps on records: the rows of namespaces, pools and quotas stay as they are but for their records, a new owner has nothing, and what goes had nothing
-- that lives. Such a step releases at most quotas with other limits; where there is none, it settles as it is.
use Rattle.std.specs.Prelude.{◌≡◌, ℕ, ◌+◌, true, false, if◌then◌else◌, ◌||◌, [], Option, Some, None, is_some, nat_lt, map}
use Rattle.std.proofs.Common.{refl, sym, ap, subst, ◌∙◌}
use Rattle.std.specs.Option.{option_and_then, option_map_or}
use Rattle.std.specs.FinMap.{get, get-empty}
use Rattle.ns_types.specs.declared.allocation.Allocation.{Allocation}
use Rattle.ns_types.specs.declared.node.Node.{Node}
use Rattle.ns_types.specs.Asking.Admins.{new_tenant, with_pool}
use Rattle.ns_types.specs.State.Names.{Name, name_cmp}
use Rattle.ns_types.specs.Settling.Releases.{changes_limits, counts_in, gives_room, released_classes, releases_quota}
use Rattle.ns_types.specs.State.Rows.{World, Tenant, PoolRows, QuotaRows, class_of, is_live}
use Rattle.ns_types.specs.Settling.Settle.{is_touched, settle, stamp, stamp_tenant, stamped}
use Rattle.ns_types.specs.Steps.{greatest, is_past_bound, is_pool_past_bound, is_tenant_past_bound}
use Rattle.ns_types.specs.State.Tables.{any_row}
use Rattle.ns_types.proofs.Lists.{left_none, not_both, right_none}
use Rattle.ns_types.proofs.Named.{names, one_name}
use Rattle.ns_types.proofs.Settling.{KeepsLive, ends_none, live_in, node_gives_none, stamps_alone, untouched}
use Rattle.ns_types.proofs.Tables.{any_row-none, map_rows_idle, none_of_any}
use Rattle.ns_types.proofs.TableRows.{any_row-empty, filter_no_row}

-- ---- owners but for their records

-- a namespace is as it was but for its record, or new
abbrev pub IsTenantOf : Option Tenant → Tenant → Type 0
IsTenantOf None t' = t' ≡ new_tenant t'.namespace
IsTenantOf (Some t) t' = t' ≡ record t { namespace = t'.namespace }

-- a pool is as it was but for its record, or new
abbrev pub IsPoolOf : Option PoolRows → PoolRows → Type 0
IsPoolOf None p' = p' ≡ with_pool p'.pool None
IsPoolOf (Some p) p' = p' ≡ record p { pool = p'.pool }

-- a quota's release number is as it was, or it is new
abbrev pub IsQuotaOf : Option QuotaRows → QuotaRows → Type 0
IsQuotaOf None q' = q'.release ≡ 0
IsQuotaOf (Some q) q' = q'.release ≡ q.release

-- nothing of it is live
abbrev pub HasNoneLive : Tenant → Type 0
HasNoneLive t = (n : ℕ) (a : Allocation) → get t.allocations n ≡ Some a → is_live a ≡ false

pub record Rests (w w' : World) : Type 0 where
  pub tenant : (ns : Name) (t' : Tenant) → get w'.tenants ns ≡ Some t' → IsTenantOf (get w.tenants ns) t'
  pub gone : (ns : Name) (t : Tenant) → get w.tenants ns ≡ Some t → get w'.tenants ns ≡ None → HasNoneLive t
  pub pool : (name : Name) (p' : PoolRows) → get w'.pools name ≡ Some p' → IsPoolOf (get w.pools name) p'
  pub quota : (name : Name) (q' : QuotaRows) → get w'.quotas name ≡ Some q' → IsQuotaOf (get w.quotas name) q'

-- quotas that were there have the limits that they had
abbrev pub KeepsLimits : World → World → Type 0
KeepsLimits w w' = (name : Name) (q' : QuotaRows) → get w'.quotas name ≡ Some q' → option_map_or (λ q. changes_limits q q') (get w.quotas name) false ≡ false

module _ (w w' : World) (rests : Rests w w') where
  -- ---- nothing ends

  pub keeps_live : KeepsLive w w'
  keeps_live ns t n a is at live = by (get w'.tenants ns) refl
    where
      by : (found : Option Tenant) → get w'.tenants ns ≡ found → option_map_or is_live (option_and_then (λ x. get x.allocations n) (get w'.tenants ns))
          false ≡ true
      by None none = not_both live (rests.gone ns t is none n a at)
      by (Some t') there =
          let same : t' ≡ record t { namespace = t'.namespace } = subst (λ o. IsTenantOf o t') is (rests.tenant ns t' there) in
          live_in t' n a (get w'.tenants ns) there (ap (λ x. get x.allocations n) same ∙ at) live

  -- ---- pools give no room

  gives_none : (name : Name) (p' : PoolRows) (n : Name) (node : Node) → get w'.pools name ≡ Some p' → get p'.nodes n ≡ Some node →
      gives_room w w' name n node ≡ false
  gives_none name p' n node is at = by (get w.pools name) refl (rests.pool name p' is)
    where
      by : (o : Option PoolRows) → get w.pools name ≡ o → IsPoolOf o p' → gives_room w w' name n node ≡ false
      by None none new = not_both refl (ap is_some (sym at ∙ ap (λ p. get p.nodes n) new ∙ get-empty name_cmp n))
      by (Some p) there same = node_gives_none w w' keeps_live name n node (ap (option_and_then (λ x. get x.nodes n)) there ∙ sym (ap (λ x. get x.nodes n) same)
          ∙ at)

  pub classes_none : (name : Name) (p' : PoolRows) → get w'.pools name ≡ Some p' → released_classes w w' name p' ≡ []
  unfolding released_classes
  classes_none name p' is = ap (λ es. map (λ e. class_of e.1) es)
      (filter_no_row names one_name (gives_room w w' name) p'.nodes (λ n node at. gives_none name p' n node is at))

  -- ---- nothing is stamped

  rested : (ns : Name) (t' : Tenant) → get w'.tenants ns ≡ Some t' → stamp_tenant (get w.tenants ns) t' ≡ t'
  unfolding stamp_tenant
  rested ns t' is = by (get w.tenants ns) (rests.tenant ns t' is)
    where
      by : (o : Option Tenant) → IsTenantOf o t' → stamp_tenant o t' ≡ t'
      by None new = refl
      by (Some t) same = ap (λ x. if is_touched t x then stamped (t.index + 1) t x else x) same
          ∙ ap (λ b. if b then stamped (t.index + 1) t (record t { namespace = t'.namespace }) else (record t { namespace = t'.namespace })) (untouched t)
          ∙ sym same

  pub stamps_none : stamp w w' ≡ w'
  unfolding stamp
  stamps_none = λ i. record w' { tenants = map_rows_idle names one_name (λ ns t. stamp_tenant (get w.tenants ns) t) w'.tenants rested i }

  -- ---- where quotas keep their limits nothing is released

  module _ (keeps : KeepsLimits w w') where
    pub quota_none : (name : Name) (q' : QuotaRows) → get w'.quotas name ≡ Some q' → releases_quota w w' name q' ≡ false
    unfolding releases_quota
    quota_none name q' is = λ i. keeps name q' is i || ends_none w w' keeps_live (counts_in name) i

    pub settles_so : settle w w' ≡ w'
    settles_so = stamps_alone w w' classes_none quota_none ∙ stamps_none

  -- ---- no counter passes its bound

  module _ (within : is_past_bound w ≡ false) where
    tenants_before : any_row (λ _ t. is_tenant_past_bound t) w.tenants ≡ false
    unfolding is_past_bound
    tenants_before = left_none _ _ (left_none _ _ within)

    pools_before : any_row (λ _ p. is_pool_past_bound p) w.pools ≡ false
    unfolding is_past_bound
    pools_before = right_none _ _ (left_none _ _ within)

    quotas_before : any_row (λ _ q. nat_lt greatest q.release) w.quotas ≡ false
    unfolding is_past_bound
    quotas_before = right_none _ _ within

    tenant_within : (ns : Name) (t' : Tenant) → get w'.tenants ns ≡ Some t' → is_tenant_past_bound t' ≡ false
    tenant_within ns t' is = by (get w.tenants ns) refl (rests.tenant ns t' is)
      where
        by : (o : Option Tenant) → get w.tenants ns ≡ o → IsTenantOf o t' → is_tenant_past_bound t' ≡ false
        by None none new = ap is_tenant_past_bound new
        by (Some t) there same = ap is_tenant_past_bound same ∙ none_of_any one_name (λ _ t. is_tenant_past_bound t) w.tenants ns t tenants_before there

    pool_within : (name : Name) (p' : PoolRows) → get w'.pools name ≡ Some p' → is_pool_past_bound p' ≡ false
    pool_within name p' is = by (get w.pools name) refl (rests.pool name p' is)
      where
        by : (o : Option PoolRows) → get w.pools name ≡ o → IsPoolOf o p' → is_pool_past_bound p' ≡ false
        by None none new = ap is_pool_past_bound new ∙ any_row-empty names one_name (λ _ (node : Node). nat_lt greatest node.places)
        by (Some p) there same = ap is_pool_past_bound same ∙ none_of_any one_name (λ _ p. is_pool_past_bound p) w.pools name p pools_before there

    quota_within : (name : Name) (q' : QuotaRows) → get w'.quotas name ≡ Some q' → nat_lt greatest q'.release ≡ false
    quota_within name q' is = by (get w.quotas name) refl (rests.quota name q' is)
      where
        by : (o : Option QuotaRows) → get w.quotas name ≡ o → IsQuotaOf o q' → nat_lt greatest q'.release ≡ false
        by None none new = ap (nat_lt greatest) new
        by (Some q) there same = ap (nat_lt greatest) same ∙ none_of_any one_name (λ _ q. nat_lt greatest q.release) w.quotas name q quotas_before there

    pub stays_within : is_past_bound w' ≡ false
    unfolding is_past_bound
    stays_within = λ i. (any_row-none names one_name (λ _ t. is_tenant_past_bound t) w'.tenants tenant_within i
        || any_row-none names one_name (λ _ p. is_pool_past_bound p) w'.pools pool_within i)
        || any_row-none names one_name (λ _ q. nat_lt greatest q.release) w'.quotas quota_within i
