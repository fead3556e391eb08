-- The namespaces of a quota by the names that are held at it: in their order, and what they take.
use Rattle.std.specs.Prelude.{◌≡◌, ℕ, Bool, true, false, cond, List, [], ◌∷◌, Option, Some, None, flat_map, is_some, map, option_map, sum_by}
use Rattle.std.specs.Prelude.{◌||◌, unwrap_or}
use Rattle.std.proofs.Common.{refl, sym, ap, subst, ◌∙◌}
use Rattle.std.specs.FinMap.{entries, get}
use Rattle.std.specs.List.{filter, list_any}
use Rattle.std.specs.Option.{option_and_then, option_map_or}
use Rattle.keyed.specs.Table.{at_slot, row_at, row_list, rows, with_row}
use Rattle.keyed.proofs.Levels.{not_true}
use Rattle.keyed.proofs.Tables.{entries-rows, get-rows}
use Rattle.ns_types.specs.declared.resources.Resources.{Resources}
use Rattle.ns_types.specs.State.Lists.{Each}
use Rattle.ns_types.specs.State.Names.{ByName, Name}
use Rattle.ns_types.specs.State.Resources.{IsCounted, each_resource, none, quantity}
use Rattle.ns_types.proofs.Amounts.{quantity_none, quantity_of}
use Rattle.ns_types.specs.State.Rows.{Tenant, World, is_live}
use Rattle.ns_types.specs.State.Sums.{names_quota, quota_sum, quota_use, tenant_sum}
use Rattle.ns_types.specs.State.Tables.{any_row}
use Rattle.ns_types.specs.Working.Commit.{quota_named}
use Rattle.ns_types.specs.Working.Snapshot.{namespaces_naming}
use Rattle.ns_types.proofs.Lists.{filter_none}
use Rattle.ns_types.proofs.Named.{names, one_name}
use Rattle.ns_types.proofs.Sums.{sum_same}
use Rattle.ns_types.proofs.Tables.{each_row}
use Rattle.ns_types.proofs.Tests.{not_Some}
use Rattle.ns_tables.specs.Allocations.{live_sum, rows_use}
use Rattle.ns_types.specs.State.Resources.{IsTotal}
use Rattle.ns_types.proofs.Amounts.{total_exact}
use Rattle.ns_live_index.specs.declared.live.Live.{Live}
use Rattle.ns_live_index.specs.declared.naming.QuotaUse.{QuotaUse}
use Rattle.ns_live_index.specs.Listed.{found_at}
use Rattle.ns_live_index.specs.Naming.{AreNamed, holds_name, is_quota, names_at, names_use, row_name, total_at, use_in}
use Rattle.ns_live_index.proofs.Listing.{filter_at_keys}
use Rattle.keyed.proofs.RowSums.{sum_at_keys}
use Rattle.ns_live_index.proofs.Totals.{held_get}

pub names_in_rows : (slots : List (Name × Option Unit)) → flat_map row_name slots ≡ map (λ e. e.0) (row_list slots)
names_in_rows [] = refl
names_in_rows ((ns, None) ∷ slots) = names_in_rows slots
names_in_rows ((ns, Some row) ∷ slots) = ap (λ names. ns ∷ names) (names_in_rows slots)

module _ {X : Type 0} (look : Name → Option X) where
  -- where a row is found at each key, these are the keys
  all_found : {C : Type 0} (es : List (Name × C)) → Each (λ e. is_some (look e.0) ≡ true) es →
      map (λ e. e.0) (found_at look (map (λ (e : Name × C). e.0) es)) ≡ map (λ e. e.0) es
  all_found [] h = refl
  all_found {C} (e ∷ es) h = by (look e.0) h.0 ∙ ap (λ l. e.0 ∷ l) (all_found es h.1)
    where
      by : (r : Option X) → is_some r ≡ true → map (λ (x : Name × X). x.0) (with_row e.0 r (found_at look (map (λ (e : Name × C). e.0) es)))
          ≡ e.0 ∷ map (λ (x : Name × X). x.0) (found_at look (map (λ (e : Name × C). e.0) es))
      by None there = not_true there
      by (Some x) there = refl

module _ (w : World) (quota : Name) where
  -- what a namespace that is there names
  there : (ns : Name) (t : Tenant) → get w.tenants ns ≡ Some t → is_quota (quota_named w ns) quota ≡ names_quota quota t.namespace
  there ns t at = ap (λ r. is_quota (option_and_then (λ (t : Tenant). t.namespace.quota) r) quota) at

  is_there : (ns : Name) → is_quota (quota_named w ns) quota ≡ true → is_some (get w.tenants ns) ≡ true
  is_there ns h = by (get w.tenants ns) h
    where
      by : (r : Option Tenant) → is_quota (option_and_then (λ (t : Tenant). t.namespace.quota) r) quota ≡ true → is_some r ≡ true
      by None e = e
      by (Some t) e = refl

  module _ (held : QuotaUse) (right : (ns : Name) → holds_name held ns ≡ is_quota (quota_named w ns) quota) where
    pub naming_is : flat_map row_name (entries held.names) ≡ namespaces_naming w quota
    unfolding namespaces_naming
    naming_is = names_in_rows (entries held.names) ∙ ap (map (λ e. e.0)) (sym (entries-rows held.names))
        ∙ sym (all_found (get w.tenants) (entries (rows held.names)) (each_row names one_name (λ ns _. is_some (get w.tenants ns) ≡ true) (rows held.names)
        (λ ns row at. is_there ns (sym (right ns) ∙ ap is_some (sym (get-rows names held.names ns) ∙ at)))))
        ∙ ap (map (λ e. e.0)) (sym (filter_at_keys names one_name w.tenants (rows held.names) (λ _ t. names_quota quota t.namespace)
        (λ ns t at. sym (there ns t at) ∙ sym (right ns) ∙ ap is_some (sym (get-rows names held.names ns)))))

  module _ (nobody : (ns : Name) → is_quota (quota_named w ns) quota ≡ false) where
    pub naming_none : [] ≡ namespaces_naming w quota
    unfolding namespaces_naming
    naming_none = sym (ap (map (λ e. e.0)) (filter_none (λ e. names_quota quota e.1.namespace) (entries w.tenants)
        (each_row names one_name (λ _ t. names_quota quota t.namespace ≡ false) w.tenants (λ ns t at. sym (there ns t at) ∙ nobody ns))))

-- ---- whether there are any

any_name : (slots : List (Name × Option Unit)) → list_any (at_slot (λ _. true)) slots ≡ list_any (λ (ns : Name). true) (flat_map row_name slots)
any_name [] = refl
any_name ((ns, None) ∷ slots) = any_name slots
any_name ((ns, Some row) ∷ slots) = refl

any_kept : (p : Name × Tenant → Bool) (es : List (Name × Tenant)) → list_any (λ (ns : Name). true) (map (λ e. e.0) (filter p es)) ≡ list_any p es
any_kept p [] = refl
any_kept p (e ∷ es) =
    elim (p e) as (λ b. list_any (λ (ns : Name). true) (map (λ (x : Name × Tenant). x.0) (cond b (e ∷ filter p es) (filter p es))) ≡ (b || list_any p es)) [
      | true ↦ refl
      | false ↦ any_kept p es
    ]

pub named_if_any : (w : World) (quota : Name) (slots : List (Name × Option Unit)) → flat_map row_name slots ≡ namespaces_naming w quota →
    list_any (at_slot (λ _. true)) slots ≡ any_row (λ _ t. names_quota quota t.namespace) w.tenants
unfolding namespaces_naming any_row
named_if_any w quota slots is = any_name slots ∙ ap (list_any (λ (ns : Name). true)) is ∙ any_kept (λ e. names_quota quota e.1.namespace) (entries w.tenants)

-- ---- what they take

module _ (w : World) (quota : Name) (amount : Resources → ℕ) where
  abbrev counted : Name → Tenant → ℕ
  counted ns tenant = cond (names_quota quota tenant.namespace) (tenant_sum is_live amount tenant) 0

  not_counted : (ns : Name) (tenant : Tenant) → get w.tenants ns ≡ Some tenant → is_quota (quota_named w ns) quota ≡ false → counted ns tenant ≡ 0
  not_counted ns tenant at none = ap (λ b. cond b (tenant_sum is_live amount tenant) 0) (sym (there w quota ns tenant at) ∙ none)

  module _ (use_is : (tenant : Tenant) → amount (rows_use tenant.allocations) ≡ tenant_sum is_live amount tenant) (nothing : amount none ≡ 0)
      (held : ByName Unit) (right : (ns : Name) → is_some (get held ns) ≡ is_quota (quota_named w ns) quota) where
    at_name : (ns : Name) (x : Unit) → get held ns ≡ Some x → option_map_or (counted ns) (get w.tenants ns) 0 ≡ amount (use_in w.tenants ns)
    at_name ns x is = by (get w.tenants ns) refl
      where
        by : (r : Option Tenant) → get w.tenants ns ≡ r →
            option_map_or (counted ns) r 0 ≡ amount (option_map_or (λ (t : Tenant). rows_use t.allocations) r none)
        by None at = sym nothing
        by (Some tenant) at = ap (λ b. cond b (tenant_sum is_live amount tenant) 0) (sym (there w quota ns tenant at) ∙ sym (right ns) ∙ ap is_some is)
            ∙ sym (use_is tenant)

    -- a sum over all is the sum over those that name it
    taken : quota_sum w quota amount ≡ sum_by (λ e. amount (use_in w.tenants e.0)) (entries held)
    unfolding quota_sum
    taken = sum_at_keys names one_name counted w.tenants held
        (λ ns tenant at out. not_counted ns tenant at (sym (right ns) ∙ out))
        ∙ sum_same (λ e. option_map_or (counted e.0) (get w.tenants e.0) 0) (λ e. amount (use_in w.tenants e.0)) (entries held)
        (each_row names one_name (λ ns _. option_map_or (counted ns) (get w.tenants ns) 0 ≡ amount (use_in w.tenants ns)) held at_name)

-- ---- what is held at a quota, where it is right

module _ (w : World) (live : Live) (named : AreNamed w live) (quota : Name) where
  abbrev says : Option QuotaUse → Name → Bool
  says r ns = option_map_or (λ (held : QuotaUse). holds_name held ns) r false

  pub held_right : (held : QuotaUse) → row_at live.quotas.quotas quota ≡ Some held → (ns : Name) → holds_name held ns ≡ is_quota (quota_named w ns) quota
  held_right held is ns = sym (ap (λ r. says r ns) is) ∙ named.names quota ns

  pub none_held : row_at live.quotas.quotas quota ≡ None → (ns : Name) → is_quota (quota_named w ns) quota ≡ false
  none_held is ns = sym (named.names quota ns) ∙ ap (λ r. says r ns) is

  -- the slots are those of names, or there are none
  pub slots_are : (slots : List (Name × Option Unit)) → Some slots ≡ option_map (λ (held : QuotaUse). entries held.names) (row_at live.quotas.quotas quota) →
      flat_map row_name slots ≡ namespaces_naming w quota
  slots_are slots is = by (row_at live.quotas.quotas quota) refl is
    where
      by : (r : Option QuotaUse) → row_at live.quotas.quotas quota ≡ r → Some slots ≡ option_map (λ (held : QuotaUse). entries held.names) r →
          flat_map row_name slots ≡ namespaces_naming w quota
      by None at e = absurd (not_Some slots (sym e))
      by (Some held) at e = ap (λ r. flat_map row_name (unwrap_or r [])) e ∙ naming_is w quota held (held_right held at)

  pub no_slots_are : None ≡ option_map (λ (held : QuotaUse). entries held.names) (row_at live.quotas.quotas quota) → [] ≡ namespaces_naming w quota
  no_slots_are is = naming_none w quota (none_held (by (row_at live.quotas.quotas quota) is))
    where
      by : (r : Option QuotaUse) → None ≡ option_map (λ (held : QuotaUse). entries held.names) r → r ≡ None
      by None e = refl
      by (Some held) e = absurd (not_Some _ e)

  use_held : quota_use w quota ≡ names_use (use_in w.tenants) (names_at live.quotas quota)
  use_held = λ i. each_resource (λ r.
      taken w quota (quantity r) (λ t. quantity_of (λ r. live_sum (quantity r) t.allocations) r) (quantity_none r) (names_at live.quotas quota) there_held i)
    where
      there_held : (ns : Name) → is_some (get (names_at live.quotas quota) ns) ≡ is_quota (quota_named w ns) quota
      there_held ns = held_get live.quotas quota ns ∙ named.names quota ns

  -- the total that is kept is what they take, where that fits
  pub use_kept : IsCounted (quota_use w quota) → total_at live.quotas quota ≡ quota_use w quota
  use_kept counted = total_exact (total_at live.quotas quota) (quota_use w quota)
      (subst (IsTotal (total_at live.quotas quota)) (sym use_held) (named.totals quota)) counted
