-- What chosen owners use together is used by chosen namespaces alone.
use Rattle.std.specs.Prelude.{◌≡◌, ℕ, ◌+◌, Bool, true, false, cond, T, List, [], ◌∷◌, Option, Some, None, ◌&&◌, fold, sum_by}
use Rattle.std.proofs.Common.{refl, sym, ap, subst, ◌∙◌}
use Rattle.std.specs.Option.{option_map_or}
use Rattle.std.specs.FinMap.{get, entries}
use Rattle.ns_types.specs.State.Resources.{each_resource, quantity}
use Rattle.ns_types.specs.declared.allocation.Allocation.{Allocation}
use Rattle.ns_types.specs.declared.resources.Resources.{Resources}
use Rattle.ns_types.specs.Isolation.{Part, alone_in}
use Rattle.ns_types.specs.State.Lists.{Each}
use Rattle.ns_types.specs.State.Names.{Name, same_name}
use Rattle.ns_types.specs.State.Rows.{World, Tenant, is_live, is_live_on}
use Rattle.ns_types.specs.State.Sums.{names_quota, tenant_sum, quota_sum, quota_use, node_sum, node_load}
use Rattle.ns_types.proofs.Lists.{not_both}
use Rattle.ns_types.proofs.Named.{names, one_name, numbers, one_number, same_name_is}
use Rattle.ns_types.proofs.Tables.{each_row, sum-retain}

-- live allocations stand on pools of their side
abbrev pub StandsApart : Part → World → Type 0
StandsApart part w = (ns : Name) (t : Tenant) (n : ℕ) (a : Allocation) → get w.tenants ns ≡ Some t → get t.allocations n ≡ Some a → is_live a ≡ true →
    part.pools a.pool ≡ part.spaces ns

-- namespaces name quotas of their side
abbrev pub NamesApart : Part → World → Type 0
NamesApart part w = (ns : Name) (t : Tenant) (q : Name) → get w.tenants ns ≡ Some t → t.namespace.quota ≡ Some q → part.quotas q ≡ part.spaces ns

module _ (part : Part) (w : World) where
  -- whoever names a chosen quota is chosen
  pub names_own : NamesApart part w → (q ns : Name) (t : Tenant) → part.quotas q ≡ true → get w.tenants ns ≡ Some t → names_quota q t.namespace ≡ true →
      part.spaces ns ≡ true
  names_own apart q ns t mine is e = by t.namespace.quota refl e
    where
      by : (r : Option Name) → t.namespace.quota ≡ r → option_map_or (same_name q) r false ≡ true → part.spaces ns ≡ true
      by None at e = absurd (subst T (sym e) tt)
      by (Some r) at e = sym (apart ns t r is at) ∙ ap part.quotas (sym (same_name_is q r e)) ∙ mine

  pub names_none : NamesApart part w → (q ns : Name) (t : Tenant) → part.quotas q ≡ true → get w.tenants ns ≡ Some t → part.spaces ns ≡ false →
      names_quota q t.namespace ≡ false
  names_none apart q ns t mine is other = by (names_quota q t.namespace) refl
    where
      by : (b : Bool) → names_quota q t.namespace ≡ b → b ≡ false
      by true e = not_both (names_own apart q ns t mine is e) other
      by false e = refl

  quota_sum_alone : NamesApart part w → (q : Name) → part.quotas q ≡ true → (amount : Resources → ℕ) →
      quota_sum w q amount ≡ quota_sum (alone_in part w) q amount
  unfolding quota_sum
  quota_sum_alone apart q mine amount = sum-retain names one_name (λ ns t. cond (names_quota q t.namespace) (tenant_sum is_live amount t) 0)
      w.tenants part.spaces
      (λ ns t is other. ap (λ b. cond b (tenant_sum is_live amount t) 0) (names_none apart q ns t mine is other))

  pub quota_use_alone : NamesApart part w → (q : Name) → part.quotas q ≡ true → quota_use (alone_in part w) q ≡ quota_use w q
  quota_use_alone apart q mine = λ i. each_resource (λ r. sym (quota_sum_alone apart q mine (quantity r)) i)

  -- whoever is live on a chosen pool is chosen
  pub on_own : StandsApart part w → (pool node ns : Name) (t : Tenant) (n : ℕ) (a : Allocation) → part.pools pool ≡ true → get w.tenants ns ≡ Some t →
      get t.allocations n ≡ Some a → is_live_on pool node a ≡ true → part.spaces ns ≡ true
  on_own apart pool node ns t n a mine is at e = by (is_live a) refl (same_name pool a.pool) refl e
    where
      by : (l : Bool) → is_live a ≡ l → (s : Bool) → same_name pool a.pool ≡ s → (l && (s && same_name node a.node)) ≡ true → part.spaces ns ≡ true
      by false _ s _ e = absurd (subst T (sym e) tt)
      by true live false _ e = absurd (subst T (sym e) tt)
      by true live true same e = sym (apart ns t n a is at live) ∙ ap part.pools (sym (same_name_is pool a.pool same)) ∙ mine

  pub on_none : StandsApart part w → (pool node ns : Name) (t : Tenant) (n : ℕ) (a : Allocation) → part.pools pool ≡ true → get w.tenants ns ≡ Some t →
      part.spaces ns ≡ false → get t.allocations n ≡ Some a → is_live_on pool node a ≡ false
  on_none apart pool node ns t n a mine is other at = by (is_live_on pool node a) refl
    where
      by : (b : Bool) → is_live_on pool node a ≡ b → b ≡ false
      by true e = not_both (on_own apart pool node ns t n a mine is at e) other
      by false e = refl

  node_sum_alone : StandsApart part w → (pool node : Name) → part.pools pool ≡ true → (amount : Resources → ℕ) →
      node_sum w pool node amount ≡ node_sum (alone_in part w) pool node amount
  unfolding node_sum
  node_sum_alone apart pool node mine amount = sum-retain names one_name (λ ns t. tenant_sum (is_live_on pool node) amount t) w.tenants part.spaces
      (λ ns t is other. none ns t is other)
    where
      zero_sum : (es : List (ℕ × Allocation)) → Each (λ e. is_live_on pool node e.1 ≡ false) es →
          sum_by (λ e. cond (is_live_on pool node e.1) (amount e.1.size) 0) es ≡ 0
      zero_sum [] h = refl
      zero_sum (e ∷ es) h = ap (λ b. fold (λ a e. a + cond (is_live_on pool node e.1) (amount e.1.size) 0) (0 + cond b (amount e.1.size) 0) es) h.0 ∙
          zero_sum es h.1

      none : (ns : Name) (t : Tenant) → get w.tenants ns ≡ Some t → part.spaces ns ≡ false → tenant_sum (is_live_on pool node) amount t ≡ 0
      none ns t is other = zero_sum (entries t.allocations)
          (each_row numbers one_number (λ n a. is_live_on pool node a ≡ false) t.allocations (λ n a at. on_none apart pool node ns t n a mine is other at))

  pub node_load_alone : StandsApart part w → (pool node : Name) → part.pools pool ≡ true → node_load (alone_in part w) pool node ≡ node_load w pool node
  node_load_alone apart pool node mine = λ i. each_resource (λ r. sym (node_sum_alone apart pool node mine (quantity r)) i)

-- the quota that a namespace names is of its side
pub its_quota : (part : Part) (w : World) → NamesApart part w → (ns : Name) (t : Tenant) (q : Name) → get w.tenants ns ≡ Some t →
    names_quota q t.namespace ≡ true → part.quotas q ≡ part.spaces ns
its_quota part w apart ns t q is named = by t.namespace.quota refl named
  where
    by : (r : Option Name) → t.namespace.quota ≡ r → option_map_or (same_name q) r false ≡ true → part.quotas q ≡ part.spaces ns
    by None at e = absurd (subst T (sym e) tt)
    by (Some r) at e = ap part.quotas (same_name_is q r e) ∙ apart ns t r is at
