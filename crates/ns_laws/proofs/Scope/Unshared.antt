-- What the server says of a namespace's pools, and of what it shares.
use Rattle.std.specs.Prelude.{◌≡◌, ◌≢◌, Bool, true, false, not, ◌&&◌, ◌||◌, List, [], ◌∷◌, Option, Some, None, is_some, option_map}
use Rattle.std.proofs.Common.{refl, sym, ap, ◌∙◌}
use Rattle.std.proofs.lemmas.Bool.{or_right}
use Rattle.std.specs.FinMap.{get}
use Rattle.std.specs.List.{list_any}
use Rattle.std.specs.Option.{option_map_or}
use Rattle.ns_types.specs.declared.records.Namespace.{Namespace}
use Rattle.ns_types.specs.Access.Sharing.{permits, permits_by, is_confined, overlaps, pools_of, shares, shares_with_any}
use Rattle.ns_types.specs.State.Names.{Name, same_name, has_name}
use Rattle.ns_types.specs.State.Rows.{World, Tenant}
use Rattle.ns_types.specs.State.Sums.{names_quota}
use Rattle.ns_types.specs.State.Tables.{any_row}
use Rattle.ns_types.proofs.Lists.{not_both, left_none, right_none}
use Rattle.ns_types.proofs.Named.{names, one_name, same_name_is, same_name_refl}
use Rattle.ns_types.proofs.Tables.{any_row-none, none_of_any}
use Rattle.ns_types.proofs.Tests.{is_yes}
use Rattle.ns_audit.proofs.Alone.Bordering.{among}
use Rattle.ns_laws.specs.Sharing as law
use Rattle.ns_laws.proofs.Scope.Sharing.{other_name}

-- ---- the pools that a namespace may use

pub has_pool_if_permitted : law.HasPoolIfPermitted
has_pool_if_permitted w ns pool = (to (get w.tenants ns) refl, from)
  where
    Permitted : Type 0
    Permitted = (t : Tenant) × (get w.tenants ns ≡ Some t) × (permits t.namespace pool ≡ true)

    said : Option Tenant → Bool
    said o = option_map_or (λ namespace. permits namespace pool) (option_map (λ t. t.namespace) o) false

    to : (o : Option Tenant) → get w.tenants ns ≡ o → said (get w.tenants ns) ≡ true → Permitted
    to None is e = not_both e (ap said is)
    to (Some t) is e = (t, is, sym (ap said is) ∙ e)

    from : Permitted → said (get w.tenants ns) ≡ true
    from there = ap said there.1 ∙ there.2

-- ---- a list that no element of passes

none_pass : (f : Name → Bool) (xs : List Name) → ((p : Name) → has_name xs p ≡ true → f p ≡ false) → list_any f xs ≡ false
none_pass f [] none = refl
none_pass f (x ∷ xs) none = ap (λ b. b || list_any f xs) (none x (ap (λ b. b || has_name xs x) (same_name_refl x)))
    ∙ none_pass f xs (λ p has. none p (or_right (same_name p x) (has_name xs p) has))

-- ---- the pools of a confined namespace

listed : (namespace : Namespace) (pool : Name) (a : Option (List Name)) → is_some a ≡ true →
    has_name (option_map_or (λ allowed. namespace.default_pool ∷ allowed) a []) pool ≡ permits_by a namespace pool
listed namespace pool None some = not_both some refl
listed namespace pool (Some allowed) some = refl

-- ---- a namespace that does not share

pub absent_shares : law.AbsentShares
unfolding shares
absent_shares w ns is = ap (λ (o : Option Tenant). option_map_or (shares_with_any w ns) o true) is

module _ (w : World) (ns : Name) (t : Tenant) where
  abbrev overlap : Name → Tenant → Bool
  overlap name other = not (same_name name ns) && overlaps t.namespace other.namespace

  both_false : (a b : Bool) → a ≡ false → b ≡ false → (a || b) ≡ false
  both_false a b e f = ap (λ x. x || b) e ∙ f

  alone : (not (is_confined t.namespace) || any_row overlap w.tenants) ≡ false → law.UsesAlone w ns t
  alone none = record {
    confined = its_list t.namespace.allowed refl confined;
    pools = λ other o pool there ne may. among (permits o.namespace) pool (pools_of t.namespace)
        (listed t.namespace pool t.namespace.allowed confined ∙ may)
        (left_none (list_any (permits o.namespace) (pools_of t.namespace)) (quota_of o) (apart other o there ne));
    quota = λ other o quota there ne named owns. not_both (ap (λ (q : Option Name). option_map_or (same_name quota) q false) owns ∙ same_name_refl quota)
        (sym (ap (λ (q : Option Name). option_map_or (λ quota. names_quota quota o.namespace) q false) named)
        ∙ right_none (list_any (permits o.namespace) (pools_of t.namespace)) (quota_of o) (apart other o there ne));
  }
    where
      confined : is_some t.namespace.allowed ≡ true
      confined = is_yes _ (left_none (not (is_confined t.namespace)) (any_row overlap w.tenants) none)

      its_list : (a : Option (List Name)) → t.namespace.allowed ≡ a → is_some t.namespace.allowed ≡ true →
          (allowed : List Name) × (t.namespace.allowed ≡ Some allowed)
      its_list None is some = not_both some (ap is_some is)
      its_list (Some allowed) is some = (allowed, is)

      quota_of : Tenant → Bool
      quota_of o = option_map_or (λ quota. names_quota quota o.namespace) t.namespace.quota false

      apart : (other : Name) (o : Tenant) → get w.tenants other ≡ Some o → other ≢ ns → overlaps t.namespace o.namespace ≡ false
      apart other o there ne = by (same_name other ns) (other_name other ns (λ e. ne (sym e)))
          (none_of_any one_name overlap w.tenants other o (right_none (not (is_confined t.namespace)) (any_row overlap w.tenants) none) there)
        where
          by : (b : Bool) → b ≡ false → (not b && overlaps t.namespace o.namespace) ≡ false → overlaps t.namespace o.namespace ≡ false
          by true e none = not_both refl e
          by false e none = none

  shares_not : law.UsesAlone w ns t → (not (is_confined t.namespace) || any_row overlap w.tenants) ≡ false
  shares_not uses = both_false (not (is_confined t.namespace)) (any_row overlap w.tenants) (ap (λ (a : Option (List Name)). not (is_some a)) uses.confined.1)
      (any_row-none names one_name overlap w.tenants (λ other o there. by other o there (same_name other ns) refl))
    where
      some : is_some t.namespace.allowed ≡ true
      some = ap is_some uses.confined.1

      no_pool : (other : Name) (o : Tenant) → get w.tenants other ≡ Some o → other ≢ ns → list_any (permits o.namespace) (pools_of t.namespace) ≡ false
      no_pool other o there ne = none_pass (permits o.namespace) (pools_of t.namespace)
          (λ pool has. uses.pools other o pool there ne (sym (listed t.namespace pool t.namespace.allowed some) ∙ has))

      no_quota : (other : Name) (o : Tenant) → get w.tenants other ≡ Some o → other ≢ ns → (q : Option Name) → t.namespace.quota ≡ q →
          option_map_or (λ quota. names_quota quota o.namespace) q false ≡ false
      no_quota other o there ne None is = refl
      no_quota other o there ne (Some quota) is = named o.namespace.quota refl
        where
          same : (r : Name) → o.namespace.quota ≡ Some r → (b : Bool) → same_name quota r ≡ b → b ≡ false
          same r owns true e = absurd (uses.quota other o quota there ne is (owns ∙ ap Some (sym (same_name_is quota r e))))
          same r owns false e = refl

          named : (r : Option Name) → o.namespace.quota ≡ r → option_map_or (same_name quota) r false ≡ false
          named None owns = refl
          named (Some r) owns = same r owns (same_name quota r) refl

      by : (other : Name) (o : Tenant) → get w.tenants other ≡ Some o → (b : Bool) → same_name other ns ≡ b →
          (not b && overlaps t.namespace o.namespace) ≡ false
      by other o there true e = refl
      by other o there false e = both_false (list_any (permits o.namespace) (pools_of t.namespace)) _ (no_pool other o there ne)
          (no_quota other o there ne t.namespace.quota refl)
        where
          ne : other ≢ ns
          ne is = not_both (ap (λ x. same_name x ns) is ∙ same_name_refl ns) e

pub shares_unless_alone : law.SharesUnlessAlone
unfolding shares
shares_unless_alone w ns t is = (
  λ e. alone w ns t (sym (ap (λ (o : Option Tenant). option_map_or (shares_with_any w ns) o true) is) ∙ e),
  λ uses. ap (λ (o : Option Tenant). option_map_or (shares_with_any w ns) o true) is ∙ shares_not w ns t uses,
)
