-- A namespace that is apart, with its pools and its quotas, is a choice over whose border nothing reaches.
use Rattle.std.specs.Prelude.{◌≡◌, ℕ, Bool, true, false, not, T, List, [], ◌∷◌, Option, Some, None, ◌&&◌, ◌||◌, is_some, option_map}
use Rattle.std.proofs.Common.{refl, sym, ap, subst, ◌∙◌}
use Rattle.std.proofs.lemmas.Bool.{or_right}
use Rattle.std.specs.FinMap.{get}
use Rattle.std.specs.List.{list_any, list_all}
use Rattle.std.specs.Option.{option_map_or, option_and_then}
use Rattle.ns_types.specs.declared.evaluation.Evaluation.{Evaluation}
use Rattle.ns_types.specs.declared.records.Namespace.{Namespace}
use Rattle.ns_types.specs.Access.Sharing.{permits_by, permits, is_confined, namespace_at, intrudes, names_within, strays_from, stays_within, is_apart}
use Rattle.ns_types.specs.Asking.Admins.{names_pool}
use Rattle.ns_types.specs.State.Lists.{Each}
use Rattle.ns_types.specs.State.Names.{Name, Key, same_name, has_name, same_key, has_key}
use Rattle.ns_types.specs.State.Rows.{World, Tenant, is_open, is_held, evaluation_at}
use Rattle.ns_types.specs.Isolation.{Part, part_of}
use Rattle.ns_types.specs.State.Tables.{any_row}
use Rattle.ns_types.proofs.Lists.{not_both, left_none, right_none}
use Rattle.ns_types.proofs.Named.{one_name, one_number, same_name_is, same_name_refl, same_number_refl, first_of_both, second_of_both}
use Rattle.ns_types.proofs.Tables.{none_of_any}
use Rattle.ns_types.proofs.Tests.{not_Some, same_Some, is_no}
use Rattle.ns_audit.specs.Apart.{IsWith, IsApart, IsAtHome}
use Rattle.ns_audit.specs.Orderly.{IsAllowedTo, IsOrderly}
use Rattle.ns_audit.specs.Headline.{ApartIsFit}
use Rattle.ns_audit.proofs.Alone.Orderly.{turned_name}

-- ---- lists of names

-- who is in a list that no element of passes does not pass
pub among : (f : Name → Bool) (p : Name) (xs : List Name) → has_name xs p ≡ true → list_any f xs ≡ false → f p ≡ false
among f p [] has none = absurd (subst T (sym has) tt)
among f p (x ∷ xs) has none = by (λ e. among f p xs e (right_none (f x) _ none)) (same_name p x) refl has
  where
    by : (has_name xs p ≡ true → f p ≡ false) → (b : Bool) → same_name p x ≡ b → (b || has_name xs p) ≡ true → f p ≡ false
    by later true same e = ap f (same_name_is p x same) ∙ left_none (f x) _ none
    by later false _ e = later e

-- who is in a list that all elements of pass passes
pub one_of_all : (f : Name → Bool) (p : Name) (xs : List Name) → list_all f xs ≡ true → has_name xs p ≡ true → f p ≡ true
one_of_all f p [] all has = absurd (subst T (sym has) tt)
one_of_all f p (x ∷ xs) all has = by (λ e. one_of_all f p xs (second_of_both (f x) _ all) e) (same_name p x) refl has
  where
    by : (has_name xs p ≡ true → f p ≡ true) → (b : Bool) → same_name p x ≡ b → (b || has_name xs p) ≡ true → f p ≡ true
    by later true same e = ap f (same_name_is p x same) ∙ first_of_both (f x) _ all
    by later false _ e = later e

-- ---- what a record names

module _ (part : Part) (namespace : Namespace) (within : names_within part.pools part.quotas namespace ≡ true) where
  default_within : part.pools namespace.default_pool ≡ true
  default_within = first_of_both _ _ (first_of_both (part.pools namespace.default_pool && option_map_or (list_all part.pools) namespace.allowed true) _ within)

  allowed_within : option_map_or (list_all part.pools) namespace.allowed true ≡ true
  allowed_within = second_of_both (part.pools namespace.default_pool) _
      (first_of_both (part.pools namespace.default_pool && option_map_or (list_all part.pools) namespace.allowed true) _ within)

  quota_within : option_map_or part.quotas namespace.quota true ≡ true
  quota_within = second_of_both (part.pools namespace.default_pool && option_map_or (list_all part.pools) namespace.allowed true) _ within

  pub its_quota : (q : Name) → namespace.quota ≡ Some q → part.quotas q ≡ true
  its_quota q named = by namespace.quota named quota_within
    where
      by : (o : Option Name) → o ≡ Some q → option_map_or part.quotas o true ≡ true → part.quotas q ≡ true
      by None e all = absurd (not_Some _ e)
      by (Some r) e all = ap part.quotas (sym (same_Some r q e)) ∙ all

  -- each pool that it names, in its default or its list
  pub its_pool : (p : Name) → names_pool p namespace ≡ true → part.pools p ≡ true
  its_pool p names = by (same_name p namespace.default_pool) refl names
    where
      listed : (o : Option (List Name)) → option_map_or (list_all part.pools) o true ≡ true → option_map_or (λ allowed. has_name allowed p) o false ≡ true →
          part.pools p ≡ true
      listed None all has = absurd (subst T (sym has) tt)
      listed (Some allowed) all has = one_of_all part.pools p allowed all has

      by : (b : Bool) → same_name p namespace.default_pool ≡ b → (b || option_map_or (λ allowed. has_name allowed p) namespace.allowed false) ≡ true →
          part.pools p ≡ true
      by true same e = ap part.pools (same_name_is p namespace.default_pool same) ∙ default_within
      by false _ e = listed namespace.allowed allowed_within e

-- a confined namespace permits what it names
pub confined_names : (namespace : Namespace) (p : Name) → is_confined namespace ≡ true → permits namespace p ≡ true → names_pool p namespace ≡ true
confined_names namespace p confined permitted = by namespace.allowed confined permitted
  where
    by : (o : Option (List Name)) → is_some o ≡ true → permits_by o namespace p ≡ true →
        (same_name p namespace.default_pool || option_map_or (λ allowed. has_name allowed p) o false) ≡ true
    by None some e = absurd (subst T (sym some) tt)
    by (Some allowed) some e = e

-- ---- the sides of what namespaces name

module _ (w : World) (ns : Name) (pools quotas : List Name) (apart : is_apart w ns pools quotas ≡ true) where
  abbrev pub part : Part
  part = part_of ns pools quotas

  pub foreign : (k : Name) (x : Tenant) → get w.tenants k ≡ Some x → same_name ns k ≡ false → intrudes pools quotas x.namespace ≡ false
  unfolding is_apart
  foreign k x at differs = by (same_name k ns) (turned_name ns k differs)
      (none_of_any one_name (λ name other. not (same_name name ns) && intrudes pools quotas other.namespace) w.tenants k x
      (is_no _ (first_of_both _ _ apart)) at)
    where
      by : (b : Bool) → b ≡ false → (not b && intrudes pools quotas x.namespace) ≡ false → intrudes pools quotas x.namespace ≡ false
      by true e none = not_both refl e
      by false _ none = none

  -- the namespace itself
  stays : (k : Name) (x : Tenant) → get w.tenants k ≡ Some x → same_name ns k ≡ true → stays_within pools quotas x ≡ true
  unfolding is_apart
  stays k x at same = ap (λ (o : Option Tenant). option_map_or (stays_within pools quotas) o true) (sym (ap (get w.tenants) (same_name_is ns k same) ∙ at)) ∙
      second_of_both (not (any_row (λ name other. not (same_name name ns) && intrudes pools quotas other.namespace) w.tenants)) _ apart

  pub confined : (k : Name) (x : Tenant) → get w.tenants k ≡ Some x → same_name ns k ≡ true → is_confined x.namespace ≡ true
  confined k x at same = first_of_both _ _ (first_of_both (is_confined x.namespace && names_within part.pools part.quotas x.namespace) _ (stays k x at same))

  pub within : (k : Name) (x : Tenant) → get w.tenants k ≡ Some x → same_name ns k ≡ true → names_within part.pools part.quotas x.namespace ≡ true
  within k x at same = second_of_both (is_confined x.namespace) _
      (first_of_both (is_confined x.namespace && names_within part.pools part.quotas x.namespace) _ (stays k x at same))

  pub record_within : (k : Name) (namespace : Namespace) → same_name ns k ≡ true →
      namespace_at w k ≡ Some namespace → names_within part.pools part.quotas namespace ≡ true
  record_within k namespace same is = by (get w.tenants k) refl is
    where
      by : (x : Option Tenant) → get w.tenants k ≡ x → option_map (λ (t : Tenant). t.namespace) x ≡ Some namespace →
          names_within part.pools part.quotas namespace ≡ true
      by None at is = absurd (not_Some _ is)
      by (Some x) at is = ap (names_within part.pools part.quotas) (sym (same_Some _ _ is)) ∙ within k x at same

  pub home : (k : Name) (x : Tenant) → get w.tenants k ≡ Some x → same_name ns k ≡ true → strays_from pools x ≡ false
  home k x at same = is_no _ (second_of_both (is_confined x.namespace && names_within part.pools part.quotas x.namespace) _ (stays k x at same))

  pub foreign_permits : (k : Name) (x : Tenant) (p : Name) → get w.tenants k ≡ Some x → same_name ns k ≡ false →
      has_name pools p ≡ true → permits x.namespace p ≡ false
  foreign_permits k x p at differs has = among (permits x.namespace) p pools has
      (left_none (list_any (permits x.namespace) pools) _
      (left_none (list_any (permits x.namespace) pools || has_name pools x.namespace.default_pool) _ (foreign k x at differs)))

  foreign_default : (k : Name) (x : Tenant) → get w.tenants k ≡ Some x → same_name ns k ≡ false → has_name pools x.namespace.default_pool ≡ false
  foreign_default k x at differs = right_none (list_any (permits x.namespace) pools) _
      (left_none (list_any (permits x.namespace) pools || has_name pools x.namespace.default_pool) _ (foreign k x at differs))

  foreign_names : (k : Name) (x : Tenant) (p : Name) → get w.tenants k ≡ Some x → same_name ns k ≡ false → has_name pools p ≡ true →
      names_pool p x.namespace ≡ true → ⊥
  foreign_names k x p at differs has names = by (same_name p x.namespace.default_pool) refl x.namespace.allowed refl names
    where
      by : (b : Bool) → same_name p x.namespace.default_pool ≡ b → (o : Option (List Name)) → x.namespace.allowed ≡ o →
          (b || option_map_or (λ allowed. has_name allowed p) o false) ≡ true → ⊥
      by true same o is e = not_both (ap (has_name pools) (sym (same_name_is p x.namespace.default_pool same)) ∙ has) (foreign_default k x at differs)
      by false _ None is e = absurd (subst T (sym e) tt)
      by false _ (Some allowed) is e = not_both (ap (λ o. permits_by o x.namespace p) is ∙ or_right (same_name p x.namespace.default_pool) _ e)
          (foreign_permits k x p at differs has)

  side : (k : Name) (x : Tenant) (p : Name) → get w.tenants k ≡ Some x → (same_name ns k ≡ true → has_name pools p ≡ true)
      → (has_name pools p ≡ true → same_name ns k ≡ false → ⊥) → has_name pools p ≡ same_name ns k
  side k x p at own other = by (same_name ns k) refl
    where
      none : (b : Bool) → has_name pools p ≡ b → same_name ns k ≡ false → b ≡ false
      none true has differs = absurd (other has differs)
      none false has differs = refl

      by : (b : Bool) → same_name ns k ≡ b → has_name pools p ≡ b
      by true same = own same
      by false differs = none (has_name pools p) refl differs

  pub named_side : (k : Name) (x : Tenant) (p : Name) → get w.tenants k ≡ Some x → names_pool p x.namespace ≡ true → has_name pools p ≡ same_name ns k
  named_side k x p at names = side k x p at (λ same. its_pool part x.namespace (within k x at same) p names)
      (λ has differs. foreign_names k x p at differs has names)

  pub pool_side : (k : Name) (x : Tenant) (p : Name) → get w.tenants k ≡ Some x → permits x.namespace p ≡ true → has_name pools p ≡ same_name ns k
  pool_side k x p at allowed = side k x p at
      (λ same. its_pool part x.namespace (within k x at same) p (confined_names x.namespace p (confined k x at same) allowed))
      (λ has differs. not_both allowed (foreign_permits k x p at differs has))

  pub quota_side : (k : Name) (x : Tenant) (q : Name) → get w.tenants k ≡ Some x → x.namespace.quota ≡ Some q → has_name quotas q ≡ same_name ns k
  quota_side k x q at named = by (same_name ns k) refl
    where
      by : (b : Bool) → same_name ns k ≡ b → has_name quotas q ≡ b
      by true same = its_quota part x.namespace (within k x at same) q named
      by false differs = ap (λ o. option_map_or (has_name quotas) o false) (sym named) ∙
          right_none (list_any (permits x.namespace) pools || has_name pools x.namespace.default_pool) _ (foreign k x at differs)

  -- ---- it is apart

  module _ (o : IsOrderly w) where
    with_its : (k : Name) (x : Tenant) → get w.tenants k ≡ Some x → (pool : Name) (quota : Option Name) → IsAllowedTo x.namespace pool quota →
        IsWith part k pool quota
    with_its k x at pool quota a = record {
      pool_with = pool_side k x pool at a.permitted;
      quota_with = λ q e. quota_side k x q at (a.its_quota q e);
    }

    blocked_with : (key : Key) (e : Evaluation) → has_key w.blocked key ≡ true → evaluation_at w key ≡ Some e → IsWith part key.0 e.pool e.quota
    blocked_with key e has at = by (get w.tenants key.0) refl at
      where
        by : (x : Option Tenant) → get w.tenants key.0 ≡ x → option_and_then (λ t. get t.evaluations key.1) x ≡ Some e → IsWith part key.0 e.pool e.quota
        by None x_is at = absurd (not_Some _ at)
        by (Some x) x_is at =
            let b = o.blocked key.0 key.1 has in
            let same : x ≡ b.tenant = same_Some _ _ (sym x_is ∙ b.is_tenant) in
            with_its key.0 x x_is e.pool e.quota ((o.tenant key.0 x x_is).evaluation key.1 e at
            (ap (λ e. is_open e.status) (same_Some _ _ (sym at ∙ ap (λ (t : Tenant). get t.evaluations key.1) same ∙ b.entry.is_row)) ∙
            ap is_open b.entry.is_blocked))

    each_blocked : (keys : List Key) → ((key : Key) → has_key keys key ≡ true → has_key w.blocked key ≡ true) →
        Each (λ key. (e : Evaluation) → evaluation_at w key ≡ Some e → IsWith part key.0 e.pool e.quota) keys
    each_blocked [] h = tt
    each_blocked (k ∷ ks) h = (
      (λ e at. blocked_with k e (h k (ap (λ b. b || has_key ks k) (λ i. same_name_refl k.0 i && same_number_refl k.1 i))) at),
      each_blocked ks (λ key has. h key (or_right (same_key key k) _ has)),
    )

    pub border : IsApart part w
    border = record {
      quota = quota_side;
      pool = pool_side;
      blocked = each_blocked w.blocked (λ key has. has);
      allocation = λ k x n a at row live. pool_side k x a.pool at ((o.tenant k x at).allocation n a row live);
      job = λ k x id j at row. pool_side k x j.document.pool at ((o.tenant k x at).job id j row);
      held = λ k x n worker e at has row. pool_side k x e.pool at (let p = (o.tenant k x at).held n worker has in
          ((o.tenant k x at).evaluation worker.evaluation e row (ap (λ e. is_open e.status) (same_Some _ _ (sym row ∙ p.is_row)) ∙
          ap is_open p.is_pending)).permitted);
      kept = λ k x n worker kept at has holds. let y = (o.tenant k x at).snapshot n worker kept has holds in
          record { namespace = y.namespace; with = with_its k x at kept.pool _ y.allowed };
    }

    -- open evaluations too, whether a list has them or not
    pub open_side : (k : Name) (x : Tenant) (n : ℕ) (e : Evaluation) → get w.tenants k ≡ Some x → get x.evaluations n ≡ Some e → is_open e.status ≡ true →
        has_name pools e.pool ≡ same_name ns k
    open_side k x n e at row open_ = pool_side k x e.pool at ((o.tenant k x at).evaluation n e row open_).permitted

  pub at_home : IsAtHome part w
  at_home k x n a at row held own = by (has_name pools a.pool) (is_held a.client) held
      (none_of_any one_number (λ _ a. is_held a.client && not (has_name pools a.pool)) x.allocations n a (right_none _ _ (home k x at own)) row)
    where
      by : (b h : Bool) → h ≡ true → (h && not b) ≡ false → b ≡ true
      by true h e lacks = refl
      by false h e lacks = not_both (ap (λ h. h && true) e) lacks

pub fit_apart : ApartIsFit
fit_apart ns pools quotas s steady apart = record {
  apart = border s.world ns pools quotas apart steady.orderly;
  at_home = at_home s.world ns pools quotas apart;
  within = steady.within;
}
