-- Names in lists, and what follows for a namespace that has its pools and its quotas to itself.
use Rattle.std.specs.Prelude.{◌≡◌, ◌≢◌, Bool, true, false, not, ◌&&◌, ◌||◌, List, Option, Some, None, is_some}
use Rattle.std.proofs.Common.{refl, sym, ap, ◌∙◌, ◌⊎◌, inl, inr}
use Rattle.std.specs.Cmp.{eq_by_cmp_equiv}
use Rattle.std.specs.List.{Contains}
use Rattle.std.specs.Option.{option_map_or}
use Rattle.ns_types.specs.declared.snapshot.Snapshot.{Snapshot}
use Rattle.ns_types.specs.State.Names.{Name, same_name, has_name}
use Rattle.ns_types.specs.State.Rows.{is_open, is_held}
use Rattle.ns_types.specs.State.Tables.{any_row}
use Rattle.ns_types.specs.Access.Sharing.{permits, permits_by}
use Rattle.std.proofs.lemmas.Bool.{or_right}
use Rattle.std.proofs.lemmas.Map.Views.{list_any-from_Contains, Contains-from_any}
use Rattle.ns_types.proofs.Tests.{either_of, is_yes}
use Rattle.ns_types.proofs.Lists.{not_both, left_none, right_none}
use Rattle.ns_types.proofs.Named.{names, same_name_is, same_name_refl, one_number}
use Rattle.ns_types.proofs.Tables.{none_of_any}
use Rattle.ns_audit.proofs.Alone.Bordering.{confined, home, pool_side, foreign_permits, quota_side}
use Rattle.ns_laws.specs.Sharing as law

-- ---- names in lists

pub found_in : (xs : List Name) (name : Name) → has_name xs name ≡ true → Contains xs name
found_in xs name e = Contains-from_any same_name_is name xs e

pub has_contained : (xs : List Name) (name : Name) → Contains xs name → has_name xs name ≡ true
has_contained xs name h = list_any-from_Contains (eq_by_cmp_equiv names) name xs h

-- ---- permitted pools

pub confined_to_its_pools : law.ConfinedToItsPools
confined_to_its_pools namespace allowed pool is = (to, from)
  where
    meaning : permits namespace pool ≡ (same_name pool namespace.default_pool || has_name allowed pool)
    meaning = ap (λ a. permits_by a namespace pool) is

    to : permits namespace pool ≡ true → (pool ≡ namespace.default_pool) ⊎ Contains allowed pool
    to e = by (either_of (same_name pool namespace.default_pool) (has_name allowed pool) (sym meaning ∙ e))
      where
        by : (same_name pool namespace.default_pool ≡ true) ⊎ (has_name allowed pool ≡ true) → (pool ≡ namespace.default_pool) ⊎ Contains allowed pool
        by (inl f) = inl (same_name_is pool namespace.default_pool f)
        by (inr f) = inr (found_in allowed pool f)

    from : (pool ≡ namespace.default_pool) ⊎ Contains allowed pool → permits namespace pool ≡ true
    from (inl f) = meaning ∙ ap (λ b. b || has_name allowed pool) (ap (same_name pool) (sym f) ∙ same_name_refl pool)
    from (inr f) = meaning ∙ or_right (same_name pool namespace.default_pool) (has_name allowed pool) (has_contained allowed pool f)

pub else_all_but_denied : law.ElseAllButDenied
else_all_but_denied namespace pool is = (to, from)
  where
    meaning : permits namespace pool ≡ not (has_name namespace.denied pool)
    meaning = ap (λ a. permits_by a namespace pool) is

    to : permits namespace pool ≡ true → Contains namespace.denied pool → ⊥
    to e h = not_both (sym meaning ∙ e) (ap not (has_contained namespace.denied pool h))

    from : (Contains namespace.denied pool → ⊥) → permits namespace pool ≡ true
    from absent = by (has_name namespace.denied pool) refl
      where
        by : (b : Bool) → has_name namespace.denied pool ≡ b → permits namespace pool ≡ true
        by true e = absurd (absent (found_in namespace.denied pool e))
        by false e = meaning ∙ ap not e

-- ---- what a namespace has to itself

pub other_name : (a b : Name) → b ≢ a → same_name a b ≡ false
other_name a b ne = by (same_name a b) refl
  where
    by : (c : Bool) → same_name a b ≡ c → same_name a b ≡ false
    by true e = absurd (ne (sym (same_name_is a b e)))
    by false e = e

pub apart_is_confined : law.ApartIsConfined
apart_is_confined w ns pools quotas t apart is = by t.namespace.allowed refl (confined w ns pools quotas apart ns t is (same_name_refl ns))
  where
    by : (a : Option (List Name)) → t.namespace.allowed ≡ a → is_some t.namespace.allowed ≡ true → (allowed : List Name) × (t.namespace.allowed ≡ Some allowed)
    by None e some = not_both some (ap is_some e)
    by (Some allowed) e some = (allowed, e)

pub apart_uses_its_pools : law.ApartUsesItsPools
apart_uses_its_pools w ns pools quotas t pool apart is may =
    found_in pools pool (pool_side w ns pools quotas apart ns t pool is may ∙ same_name_refl ns)

pub apart_pools_are_its_own : law.ApartPoolsAreItsOwn
apart_pools_are_its_own w ns other pools quotas o pool apart there ne has =
    foreign_permits w ns pools quotas apart other o pool there (other_name ns other ne) (has_contained pools pool has)

pub apart_names_its_quotas : law.ApartNamesItsQuotas
apart_names_its_quotas w ns pools quotas t quota apart is named =
    found_in quotas quota (quota_side w ns pools quotas apart ns t quota is named ∙ same_name_refl ns)

pub apart_quotas_are_its_own : law.ApartQuotasAreItsOwn
apart_quotas_are_its_own w ns other pools quotas o quota apart there ne has named =
    not_both (has_contained quotas quota has) (quota_side w ns pools quotas apart other o quota there named ∙ other_name ns other ne)

-- ---- what it keeps

both_are : (a b : Bool) → (a && not b) ≡ false → a ≡ true → b ≡ true
both_are true b e f = is_yes b e
both_are false b e f = not_both f refl

pub apart_keeps_to_its_pools : law.ApartKeepsToItsPools
apart_keeps_to_its_pools w ns pools quotas t apart is =
    let open_ones = any_row (λ _ x. is_open x.status && not (has_name pools x.pool)) t.evaluations in
    let snapshots = any_row (λ _ worker. option_map_or (λ (kept : Snapshot). not (has_name pools kept.pool)) worker.kept false) t.workers in
    let held = any_row (λ _ a. is_held a.client && not (has_name pools a.pool)) t.allocations in
    let none : (open_ones || snapshots || held) ≡ false = home w ns pools quotas apart ns t is (same_name_refl ns) in
    let first_two : (open_ones || snapshots) ≡ false = left_none (open_ones || snapshots) held none in record {
      evaluation = λ n x found is_one. found_in pools x.pool (both_are (is_open x.status) (has_name pools x.pool)
          (none_of_any one_number (λ _ x. is_open x.status && not (has_name pools x.pool)) t.evaluations n x (left_none open_ones snapshots first_two)
          found) is_one);
      snapshot = λ n worker kept found keeps. found_in pools kept.pool (is_yes (has_name pools kept.pool)
          (ap (λ (o : Option Snapshot). option_map_or (λ (kept : Snapshot). not (has_name pools kept.pool)) o false) (sym keeps)
          ∙ none_of_any one_number (λ _ worker. option_map_or (λ (kept : Snapshot). not (has_name pools kept.pool)) worker.kept false) t.workers n worker
          (right_none open_ones snapshots first_two) found));
      allocation = λ n a found is_one. found_in pools a.pool (both_are (is_held a.client) (has_name pools a.pool)
          (none_of_any one_number (λ _ a. is_held a.client && not (has_name pools a.pool)) t.allocations n a
          (right_none (open_ones || snapshots) held none) found) is_one);
    }
