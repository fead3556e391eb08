-- Release numbers and numbers of places, once such a step has settled.
use Rattle.std.specs.Prelude.{◌≡◌, Bool, true, false, ◌&&◌, ◌||◌, List, [], ◌∷◌, Option, Some, None, is_some, nat_lt, option_map}
use Rattle.std.proofs.Common.{refl, sym, ap, ◌∙◌}
use Rattle.std.proofs.Math.Bool.{and-true}
use Rattle.std.specs.Option.{option_map_or}
use Rattle.std.specs.List.{list_any}
use Rattle.std.specs.FinMap.{get}
use Rattle.ns_types.specs.declared.node.Class.{Class}
use Rattle.ns_types.specs.Settling.Releases.{released_classes, releases_quota, woken}
use Rattle.ns_types.specs.Settling.Settle.{after_quota_release, after_release, number_releases, settle, stamp}
use Rattle.ns_types.specs.State.Names.{Name, Key, has_name, same_name}
use Rattle.ns_types.specs.State.Rows.{World, PoolRows, QuotaRows}
use Rattle.ns_types.specs.State.Tables.{any_row, map_rows}
use Rattle.ns_types.specs.Steps.{greatest, is_pool_past_bound}
use Rattle.ns_types.proofs.Elements.{any_same}
use Rattle.ns_types.proofs.Lists.{left_none, not_both}
use Rattle.ns_types.proofs.Named.{names, one_name}
use Rattle.ns_types.proofs.TableRows.{any_row-alike}
use Rattle.ns_types.proofs.Tables.{none_of_any}
use Rattle.ns_types.proofs.Tests.{same_Some}
use Rattle.ns_release.proofs.Model.{wake_pools, wake_quotas}
use Rattle.ns_counters.specs.Bounds.{is_at_bound, quota_passes, room_passes}
use Rattle.ns_counters.proofs.Bounded.{any_row-either, any_row-mapped, any_chosen}
use Rattle.ns_applier.specs.Passing.{places_past}
use Rattle.ns_applier.specs.Releasing.{EndsAlone}
use Rattle.ns_applier.proofs.Ended.{pool_is, quota_is, quotas, rooms}

module _ (w x : World) (keys : List Key) (only : EndsAlone w x keys) where
  -- ---- quotas

  quotas_then : (settle w x).quotas ≡ map_rows (λ name q. after_quota_release (releases_quota w x name q) q) x.quotas
  unfolding settle stamp number_releases
  quotas_then = ap (map_rows (λ name q. after_quota_release (releases_quota w x name q) q)) (wake_quotas (woken w x) x)

  quota_past : (q : QuotaRows) → nat_lt greatest q.release ≡ false → (b : Bool) →
      nat_lt greatest (after_quota_release b q).release ≡ (b && is_at_bound q.release)
  quota_past q within true = refl
  quota_past q within false = within

  pub quotas_within : any_row (λ _ q. nat_lt greatest q.release) w.quotas ≡ false →
      any_row (λ _ q. nat_lt greatest q.release) (settle w x).quotas ≡ list_any (quota_passes w) (quotas w x keys only)
  quotas_within within = ap (any_row (λ _ q. nat_lt greatest q.release)) quotas_then
      ∙ any_row-mapped (λ _ q. nat_lt greatest q.release) (λ name q. after_quota_release (releases_quota w x name q) q) x.quotas
      ∙ ap (any_row (λ name q. nat_lt greatest (after_quota_release (releases_quota w x name q) q).release)) only.quotas
      ∙ any_row-alike names one_name _ (λ name q. has_name (quotas w x keys only) name && is_at_bound q.release) w.quotas (λ name q is.
      quota_past q (none_of_any one_name (λ _ q. nat_lt greatest q.release) w.quotas name q within is) (releases_quota w x name q)
      ∙ ap (λ b. b && is_at_bound q.release) (quota_is w x keys only name q is))
      ∙ any_chosen (λ name. name) (λ q. is_at_bound q.release) w.quotas (quotas w x keys only)

  -- ---- pools

  abbrev placed : PoolRows → Bool
  placed p = any_row (λ _ node. nat_lt greatest node.places) p.nodes

  pools_then : (settle w x).pools ≡ map_rows (λ name p. after_release (released_classes w x name p) p) x.pools
  unfolding settle stamp number_releases
  pools_then = ap (map_rows (λ name p. after_release (released_classes w x name p) p)) (wake_pools (woken w x) x)

  released_past : (p : PoolRows) → nat_lt greatest p.release ≡ false → (classes : List Class) →
      is_pool_past_bound (after_release classes p) ≡ ((list_any (λ _. true) classes && is_at_bound p.release) || placed p)
  released_past p within [] = ap (λ b. b || placed p) within
  released_past p within (class ∷ classes) = refl

  -- the pool was there, with its release number
  there : any_row (λ _ p. is_pool_past_bound p) w.pools ≡ false → (name : Name) (p : PoolRows) → get x.pools name ≡ Some p → nat_lt greatest p.release ≡ false
  there within name p at = by (get w.pools name) refl (sym (ap (option_map (λ (p : PoolRows). p.release)) at) ∙ only.releases name)
    where
      by : (o : Option PoolRows) → get w.pools name ≡ o → Some p.release ≡ option_map (λ (p : PoolRows). p.release) o → nat_lt greatest p.release ≡ false
      by None is e = not_both refl (ap is_some e)
      by (Some q) is e = ap (nat_lt greatest) (same_Some p.release q.release e)
          ∙ left_none _ _ (none_of_any one_name (λ _ p. is_pool_past_bound p) w.pools name q within is)

  pub pools_within : any_row (λ _ p. is_pool_past_bound p) w.pools ≡ false →
      any_row (λ _ p. is_pool_past_bound p) (settle w x).pools ≡ (list_any (room_passes w) (rooms w x keys only) || places_past x)
  pools_within within = ap (any_row (λ _ p. is_pool_past_bound p)) pools_then
      ∙ any_row-mapped (λ _ p. is_pool_past_bound p) (λ name p. after_release (released_classes w x name p) p) x.pools
      ∙ any_row-alike names one_name _ (λ name p. (list_any (λ r. same_name name r.0) (rooms w x keys only) && is_at_bound p.release) || placed p) x.pools
      (λ name p is. released_past p (there within name p is) (released_classes w x name p)
      ∙ ap (λ b. (b && is_at_bound p.release) || placed p) (pool_is w x keys only name (λ _. true) p is
      ∙ any_same _ (λ r. same_name name r.0) (λ r. and-true (same_name name r.0)) (rooms w x keys only)))
      ∙ any_row-either (λ name p. list_any (λ r. same_name name r.0) (rooms w x keys only) && is_at_bound p.release) (λ _ p. placed p) x.pools
      ∙ ap (λ b. b || places_past x) (any_chosen (λ r. r.0) (λ p. is_at_bound p.release) x.pools (rooms w x keys only)
      ∙ any_same _ (room_passes w) (λ r. by (get x.pools r.0) (get w.pools r.0) (only.releases r.0)) (rooms w x keys only))
    where
      release : (o : Option PoolRows) → option_map_or (λ (p : PoolRows). is_at_bound p.release) o false
          ≡ option_map_or is_at_bound (option_map (λ (p : PoolRows). p.release) o) false
      release None = refl
      release (Some p) = refl

      by : (o q : Option PoolRows) → option_map (λ (p : PoolRows). p.release) o ≡ option_map (λ (p : PoolRows). p.release) q →
          option_map_or (λ (p : PoolRows). is_at_bound p.release) o false ≡ option_map_or (λ (p : PoolRows). is_at_bound p.release) q false
      by o q e = release o ∙ ap (λ o. option_map_or is_at_bound o false) e ∙ sym (release q)
