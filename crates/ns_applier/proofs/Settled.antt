-- The law: the counters that such a step passes, part by part.
use Rattle.std.specs.Prelude.{◌≡◌, Bool, true, false, List, [], ◌∷◌, ◌&&◌, ◌||◌, if◌then◌else◌, Option, Some, None, option_map}
use Rattle.std.proofs.Common.{refl, sym, ap, ◌∙◌}
use Rattle.std.specs.Option.{option_and_then, option_map_or}
use Rattle.std.specs.List.{list_any}
use Rattle.std.specs.FinMap.{get}
use Rattle.keyed.proofs.Over.{any_both}
use Rattle.ns_types.specs.declared.allocation.Allocation.{Allocation}
use Rattle.ns_types.specs.declared.node.Node.{Node}
use Rattle.ns_types.specs.declared.records.Namespace.{Namespace}
use Rattle.ns_types.specs.Settling.Settle.{settle}
use Rattle.ns_types.specs.State.Names.{Name, Key}
use Rattle.ns_types.specs.State.Rows.{World, Tenant, class_of, is_free, node_at}
use Rattle.ns_types.specs.State.Tables.{any_row}
use Rattle.ns_types.specs.Steps.{is_past_bound, is_pool_past_bound, is_tenant_past_bound}
use Rattle.ns_types.proofs.Elements.{any_flat, any_same}
use Rattle.ns_types.proofs.Lists.{left_none, right_none}
use Rattle.ns_types.proofs.Tests.{or_none}
use Rattle.ns_release.specs.Released.{in_pool, quota_left, room_at, room_left}
use Rattle.ns_counters.specs.Bounds.{quota_passes, room_passes}
use Rattle.ns_counters.specs.Given.{given_limits_pass, given_room_passes, given_waking_passes}
use Rattle.ns_applier.specs.Passing.{PassesByEnds, end_passes, indexes_pass, left_room_passes, numbers_past, places_past, step_passes}
use Rattle.ns_applier.specs.Releasing.{EndsAlone}
use Rattle.ns_applier.proofs.Ended.{quotas, quotas_at, rooms, rooms_at}
use Rattle.ns_applier.proofs.HeadroomNumbered.{pools_within, quotas_within}
use Rattle.ns_applier.proofs.Parted.{parted}
use Rattle.ns_applier.proofs.Touched.{tenants_within}

module _ (w x : World) (keys : List Key) (only : EndsAlone w x keys) where
  -- ---- allocation by allocation

  room_passes_by : (pool : Name) (o : Option Node) → list_any (given_room_passes w) (in_pool pool (room_left o))
      ≡ option_map_or (λ node. is_free node && given_room_passes w (pool, class_of node)) o false
  room_passes_by pool None = refl
  room_passes_by pool (Some node) = by (is_free node)
    where
      by : (b : Bool) → list_any (given_room_passes w) (in_pool pool (if b then class_of node ∷ [] else [])) ≡ (b && given_room_passes w (pool, class_of node))
      by true = or_none (given_room_passes w (pool, class_of node))
      by false = refl

  quota_passes_by : (o : Option Name) → list_any (given_limits_pass w) (option_map_or (λ quota. quota ∷ []) o []) ≡ option_map_or (given_limits_pass w) o false
  quota_passes_by None = refl
  quota_passes_by (Some quota) = or_none (given_limits_pass w quota)

  end_is : (key : Key) → (list_any (given_room_passes w) (rooms_at w x key) || list_any (given_limits_pass w) (quotas_at w key)) ≡ end_passes w x key
  end_is key = by (get w.tenants key.0)
    where
      of : (t : Tenant) (o : Option Allocation) →
          (list_any (given_room_passes w) (option_map_or (λ (e : Namespace × Allocation). room_at x e.1) (option_map (λ a. (t.namespace, a)) o) [])
          || list_any (given_limits_pass w) (option_map_or (λ (e : Namespace × Allocation). quota_left e.0) (option_map (λ a. (t.namespace, a)) o) []))
          ≡ option_map_or (λ a. left_room_passes w x a || option_map_or (given_limits_pass w) t.namespace.quota false) o false
      of t None = refl
      of t (Some a) = λ i. room_passes_by a.pool (node_at x a.pool a.node) i || quota_passes_by t.namespace.quota i

      by : (o : Option Tenant) →
          (list_any (given_room_passes w) (option_map_or (λ (e : Namespace × Allocation). room_at x e.1)
          (option_and_then (λ t. option_map (λ a. (t.namespace, a)) (get t.allocations key.1)) o) [])
          || list_any (given_limits_pass w) (option_map_or (λ (e : Namespace × Allocation). quota_left e.0)
          (option_and_then (λ t. option_map (λ a. (t.namespace, a)) (get t.allocations key.1)) o) []))
          ≡ option_map_or (λ a. left_room_passes w x a || option_map_or (given_limits_pass w) (option_and_then (λ t. t.namespace.quota) o) false)
          (option_and_then (λ t. get t.allocations key.1) o) false
      by None = refl
      by (Some t) = of t (get t.allocations key.1)

  ends_are : (list_any (given_room_passes w) (rooms w x keys only) || list_any (given_limits_pass w) (quotas w x keys only)) ≡ list_any (end_passes w x) keys
  ends_are = (λ i. any_flat (given_room_passes w) (rooms_at w x) keys i || any_flat (given_limits_pass w) (quotas_at w) keys i)
      ∙ sym (any_both (λ key. list_any (given_room_passes w) (rooms_at w x key)) (λ key. list_any (given_limits_pass w) (quotas_at w key)) keys)
      ∙ any_same _ (end_passes w x) end_is keys

  -- ---- all of it

  abbrev wakings : Bool
  wakings = list_any (given_waking_passes w (rooms w x keys only) (quotas w x keys only)) w.blocked

  passes_are : is_past_bound w ≡ false → is_past_bound (settle w x) ≡ step_passes w x keys
  unfolding is_past_bound
  passes_are within = (λ i. tenants_within w x keys only (left_none _ _ (left_none _ _ within)) i
      || pools_within w x keys only (right_none (any_row (λ _ t. is_tenant_past_bound t) w.tenants) _ (left_none _ _ within)) i
      || quotas_within w x keys only (right_none (any_row (λ _ t. is_tenant_past_bound t) w.tenants
      || any_row (λ _ p. is_pool_past_bound p) w.pools) _ within) i)
      ∙ turned (numbers_past x) (places_past x) (indexes_pass w x) wakings (list_any (room_passes w) (rooms w x keys only))
      (list_any (quota_passes w) (quotas w x keys only))
      ∙ ap (λ b. numbers_past x || places_past x || indexes_pass w x || b) (parted w (rooms w x keys only) (quotas w x keys only) ∙ ends_are)
    where
      turned : (n p i k r q : Bool) → (((n || i) || k) || (r || p) || q) ≡ (n || p || i || (k || r || q))
      turned true p i k r q = refl
      turned false true true k r q = refl
      turned false true false true r q = refl
      turned false true false false true q = refl
      turned false true false false false q = refl
      turned false false true k r q = refl
      turned false false false true r q = refl
      turned false false false false true q = refl
      turned false false false false false q = refl

pub ends_pass : PassesByEnds
ends_pass w x keys within only = passes_are w x keys only within
