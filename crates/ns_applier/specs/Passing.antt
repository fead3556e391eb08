-- When a step that releases only by the allocations that it ends passes the bound of a counter, once it has settled.
use Rattle.std.specs.Prelude.{◌≡◌, Bool, false, ◌&&◌, ◌||◌, List, nat_lt}
use Rattle.std.specs.Option.{option_map_or}
use Rattle.std.specs.List.{list_any}
use Rattle.std.specs.FinMap.{get}
use Rattle.ns_types.specs.declared.allocation.Allocation.{Allocation}
use Rattle.ns_types.specs.declared.node.Class.{Class}
use Rattle.ns_types.specs.Settling.Settle.{is_touched, settle}
use Rattle.ns_types.specs.State.Names.{Name, Key}
use Rattle.ns_types.specs.State.Rows.{World, Tenant, allocation_at, class_of, is_free, node_at}
use Rattle.ns_types.specs.State.Tables.{any_row}
use Rattle.ns_types.specs.Steps.{greatest, is_past_bound}
use Rattle.ns_types.specs.Working.Commit.{quota_named}
use Rattle.ns_counters.specs.Bounds.{is_at_bound}
use Rattle.ns_counters.specs.Given.{given_limits_pass, given_room_passes}
use Rattle.ns_applier.specs.Releasing.{EndsAlone}

-- ---- what the step itself counts

-- the number of the namespace's last evaluation, or of its last allocation, is past its bound
abbrev pub is_number_past : Tenant → Bool
is_number_past t = nat_lt greatest t.evaluation_number || nat_lt greatest t.allocation_number

-- such a number of some namespace is past its bound
abbrev pub numbers_past : World → Bool
numbers_past x = any_row (λ _ t. is_number_past t) x.tenants

-- the number of places of some node is past its bound
abbrev pub places_past : World → Bool
places_past x = any_row (λ _ p. any_row (λ _ node. nat_lt greatest node.places) p.nodes) x.pools

-- rows of the namespace are new or shown differently, and its index is at its bound
abbrev pub index_passes : World → Name → Tenant → Bool
index_passes w ns t = option_map_or (λ old. is_at_bound old.index && is_touched old t) (get w.tenants ns) false

abbrev pub indexes_pass : World → World → Bool
indexes_pass w x = any_row (index_passes w) x.tenants

-- ---- what an allocation that ends releases

-- a counter passes its bound by the room that the allocation leaves, if its node is free after the step
abbrev pub left_room_passes : World → World → Allocation → Bool
left_room_passes w x a =
    option_map_or (λ node. is_free node && given_room_passes w (a.pool, class_of node)) (node_at x a.pool a.node) false

-- no counter passes its bound by room on a node, of whatever class
abbrev pub NoRoomPasses : World → Type 0
NoRoomPasses w = (room : Name × Class) → given_room_passes w room ≡ false

-- a counter passes its bound by the release of the namespace's quota, if it has one
abbrev pub left_quota_passes : World → Name → Bool
left_quota_passes w ns = option_map_or (given_limits_pass w) (quota_named w ns) false

abbrev pub end_passes : World → World → Key → Bool
end_passes w x key =
    option_map_or (λ a. left_room_passes w x a || left_quota_passes w key.0) (allocation_at w key) false

-- ---- all counters

abbrev pub step_passes : World → World → List Key → Bool
step_passes w x keys =
    numbers_past x || places_past x || indexes_pass w x || list_any (end_passes w x) keys

-- the law: such a step passes a bound exactly if one of these counters does
abbrev pub PassesByEnds : Type 0
PassesByEnds = (w x : World) (keys : List Key) → is_past_bound w ≡ false → EndsAlone w x keys
    → is_past_bound (settle w x) ≡ step_passes w x keys
