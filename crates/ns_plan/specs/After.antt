-- The state after a plan's stops, as it is read from the present one.
use Rattle.std.specs.Prelude.{◌&&◌, ℕ, Bool, false, List, Option, Some, None, filter, if◌then◌else◌, map}
use Rattle.std.specs.Option.{option_map_or}
use Rattle.ns_types.specs.declared.allocation.Allocation.{Allocation}
use Rattle.ns_types.specs.declared.plan.Eviction.{Eviction}
use Rattle.ns_types.specs.declared.resources.Resources.{Resources}
use Rattle.ns_types.specs.State.Names.{Key, Name, same_name}
use Rattle.ns_types.specs.State.Resources.{none}
use Rattle.ns_types.specs.State.Rows.{World, allocation_at, is_live, is_live_on}
use Rattle.ns_types.specs.Working.Commit.{counts, quota_named, stop_all, victim_key}

abbrev pub stop_keys : Name → List ℕ → List Key
stop_keys ns stops = map (λ n. (ns, n)) stops

-- the stops of allocations that are live
abbrev pub counted_stops : World → Name → List ℕ → List ℕ
counted_stops w ns stops = filter (λ n. option_map_or is_live (allocation_at w (ns, n)) false) stops

abbrev pub after_stops : World → Name → List ℕ → World
after_stops w ns stops = stop_all ns (counted_stops w ns stops) w

abbrev pub keys_of : List Eviction → List Key
keys_of evictions = map victim_key evictions

-- the allocation of an eviction, if the eviction counts on the node
abbrev pub counted : World → Name → Name → Eviction → Option Allocation
counted w pool node e = if counts w pool node e then allocation_at w (victim_key e) else None

-- what an allocation takes from a node: nothing if it does not exist or is not live there
abbrev pub part_on : Name → Name → Option Allocation → Resources
part_on pool node None = none
part_on pool node (Some a) = if is_live_on pool node a then a.size else none

-- whether the namespace names the quota
abbrev pub names : World → Name → Name → Bool
names w quota ns = option_map_or (same_name quota) (quota_named w ns) false

-- what an allocation takes from a quota: nothing if it does not exist, is not live, or its namespace does not name the
-- quota
abbrev pub part_of_quota : Bool → Option Allocation → Resources
part_of_quota named None = none
part_of_quota named (Some a) = if named && is_live a then a.size else none

-- whether there is a quota and the namespace names it
abbrev pub shares : World → Option Name → Name → Bool
shares w None ns = false
shares w (Some quota) ns = names w quota ns
