-- Whether the end of an allocation passes the bound of a counter, by what it releases.
use Rattle.std.specs.Prelude.{Bool, false, ◌&&◌, ◌||◌}
use Rattle.std.specs.Option.{option_map_or}
use Rattle.ns_types.specs.declared.allocation.Allocation.{Allocation}
use Rattle.ns_types.specs.State.Rows.{World, Tenant, class_of, is_free, node_at}
use Rattle.ns_counters.specs.Given.{given_room_passes, left_quota_passes}

-- a counter passes its bound by the room that the allocation leaves, if its node is there, ready and eligible
abbrev pub left_room_passes : World → Allocation → Bool
left_room_passes w a =
    option_map_or (λ node. is_free node && given_room_passes w (a.pool, class_of node)) (node_at w a.pool a.node) false

-- a counter passes its bound by what the end of an allocation of the namespace releases
abbrev pub ending_passes : World → Tenant → Allocation → Bool
ending_passes w t a = left_room_passes w a || left_quota_passes w t
