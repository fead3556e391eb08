-- Whether a counter passes its bound by a step that only gives room of one class of a pool, or only changes the limits of one
-- quota.
use Rattle.std.specs.Prelude.{Bool, false, ◌&&◌, ◌||◌, List, [], ◌∷◌}
use Rattle.std.specs.Option.{option_map_or}
use Rattle.std.specs.List.{list_any}
use Rattle.std.specs.FinMap.{get}
use Rattle.ns_types.specs.declared.node.Class.{Class}
use Rattle.ns_types.specs.State.Names.{Name, Key}
use Rattle.ns_types.specs.State.Rows.{World, Tenant, evaluation_at}
use Rattle.ns_counters.specs.Bounds.{is_at_bound, quota_passes, room_passes, shows_awake}
use Rattle.ns_release.specs.Released.{releases_wake_at}

-- such releases wake the evaluation of the entry, and it is then shown differently than before
abbrev pub wakes_shown : World → List (Name × Class) → List Name → Key → Tenant → Bool
wakes_shown w rooms quotas key t = releases_wake_at w rooms quotas key && shows_awake t key.1 (evaluation_at w key)

abbrev pub given_waking_passes_in : World → List (Name × Class) → List Name → Key → Tenant → Bool
given_waking_passes_in w rooms quotas key t = is_at_bound t.index && wakes_shown w rooms quotas key t

-- such releases wake the evaluation of the entry, and by that the index of its namespace passes its bound
abbrev pub given_waking_passes : World → List (Name × Class) → List Name → Key → Bool
given_waking_passes w rooms quotas key =
    option_map_or (given_waking_passes_in w rooms quotas key) (get w.tenants key.0) false

-- the pool's release number passes its bound, or the index of a namespace does because evaluations wake
abbrev pub given_room_passes : World → Name × Class → Bool
given_room_passes w room = room_passes w room || list_any (given_waking_passes w (room ∷ []) []) w.blocked

-- the quota's release number passes its bound, or the index of a namespace does because evaluations wake
abbrev pub given_limits_pass : World → Name → Bool
given_limits_pass w quota = quota_passes w quota || list_any (given_waking_passes w [] (quota ∷ [])) w.blocked

-- a counter passes its bound by a release of the namespace's quota, if it has one
abbrev pub left_quota_passes : World → Tenant → Bool
left_quota_passes w t = option_map_or (given_limits_pass w) t.namespace.quota false
