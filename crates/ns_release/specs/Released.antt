-- What a step releases, found from its change alone.
use Rattle.std.specs.Prelude.{ℕ, Bool, true, false, not, ◌&&◌, ◌||◌, if◌then◌else◌, List, [], ◌∷◌, ◌++◌, Option, Some}
use Rattle.std.specs.Prelude.{None, flat_map, filter, map}
use Rattle.std.specs.Option.{option_map_or}
use Rattle.std.specs.FinMap.{get, entries, contains_key}
use Rattle.std.specs.List.{list_any}
use Rattle.ns_types.specs.declared.allocation.Allocation.{Allocation}
use Rattle.ns_types.specs.declared.evaluation.Evaluation.{Evaluation}
use Rattle.ns_types.specs.declared.node.Class.{Class}
use Rattle.ns_types.specs.declared.node.Node.{Node}
use Rattle.ns_types.specs.declared.records.Namespace.{Namespace}
use Rattle.ns_types.specs.declared.records.Quota.{Quota}
use Rattle.keyed.specs.Table.{row_list}
use Rattle.ns_types.specs.State.Names.{Name, Key, same_name, has_name, has_key}
use Rattle.ns_types.specs.Asking.Admins.{is_relimited}
use Rattle.ns_types.specs.Settling.Releases.{Released, same_offer, wakes_on}
use Rattle.ns_types.specs.State.Rows.{World, Tenant, PoolRows, is_live, is_free, class_of, node_at, evaluation_at}
use Rattle.ns_change.specs.declared.change.Change.{Change}
use Rattle.ns_change.specs.declared.change.ListChange.{ListChange}
use Rattle.ns_change.specs.declared.change.PoolChange.{PoolChange}
use Rattle.ns_change.specs.declared.change.TenantChange.{TenantChange}
use Rattle.ns_change.specs.Changed.{changed}

-- an allocation that was live, with its namespace's record, where it is gone or not live after the change
abbrev pub ended_one : Tenant → ℕ → Option Allocation → List (Namespace × Allocation)
ended_one t n row = option_map_or (λ a. if is_live a && not (option_map_or is_live row false) then (t.namespace, a) ∷ []
    else []) (get t.allocations n) []

abbrev pub ended_among : Tenant → List (ℕ × Option Allocation) → List (Namespace × Allocation)
ended_among t slots = flat_map (λ e. ended_one t e.0 e.1) slots

abbrev pub ended_in : Tenant → TenantChange → List (Namespace × Allocation)
ended_in t x = ended_among t (entries x.allocations)

abbrev pub ended_of : World → Name → Option TenantChange → List (Namespace × Allocation)
ended_of w ns x = option_map_or (λ t. option_map_or (ended_in t) x []) (get w.tenants ns) []

abbrev pub ended_rows : World → Change → List (Namespace × Allocation)
ended_rows w c = flat_map (λ e. ended_of w e.0 e.1) (entries c.tenants)

-- a test of an allocation with its namespace's record
abbrev pub at_ended : (Namespace → Allocation → Bool) → Namespace × Allocation → Bool
at_ended passes e = passes e.0 e.1

-- ---- room on nodes

-- the node is new, was not free before, or had another offer
abbrev pub differs : PoolRows → Name → Node → Bool
differs p n node = option_map_or (λ old. not (is_free old) || not (same_offer old.offer node.offer))
    (get p.nodes n) true

-- a changed node gives room itself if it is free, and is new, was not free before, or had another offer
abbrev pub gives_itself : PoolRows → Name → Node → Bool
gives_itself p n node = is_free node && differs p n node

abbrev pub changed_classes : World → Name → Option PoolChange → List Class
changed_classes w name x = option_map_or
    (λ p. option_map_or (λ x. map (λ e. class_of e.1)
    (filter (λ e. gives_itself p e.0 e.1) (row_list (entries x.nodes)))) x []) (get w.pools name) []

-- the class of the node that an ended allocation leaves, if the node is free
abbrev pub room_left : Option Node → List Class
room_left node = option_map_or (λ node. if is_free node then class_of node ∷ [] else []) node []

abbrev pub in_pool : Name → List Class → List (Name × Class)
in_pool name classes = map (λ class. (name, class)) classes

-- the room that the slot of a changed node gives; a vacant slot gives none
abbrev pub rooms_at : Name → PoolRows → Name × Option Node → List (Name × Class)
rooms_at name p e = option_map_or (λ node. if gives_itself p e.0 node then (name, class_of node) ∷ [] else []) e.1 []

-- the room that an ended allocation leaves, in the world after the change
abbrev pub room_at : World → Allocation → List (Name × Class)
room_at w a = in_pool a.pool (room_left (node_at w a.pool a.node))

abbrev pub rooms_left : World → Namespace × Allocation → List (Name × Class)
rooms_left w e = room_at w e.1

-- the room that an allocation's slot leaves; below, the room that a namespace's slot leaves
abbrev pub rooms_ended : World → Tenant → ℕ × Option Allocation → List (Name × Class)
rooms_ended w t slot = flat_map (rooms_left w) (ended_one t slot.0 slot.1)

abbrev pub rooms_ended_in : World → World → Name × Option TenantChange → List (Name × Class)
rooms_ended_in w w' slot = flat_map (rooms_left w') (ended_of w slot.0 slot.1)

-- the room that the changed nodes of a pool give; below, all released classes, each with its pool, in any order and perhaps
-- twice
abbrev pub rooms_of_pool : World → Name × Option PoolChange → List (Name × Class)
rooms_of_pool w slot = in_pool slot.0 (changed_classes w slot.0 slot.1)

abbrev pub released_rooms : World → Change → List (Name × Class)
released_rooms w c = flat_map (rooms_of_pool w) (entries c.pools)
    ++ flat_map (rooms_left (changed w c)) (ended_rows w c)

-- the room is in that pool, and its class passes the test
abbrev pub at_room : Name → (Class → Bool) → Name × Class → Bool
at_room name passes r = same_name name r.0 && passes r.1

-- ---- quotas

abbrev pub quota_left : Namespace → List Name
quota_left namespace = option_map_or (λ quota. quota ∷ []) namespace.quota []

-- the quotas of namespaces that lost a live allocation
abbrev pub quotas_left : World → Change → List Name
quotas_left w c = flat_map (λ e. quota_left e.0) (ended_rows w c)

-- the quotas that an allocation's slot releases; below, those that a namespace's slot releases
abbrev pub quotas_ended : Tenant → ℕ × Option Allocation → List Name
quotas_ended t slot = flat_map (λ e. quota_left e.0) (ended_one t slot.0 slot.1)

abbrev pub quotas_ended_in : World → Name × Option TenantChange → List Name
quotas_ended_in w slot = flat_map (λ e. quota_left e.0) (ended_of w slot.0 slot.1)

-- a slot's record changes the limits of its quota
abbrev pub relimits : World → Name × Option Quota → Bool
relimits w slot = option_map_or (λ x. is_relimited slot.0 x w) slot.1 false

abbrev pub quota_relimited : World → Name × Option Quota → List Name
quota_relimited w slot = if relimits w slot then slot.0 ∷ [] else []

-- the quotas whose limits change
abbrev pub quotas_relimited : World → Change → List Name
quotas_relimited w c = flat_map (quota_relimited w) (entries c.quotas)

-- the released quotas, in any order and perhaps twice
abbrev pub released_quotas : World → Change → List Name
released_quotas w c = quotas_relimited w c ++ quotas_left w c

-- ---- which evaluations the releases wake

-- what is released if it is this room and these quotas; a quota that is not there is not released
abbrev pub released_of : World → List (Name × Class) → List Name → Released
released_of w rooms quotas = record {
  quota = λ quota. contains_key w.quotas quota && has_name quotas quota;
  room = λ pool passes. list_any (at_room pool passes) rooms;
}

-- whether such releases wake the evaluation
abbrev pub releases_wake : World → List (Name × Class) → List Name → Evaluation → Bool
releases_wake w rooms quotas e = wakes_on (released_of w rooms quotas) e

abbrev pub releases_wake_at : World → List (Name × Class) → List Name → Key → Bool
releases_wake_at w rooms quotas key = option_map_or (releases_wake w rooms quotas) (evaluation_at w key) false

-- the entries of `blocked` before the step that are still there and that such releases wake
abbrev pub woken_from : World → Change → List (Name × Class) → List Name → List Key
woken_from w c rooms quotas =
    filter (λ key. has_key (changed w c).blocked key && releases_wake_at w rooms quotas key) w.blocked

abbrev pub woken_keys : World → Change → List Key
woken_keys w c = woken_from w c (released_rooms w c) (released_quotas w c)

-- an entry that was in the list is still there: it is not taken out, or it is added again
abbrev pub stays : ListChange → Key → Bool
stays x key = not (has_key x.taken key) || has_key x.added key

abbrev pub is_woken : World → ListChange → List (Name × Class) → List Name → Key → Bool
is_woken w x rooms quotas key = stays x key && releases_wake_at w rooms quotas key

-- the entry is still in the list, and the step's own releases wake it
abbrev pub does_wake : World → Change → Key → Bool
does_wake w c key = is_woken w c.blocked (released_rooms w c) (released_quotas w c) key

abbrev pub ended_list : Tenant → Option Allocation → List (Namespace × Allocation)
ended_list t a = option_map_or (λ a. (t.namespace, a) ∷ []) a []
