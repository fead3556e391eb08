-- What a step releases, in the form in which blocked evaluations are looked up.
use Rattle.std.specs.Prelude.{◌≡◌, Bool, ◌&&◌, List}
use Rattle.std.specs.FinMap.{contains_key}
use Rattle.std.specs.List.{list_any}
use Rattle.ns_blocked.specs.declared.releases.ReleasedPool.{ReleasedPool}
use Rattle.ns_types.specs.declared.node.Class.{Class}
use Rattle.ns_types.specs.State.Names.{Name, has_class, has_name, same_name}
use Rattle.ns_types.specs.State.Rows.{World}

-- the room is of the released pool, and of one of its classes
abbrev pub is_room : Name × Class → ReleasedPool → Bool
is_room room p = same_name room.0 p.pool && has_class p.classes room.1

abbrev pub has_room : List ReleasedPool → Name × Class → Bool
has_room pools room = list_any (is_room room) pools

-- some class of a released pool passes
abbrev pub any_class : (Name → Class → Bool) → List ReleasedPool → Bool
any_class passes pools = list_any (λ p. list_any (passes p.pool) p.classes) pools

-- the released pools have exactly the classes of these rooms
abbrev pub AreOfRooms : List (Name × Class) → List ReleasedPool → Type 0
AreOfRooms rooms pools = (passes : Name → Class → Bool) →
    any_class passes pools ≡ list_any (λ r. passes r.0 r.1) rooms

-- the quotas are exactly those of the names that the world has a quota for
abbrev pub AreOfNames : World → List Name → List Name → Type 0
AreOfNames w names quotas = (quota : Name) →
    has_name quotas quota ≡ (contains_key w.quotas quota && has_name names quota)
