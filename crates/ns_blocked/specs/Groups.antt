-- The places of the entries, grouped by the quota or the pool that the entries wait for.
use Rattle.std.specs.Prelude.{ℕ, ◌+◌, Bool, false, ◌&&◌, IsTrue, List, [], ◌∷◌, Option}
use Rattle.std.specs.FinMap.{empty}
use Rattle.std.specs.Option.{option_map_or}
use Rattle.keyed.specs.Levels.{has_key_room, holds_key}
use Rattle.keyed.specs.Table.{row_at}
use Rattle.keyed.specs.declared.key_set.KeySet.{KeySet}
use Rattle.ns_blocked.specs.declared.entry.BlockedEvaluation.{BlockedEvaluation}
use Rattle.ns_blocked.specs.declared.entry.Waits.{Waits}
use Rattle.ns_blocked.specs.declared.entry.Waits.TheVariants.{Pool, Quota}
use Rattle.ns_blocked.specs.declared.groups.Groups.{Groups}
use Rattle.ns_types.specs.State.Names.{Name, ByNumber, same_name, same_number}

-- both wait for the same quota, or for the same pool
abbrev pub same_waits : Waits → Waits → Bool
same_waits (Quota a) (Quota b) = same_name a b
same_waits (Quota a) (Pool b) = false
same_waits (Pool a) (Quota b) = false
same_waits (Pool a) (Pool b) = same_name a b

-- the slots of the name's places
abbrev pub places_of : KeySet → Name → ByNumber (Option Unit)
places_of keys name = option_map_or (λ places. places) (row_at keys.numbers name) empty

-- the slots of the places of those that wait for this quota or pool
abbrev pub group_of : Groups → Waits → ByNumber (Option Unit)
group_of groups (Quota name) = places_of groups.quotas name
group_of groups (Pool name) = places_of groups.pools name

-- ---- a quota or a pool, with a place

abbrev pub same_waiting : Waits × ℕ → Waits × ℕ → Bool
same_waiting a b = same_waits a.0 b.0 && same_number a.1 b.1

-- the group of the quota or pool holds the place
abbrev pub holds_waiting : Groups → Waits × ℕ → Bool
holds_waiting groups (Quota name, place) = holds_key groups.quotas (name, place)
holds_waiting groups (Pool name, place) = holds_key groups.pools (name, place)

-- putting the place into the group takes no memory
abbrev pub has_waiting_room : Groups → Waits × ℕ → Bool
has_waiting_room groups (Quota name, place) = has_key_room groups.quotas (name, place)
has_waiting_room groups (Pool name, place) = has_key_room groups.pools (name, place)

-- putting the entries' places, from this one on, into their groups takes no memory
abbrev pub HasGroupRoom : ℕ → List BlockedEvaluation → Groups → Type 0
HasGroupRoom place [] groups = Unit {0}
HasGroupRoom place (e ∷ es) groups =
    IsTrue (has_waiting_room groups (e.waits, place)) × HasGroupRoom (place + 1) es groups
