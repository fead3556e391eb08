-- An index of live allocations by node: which keys it holds where, what load it keeps of each node, and when that is right.
use Rattle.std.specs.Prelude.{◌≡◌, ◌&&◌, ◌||◌, Bool, true, false, IsTrue, Option, Some, None}
use Rattle.std.specs.Prelude.{ℕ, if◌then◌else◌}
use Rattle.std.specs.FinMap.{get}
use Rattle.std.specs.Option.{option_map_or, unwrap_or}
use Rattle.keyed.specs.Table.{row_at}
use Rattle.ns_types.specs.declared.allocation.Allocation.{Allocation}
use Rattle.ns_types.specs.State.Names.{Name, Key, ByNumber, same_key, same_name}
use Rattle.ns_types.specs.State.Resources.{none}
use Rattle.ns_types.specs.State.Rows.{World, allocation_at, is_live, is_live_on}
use Rattle.ns_types.specs.State.Resources.{IsTotal}
use Rattle.ns_live_index.specs.declared.live.Live.{Live}
use Rattle.ns_live_index.specs.Levels.{has_pool_room, holds_in_pool, keys_at, load_at}
use Rattle.ns_live_index.specs.Loads.{keys_use}
use Rattle.ns_live_index.specs.Naming.{AreNamed, holds_at, total_at}
use Rattle.ns_live_index.specs.Shown.{AreShown, base_at}

-- whether the index holds the key on this node of this pool
abbrev pub holds : Live → Name → Name → Key → Bool
holds live pool node key = holds_in_pool live (pool, (node, key))

-- whether the index has room for the key there, so that it takes no memory
abbrev pub has_room : Live → Name → Name → Key → Bool
has_room live pool node key = has_pool_room live (pool, (node, key))

-- the index holds the same keys and keeps the same loads
pub record KeepsKeys (old new : Live) : Type 0 where
  pub keys : (pool node : Name) (key : Key) → holds new pool node key ≡ holds old pool node key
  pub loads : (pool node : Name) → load_at new pool node ≡ load_at old pool node

-- there is no less room
abbrev pub KeepsRoom : Live → Live → Type 0
KeepsRoom old new = (pool node : Name) (key : Key) →
    IsTrue (has_room old pool node key) → IsTrue (has_room new pool node key)

-- on each node, the index holds exactly the keys of the rows that are live there, and keeps the total of what these take
pub record Indexes (row_of : Key → Option Allocation) (live : Live) : Type 0 where
  pub keys : (pool node : Name) (key : Key) →
      holds live pool node key ≡ option_map_or (is_live_on pool node) (row_of key) false
  pub loads : (pool node : Name) →
      IsTotal (load_at live pool node) (keys_use row_of (keys_at live pool node))

-- The index is right for the world, and so are the nodes that are shown, and the names and totals of quotas. Nothing is
-- presumed of the world: its allocations may name pools and nodes that do not exist.
pub record IsRight (w : World) (live : Live) : Type 0 where
  pub index : Indexes (allocation_at w) live
  pub shown : AreShown w live
  pub quotas : AreNamed w live

-- the index holds no keys and no loads, no node is kept, and no namespace is held at a quota
pub record IsEmpty (live : Live) : Type 0 where
  pub keys : (pool node : Name) (key : Key) → holds live pool node key ≡ false
  pub loads : (pool node : Name) → load_at live pool node ≡ none
  pub shown : (pool name : Name) → base_at live pool name ≡ None
  pub names : (quota ns : Name) → holds_at live.quotas (quota, ns) ≡ false
  pub totals : (quota : Name) → total_at live.quotas quota ≡ none

-- the rows, with this row, or none, under the key
abbrev pub with_row : Key → Option Allocation → (Key → Option Allocation) → Key → Option Allocation
with_row key row row_of other = if same_key other key then row else row_of other

-- the row can be indexed without memory, if it is live
abbrev pub HasRoomFor : Live → Key → Option Allocation → Type 0
HasRoomFor live key None = Unit {0}
HasRoomFor live key (Some row) = is_live row ≡ true → IsTrue (has_room live row.pool row.node key)

-- the key is added on the node on which the row is live, if it is, and the other keys stay
pub record AddsRow (key : Key) (row : Option Allocation) (old new : Live) : Type 0 where
  pub held : (pool node : Name) (other : Key) → holds new pool node other ≡
      ((same_key other key && option_map_or (is_live_on pool node) row false) || holds old pool node other)
  pub room : KeepsRoom old new

-- ---- all changed rows of a namespace: a slot with a row is the row's new value, a vacant one takes the row away

abbrev pub with_changes : Name → ByNumber (Option Allocation) → (Key → Option Allocation) → Key → Option Allocation
with_changes namespace changes row_of key =
    if same_name key.0 namespace then unwrap_or (get changes key.1) (row_of key) else row_of key

-- each changed row that is live can be indexed without memory
abbrev pub HasRoomForAll : Live → Name → ByNumber (Option Allocation) → Type 0
HasRoomForAll live namespace changes = (n : ℕ) (row : Allocation) → row_at changes n ≡ Some row →
    HasRoomFor live (namespace, n) (Some row)
