-- The levels of the index: a table by pool of tables by node of sets of keys, each with a load.
use Rattle.std.specs.Prelude.{Bool, false, is_some}
use Rattle.std.specs.FinMap.{empty}
use Rattle.std.specs.Option.{option_map_or}
use Rattle.keyed.specs.Levels.{at_name, has_key_room, holds_key}
use Rattle.keyed.specs.Table.{row_at}
use Rattle.keyed.specs.declared.key_set.KeySet.{KeySet}
use Rattle.ns_types.specs.declared.resources.Resources.{Resources}
use Rattle.ns_types.specs.State.Names.{Name, Key}
use Rattle.ns_types.specs.State.Resources.{none}
use Rattle.ns_live_index.specs.declared.live.Live.{Live}
use Rattle.ns_live_index.specs.declared.pool_keys.NodeKeys.{NodeKeys}
use Rattle.ns_live_index.specs.declared.pool_keys.PoolKeys.{PoolKeys}

-- ---- the keys on one node

abbrev pub holds_here : NodeKeys → Key → Bool
holds_here on = holds_key on.keys

abbrev pub has_room_here : NodeKeys → Key → Bool
has_room_here on = has_key_room on.keys

-- ---- the keys in one pool, by node

abbrev pub holds_on_node : PoolKeys → Name × Key → Bool
holds_on_node its = at_name holds_here its.nodes

abbrev pub has_node_room : PoolKeys → Name × Key → Bool
has_node_room its = at_name has_room_here its.nodes

-- something is kept for the node
abbrev pub stands_on : PoolKeys → Name → Bool
stands_on its node = is_some (row_at its.nodes node)

-- the load that is kept for the node; none if nothing is kept for it
abbrev pub load_on : PoolKeys → Name → Resources
load_on its node = option_map_or (λ on. on.load) (row_at its.nodes node) none

abbrev pub no_keys : KeySet
no_keys = record { numbers = empty }

abbrev pub keys_on : PoolKeys → Name → KeySet
keys_on its node = option_map_or (λ on. on.keys) (row_at its.nodes node) no_keys

-- ---- the keys in all pools

abbrev pub holds_in_pool : Live → Name × (Name × Key) → Bool
holds_in_pool live = at_name holds_on_node live.pools

abbrev pub has_pool_room : Live → Name × (Name × Key) → Bool
has_pool_room live = at_name has_node_room live.pools

abbrev pub stands_at : Live → Name → Name → Bool
stands_at live pool node = option_map_or (λ its. stands_on its node) (row_at live.pools pool) false

abbrev pub load_at : Live → Name → Name → Resources
load_at live pool node = option_map_or (λ its. load_on its node) (row_at live.pools pool) none

abbrev pub keys_at : Live → Name → Name → KeySet
keys_at live pool node = option_map_or (λ its. keys_on its node) (row_at live.pools pool) no_keys
