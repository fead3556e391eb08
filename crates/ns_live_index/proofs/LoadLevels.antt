-- Loads and keys of nodes, level by level.
use Rattle.std.specs.Prelude.{◌≡◌, ◌+◌, false, Option, Some, None, is_some}
use Rattle.std.proofs.Common.{refl, sym}
use Rattle.std.specs.Option.{option_map_or}
use Rattle.keyed.specs.Levels.{Adds, Drops, Keeps, has_key_room, holds_key, holds_number}
use Rattle.keyed.specs.Table.{row_at}
use Rattle.keyed.specs.declared.key_set.KeySet.{KeySet}
use Rattle.keyed.proofs.Levels.{not_true, says_nothing}
use Rattle.ns_types.specs.declared.resources.Resources.{Resources}
use Rattle.ns_types.specs.State.Names.{Key, Name, same_key}
use Rattle.ns_types.specs.State.Resources.{none, quantity}
use Rattle.ns_types.proofs.Amounts.{every}
use Rattle.ns_types.specs.State.Resources.{IsAlike}
use Rattle.ns_live_index.specs.declared.live.Live.{Live}
use Rattle.ns_live_index.specs.declared.pool_keys.NodeKeys.{NodeKeys}
use Rattle.ns_live_index.specs.declared.pool_keys.PoolKeys.{PoolKeys}
use Rattle.ns_live_index.specs.Index.{holds}
use Rattle.ns_live_index.specs.Levels.{has_room_here, holds_here, holds_on_node, keys_at, keys_on, load_at, load_on, no_keys, stands_at, stands_on}
use Rattle.ns_live_index.specs.Moving.{MovesLoad}

-- ---- a node's set with its load

-- it has one load
abbrev pub load_here : NodeKeys → Unit {0} → Resources
load_here on u = on.load

module _ (key : Key) (old new : NodeKeys) where
  pub keeps_here : Keeps holds_key has_key_room old.keys new.keys → Keeps holds_here has_room_here old new
  keeps_here h = record { held = h.held; room = h.room }

  pub adds_here : Adds holds_key has_key_room same_key key old.keys new.keys → Adds holds_here has_room_here same_key key old new
  adds_here h = record { held = h.held; room = h.room }

  pub drops_here : Drops holds_key has_key_room same_key key old.keys new.keys → Drops holds_here has_room_here same_key key old new
  drops_here h = record { held = h.held; room = h.room; gone = h.gone }

-- ---- what stands for a node

module _ (live : Live) (pool node : Name) where
  pub keys_hold : (key : Key) → holds_key (keys_at live pool node) key ≡ holds live pool node key
  keys_hold key = by (row_at live.pools pool)
    where
      nothing : holds_key no_keys key ≡ false
      nothing = says_nothing (λ (s : KeySet). s.numbers) holds_number no_keys refl key

      on_node : (r : Option NodeKeys) → holds_key (option_map_or (λ on. on.keys) r no_keys) key ≡ option_map_or (λ on. holds_here on key) r false
      on_node None = nothing
      on_node (Some on) = refl

      by : (r : Option PoolKeys) → holds_key (option_map_or (λ its. keys_on its node) r no_keys) key
          ≡ option_map_or (λ its. holds_on_node its (node, key)) r false
      by None = nothing
      by (Some its) = on_node (row_at its.nodes node)

  pub nothing_stands : stands_at live pool node ≡ false → (load_at live pool node ≡ none) × (keys_at live pool node ≡ no_keys)
  nothing_stands = by (row_at live.pools pool)
    where
      on_node : (r : Option NodeKeys) → is_some r ≡ false →
          (option_map_or (λ on. on.load) r none ≡ none) × (option_map_or (λ on. on.keys) r no_keys ≡ no_keys)
      on_node None e = (refl, refl)
      on_node (Some on) e = not_true (sym e)

      by : (r : Option PoolKeys) → option_map_or (λ its. stands_on its node) r false ≡ false →
          (option_map_or (λ its. load_on its node) r none ≡ none) × (option_map_or (λ its. keys_on its node) r no_keys ≡ no_keys)
      by None e = (refl, refl)
      by (Some its) e = on_node (row_at its.nodes node) e

-- ---- what a change leaves of a load

pub moves_none : (load : Resources) → MovesLoad none none load load
moves_none load = (λ h. h, every (λ r. IsAlike (quantity r load + 0) (quantity r load + 0)) (λ r. refl))
