-- Changes that leave the keys and loads of the index.
use Rattle.std.specs.Prelude.{◌≡◌, Option}
use Rattle.std.proofs.Common.{refl, ap, ◌∙◌}
use Rattle.std.specs.Option.{option_map_or}
use Rattle.keyed.specs.Levels.{at_name}
use Rattle.keyed.specs.Table.{row_at}
use Rattle.ns_types.specs.declared.allocation.Allocation.{Allocation}
use Rattle.ns_types.specs.State.Names.{Key}
use Rattle.ns_types.specs.State.Resources.{none}
use Rattle.ns_live_index.specs.declared.live.Live.{Live}
use Rattle.ns_live_index.specs.Index.{Indexes, KeepsKeys}
use Rattle.ns_live_index.specs.Levels.{holds_on_node, load_on}
use Rattle.ns_live_index.proofs.PutLoads.{still_loaded}

pub kept_same : (live : Live) → KeepsKeys live live
kept_same live = record { keys = λ pool node key. refl; loads = λ pool node. refl }

pub kept_then : (x y z : Live) → KeepsKeys x y → KeepsKeys y z → KeepsKeys x z
kept_then x y z first later = record {
  keys = λ pool node key. later.keys pool node key ∙ first.keys pool node key;
  loads = λ pool node. later.loads pool node ∙ first.loads pool node;
}

pub pools_kept : (old new : Live) → new.pools ≡ old.pools → KeepsKeys old new
pools_kept old new same = record {
  keys = λ pool node key. ap (λ pools. at_name holds_on_node pools (pool, (node, key))) same;
  loads = λ pool node. ap (λ pools. option_map_or (λ its. load_on its node) (row_at pools pool) none) same;
}

pub index_kept : (row_of : Key → Option Allocation) (old new : Live) → KeepsKeys old new → Indexes row_of old → Indexes row_of new
index_kept row_of old new kept right = still_loaded row_of row_of old new right (λ pool node key. kept.keys pool node key ∙ right.keys pool node key)
    kept.loads (λ pool node key. refl)
