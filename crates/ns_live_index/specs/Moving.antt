-- What a change of a key does to the loads of nodes.
use Rattle.std.specs.Prelude.{false, IsTrue, Option, Some, None, if◌then◌else◌}
use Rattle.std.specs.Option.{option_map_or}
use Rattle.ns_types.specs.declared.allocation.Allocation.{Allocation}
use Rattle.ns_types.specs.declared.resources.Resources.{Resources}
use Rattle.ns_types.specs.State.Names.{Name, same_name}
use Rattle.ns_types.specs.State.Resources.{IsCounted, none}
use Rattle.ns_types.specs.State.Rows.{is_live_on}
use Rattle.ns_types.specs.State.Resources.{Moves}
use Rattle.ns_live_index.specs.declared.live.Live.{Live}
use Rattle.ns_live_index.specs.declared.pool_keys.PoolKeys.{PoolKeys}
use Rattle.ns_live_index.specs.Levels.{load_at, load_on, stands_at, stands_on}

-- the load changes as one of its parts goes from `before` to `after`, and stays within 64 bits
abbrev pub MovesLoad : Resources → Resources → Resources → Resources → Type 0
MovesLoad before after old new = (IsCounted old → IsCounted new) × Moves before after old new

-- ---- on one node alone

abbrev pub part_on : Name → Name → Resources → Resources
part_on node name part = if same_name name node then part else none

abbrev pub part_at : Name → Name → Name → Name → Resources → Resources
part_at pool node p n part = if same_name p pool then part_on node n part else none

abbrev pub MovesOnNode : Name → Resources → Resources → PoolKeys → PoolKeys → Type 0
MovesOnNode node before after old new = (name : Name) →
    MovesLoad (part_on node name before) (part_on node name after) (load_on old name) (load_on new name)

abbrev pub MovesInPool : Name → Name → Resources → Resources → Live → Live → Type 0
MovesInPool pool node before after old new = (p n : Name) →
    MovesLoad (part_at pool node p n before) (part_at pool node p n after) (load_at old p n) (load_at new p n)

-- the load of the node loses the part, if something is still kept for the node
abbrev pub LeavesOnNode : Name → Resources → PoolKeys → PoolKeys → Type 0
LeavesOnNode node part old new = (name : Name) → IsTrue (stands_on new name) →
    MovesLoad (part_on node name part) none (load_on old name) (load_on new name)

abbrev pub LeavesInPool : Name → Name → Resources → Live → Live → Type 0
LeavesInPool pool node part old new = (p n : Name) → IsTrue (stands_at new p n) →
    MovesLoad (part_at pool node p n part) none (load_at old p n) (load_at new p n)

-- ---- what a row takes

-- what a row takes on a node: its size if it is live there, and none if not
abbrev pub taken : Name → Name → Option Allocation → Resources
taken pool node None = none
taken pool node (Some row) = if is_live_on pool node row then row.size else none

-- on the node on which the row `after` is live, the load gains what it takes and loses what `before` took there
abbrev pub AddsLoad : Option Allocation → Option Allocation → Live → Live → Type 0
AddsLoad before after old new = (pool node : Name) →
    MovesLoad (if option_map_or (is_live_on pool node) after false then taken pool node before else none)
    (taken pool node after) (load_at old pool node) (load_at new pool node)
