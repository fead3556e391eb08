-- The nodes as they were last shown, beside the index: what is kept of a node, and when that is right. A node that is behind
-- is not shown: it is a base for the next one, which has the same live allocations up to the last place.
use Rattle.std.specs.Prelude.{◌≡◌, ◌&&◌, Bool, true, false, Option, Some, None, if◌then◌else◌, option_map, ℕ}
use Rattle.std.specs.FinMap.{get}
use Rattle.std.specs.Option.{option_and_then, option_map_or}
use Rattle.keyed.specs.Table.{row_at}
use Rattle.ns_types.specs.declared.allocation.Allocation.{Allocation}
use Rattle.ns_types.specs.declared.node.Node.{Node}
use Rattle.ns_types.specs.declared.snapshot.PoolNode.{PoolNode}
use Rattle.ns_types.specs.State.Names.{Name, Key, ByName, same_name}
use Rattle.ns_types.specs.State.Rows.{World, is_live_on, node_at}
use Rattle.ns_types.specs.Working.Snapshot.{live_on}
use Rattle.ns_live_index.specs.declared.live.Live.{Live}
use Rattle.ns_live_index.specs.declared.shown.SeenNode.{SeenNode}
use Rattle.ns_live_index.specs.declared.shown.ShownNode.{ShownNode}
use Rattle.ns_live_index.specs.declared.shown.ShownNodes.{ShownNodes}
use Rattle.ns_live_index.specs.Naming.{KeepsNames}
use Rattle.ns_live_index.specs.Until.{is_live_until, is_past, live_until, row_if, row_until}

-- ---- what is kept

abbrev pub kept_in : ShownNodes → Name → Name → Option ShownNode
kept_in shown pool name = option_and_then (λ nodes. row_at nodes name) (row_at shown.pools pool)

-- the node that is kept, if it is not behind
abbrev pub if_shown : Option ShownNode → Option PoolNode
if_shown None = None
if_shown (Some kept) = if kept.is_behind then None else Some kept.seen.node

-- the node that is kept, behind or not
abbrev pub if_seen : Option ShownNode → Option SeenNode
if_seen kept = option_map (λ k. k.seen) kept

abbrev pub shown_in : ShownNodes → Name → Name → Option PoolNode
shown_in shown pool name = if_shown (kept_in shown pool name)

abbrev pub base_in : ShownNodes → Name → Name → Option SeenNode
base_in shown pool name = if_seen (kept_in shown pool name)

abbrev pub shown_at : Live → Name → Name → Option PoolNode
shown_at live pool name = shown_in live.shown pool name

abbrev pub base_at : Live → Name → Name → Option SeenNode
base_at live pool name = base_in live.shown pool name

-- the same is kept of each node
abbrev pub ShowsSame : ShownNodes → ShownNodes → Type 0
ShowsSame old new = (pool name : Name) → kept_in new pool name ≡ kept_in old pool name

-- of one node this is kept, or nothing, and of the others the same as before
abbrev pub ShowsThere : Name → Name → Option ShownNode → ShownNodes → ShownNodes → Type 0
ShowsThere pool name kept old new = (p n : Name) →
    kept_in new p n ≡ (if same_name p pool && same_name n name then kept else kept_in old p n)

abbrev pub shown_so : SeenNode → Option ShownNode
shown_so seen = Some (record { seen = seen; is_behind = false })

abbrev pub as_behind : ShownNode → ShownNode
as_behind kept = record { seen = kept.seen; is_behind = true }

-- the node is kept, and the place comes after its last one
abbrev pub is_base_for : ℕ → Option ShownNode → Bool
is_base_for place kept = option_map_or (λ k. is_past k.seen.last place) kept false

-- what is kept of a node after a row at the place came or went: it is behind if the place is after its last, else forgotten
abbrev pub left_by : ℕ → Option ShownNode → Option ShownNode
left_by place None = None
left_by place (Some kept) = if is_past kept.seen.last place then Some (as_behind kept) else None

-- ---- when what is kept is right

-- the node as a snapshot has it, if it exists
abbrev pub node_seen : World → Name → Name → Option PoolNode
node_seen w pool name = option_map (λ row. record { name = name; row = row; live = live_on w pool name })
    (node_at w pool name)

-- Each node that is shown is as in the world. Of each node that is kept, the live allocations up to its last place are as in
-- the world; its own row may differ.
pub record AreShown (w : World) (live : Live) : Type 0 where
  pub nodes : (pool name : Name) (node : PoolNode) → shown_at live pool name ≡ Some node →
      node_seen w pool name ≡ Some node
  pub bases : (pool name : Name) (seen : SeenNode) → base_at live pool name ≡ Some seen →
      seen.node.live ≡ live_until w pool name seen.last

-- ---- what a change leaves shown

-- the row, if it is live on the node
abbrev pub live_row : Name → Name → Option Allocation → Option Allocation
live_row pool node = row_if (is_live_on pool node)

-- the same rows pass before and after, under the same keys
abbrev pub SamePass : (Allocation → Bool) → (Key → Option Allocation) → (Key → Option Allocation) → Type 0
SamePass passes before after = (key : Key) → row_if passes (after key) ≡ row_if passes (before key)

-- the same rows are live on the node
abbrev pub SameOn : Name → Name → (Key → Option Allocation) → (Key → Option Allocation) → Type 0
SameOn pool node = SamePass (is_live_on pool node)

-- the same rows are live on the node at places up to the last one
abbrev pub SameUntil : Name → Name → Option ℕ → (Key → Option Allocation) → (Key → Option Allocation) → Type 0
SameUntil pool node last = SamePass (is_live_until pool node last)

-- A node that is still shown was shown before, and the same rows are live on it before and after. A node that is still kept
-- was kept before, and the same rows are live on it up to its last place.
pub record ShowsUnmoved (before after : Key → Option Allocation) (old new : Live) : Type 0 where
  pub nodes : (pool name : Name) (node : PoolNode) → shown_at new pool name ≡ Some node →
      (shown_at old pool name ≡ Some node) × SameOn pool name before after
  pub bases : (pool name : Name) (seen : SeenNode) → base_at new pool name ≡ Some seen →
      (base_at old pool name ≡ Some seen) × SameUntil pool name seen.last before after

-- A node that is still shown was shown before, and the row is not live on it. A node that is still kept was kept before, and the
-- row is not one of its live allocations up to its last place.
pub record ForgetsRow (row : Option Allocation) (old new : ShownNodes) : Type 0 where
  pub nodes : (pool name : Name) (node : PoolNode) → shown_in new pool name ≡ Some node →
      (shown_in old pool name ≡ Some node) × (live_row pool name row ≡ None)
  pub bases : (pool name : Name) (seen : SeenNode) → base_in new pool name ≡ Some seen →
      (base_in old pool name ≡ Some seen) × (row_until pool name seen.last row ≡ None)

-- The row is not live on a node that is shown, and on a node that is kept it is not live up to the node's last place.
pub record HidesRow (row : Option Allocation) (shown : ShownNodes) : Type 0 where
  pub nodes : (pool name : Name) (node : PoolNode) → shown_in shown pool name ≡ Some node →
      live_row pool name row ≡ None
  pub bases : (pool name : Name) (seen : SeenNode) → base_in shown pool name ≡ Some seen →
      row_until pool name seen.last row ≡ None

-- a node that is still kept was kept so before
abbrev pub KeepsBases : Live → Live → Type 0
KeepsBases old new = (pool name : Name) (seen : SeenNode) → base_at new pool name ≡ Some seen →
    base_at old pool name ≡ Some seen

-- a node still shown was shown before, and is not a changed node of the pool; a node still kept was kept before
pub record ForgetsNodes (pool : Name) (changes : ByName (Option Node)) (old new : Live) : Type 0 where
  pub nodes : (p n : Name) (node : PoolNode) → shown_at new p n ≡ Some node →
      (shown_at old p n ≡ Some node) × (same_name p pool ≡ true → get changes n ≡ None)
  pub bases : KeepsBases old new

-- the same is kept of each node, and the names and totals of quotas stay
abbrev pub KeepsShown : Live → Live → Type 0
KeepsShown old new = (new.shown ≡ old.shown) × KeepsNames old new
