-- The index of live allocations beside the namespaces whose allocations they are, and the nodes that are shown.
use Rattle.std.specs.Prelude.{◌≡◌, Option, Some, None}
use Rattle.std.specs.FinMap.{FinMap, get}
use Rattle.std.specs.Option.{option_and_then}
use Rattle.keyed.specs.Table.{row_at}
use Rattle.ns_types.specs.declared.allocation.Allocation.{Allocation}
use Rattle.ns_types.specs.declared.snapshot.PoolNode.{PoolNode}
use Rattle.ns_types.specs.State.Names.{Name, Key, ByName, name_cmp}
use Rattle.ns_types.specs.State.Rows.{Tenant}
use Rattle.ns_change.specs.declared.change.PoolChange.{PoolChange}
use Rattle.ns_change.specs.declared.change.SettledTenant.{SettledTenant}
use Rattle.ns_live_index.specs.declared.live.Live.{Live}
use Rattle.ns_live_index.specs.Index.{HasRoomForAll, Indexes}
use Rattle.ns_live_index.specs.Shown.{KeepsBases, shown_at}

abbrev pub allocation_in : ByName Tenant → Key → Option Allocation
allocation_in tenants key = option_and_then (λ t. get t.allocations key.1) (get tenants key.0)

-- the index is right for the namespaces
abbrev pub IsRightFor : ByName Tenant → Live → Type 0
IsRightFor tenants live = Indexes (allocation_in tenants) live

-- room in the index for each changed allocation that is live
abbrev pub HasIndexRoom : FinMap name_cmp (Option SettledTenant) → Live → Type 0
HasIndexRoom changes live = (name : Name) (x : SettledTenant) → row_at changes name ≡ Some x →
    HasRoomForAll live name x.rows.allocations

-- a node that is still shown was shown before, and does not change
pub record ForgetsChanged (changes : FinMap name_cmp (Option PoolChange)) (old new : Live) : Type 0 where
  pub nodes : (pool name : Name) (node : PoolNode) → shown_at new pool name ≡ Some node →
      (shown_at old pool name ≡ Some node) × ((x : PoolChange) → row_at changes pool ≡ Some x → get x.nodes name ≡ None)
  pub bases : KeepsBases old new
