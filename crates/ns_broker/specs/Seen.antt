-- What a snapshot has from the slots of tables.
use Rattle.std.specs.Prelude.{◌≡◌, ◌≤◌, ◌+◌, ℕ, Bool, ◌&&◌, ◌||◌, ◌++◌, if◌then◌else◌, List, [], ◌∷◌, Option, Some, None, fold, length}
use Rattle.std.specs.Option.{option_and_then, option_map_or}
use Rattle.std.specs.FinMap.{contains_key, empty, entries, insert, len, values}
use Rattle.std.specs.List.{sum_by}
use Rattle.keyed.specs.Table.{row_at, rows}
use Rattle.ns_types.specs.declared.allocation.Allocation.{Allocation}
use Rattle.ns_types.specs.declared.job.Job.{Job}
use Rattle.ns_types.specs.declared.node.Node.{Node}
use Rattle.ns_types.specs.declared.snapshot.LiveAllocation.{LiveAllocation}
use Rattle.ns_types.specs.declared.snapshot.OwnAllocation.{OwnAllocation}
use Rattle.ns_types.specs.declared.snapshot.PoolNode.{PoolNode}
use Rattle.ns_types.specs.State.Lists.{Each}
use Rattle.ns_types.specs.State.Names.{Name, ByName, ByNumber, same_name}
use Rattle.ns_types.specs.State.Resources.{IsCounted}
use Rattle.ns_types.specs.State.Rows.{World, Tenant, is_live, node_at}
use Rattle.ns_types.specs.State.Sums.{quota_use}
use Rattle.ns_types.specs.Working.Snapshot.{is_done_for, live_on, seen_live}
use Rattle.ns_tables.specs.declared.tables.TenantRows.{TenantRows}
use Rattle.keyed.specs.declared.key_set.KeySet.{KeySet}
use Rattle.ns_live_index.specs.declared.shown.SeenNode.{SeenNode}
use Rattle.ns_live_index.specs.Until.{is_past, last_number, live_until}

-- ---- the job's own allocations

abbrev pub is_own : Name → Option Job → Allocation → Bool
is_own id job a = same_name id a.job && (is_live a || is_done_for job a)

abbrev pub own_at : Name → Option Job → ℕ × Option Allocation → List OwnAllocation
own_at id job (n, None) = []
own_at id job (n, Some a) = if is_own id job a then record { number = n; row = a } ∷ [] else []

-- ---- the live allocations of a node, by place: if several have one place, the first that is added is kept

abbrev pub seen_row : Name → ℕ → Allocation → ℕ × LiveAllocation
seen_row ns n a = (a.place, seen_live (ns, (n, a)))

abbrev pub add_seen : {X : Type 0} → ByNumber X → ℕ × X → ByNumber X
add_seen seen e = if contains_key seen e.0 then seen else insert seen e.0 e.1

-- an allocation is added only if its place is after the last one
abbrev pub add_past : {X : Type 0} → Option ℕ → ByNumber X → ℕ × X → ByNumber X
add_past last seen e = if is_past last e.0 then add_seen seen e else seen

-- the allocation at a number of the index is added
abbrev pub add_number : Option ℕ → Name → ByNumber (Option Allocation) → ByNumber LiveAllocation → ℕ × Option Unit
    → ByNumber LiveAllocation
add_number last ns allocations seen (n, None) = seen
add_number last ns allocations seen (n, Some key) =
    option_map_or (λ a. add_past last seen (seen_row ns n a)) (row_at allocations n) seen

-- the allocations at the numbers of a namespace are added
abbrev pub add_namespace : Option ℕ → ByName (Option TenantRows) → ByNumber LiveAllocation →
    Name × Option (ByNumber (Option Unit)) → ByNumber LiveAllocation
add_namespace last tenants seen (ns, None) = seen
add_namespace last tenants seen (ns, Some numbers) =
    option_map_or (λ t. fold (add_number last ns t.allocations.slots) seen (entries numbers)) (row_at tenants ns) seen

-- the allocations at the keys whose places are after the last one, by place
abbrev pub placed_after : Option ℕ → ByName (Option TenantRows) → KeySet → ByNumber LiveAllocation
placed_after last tenants keys = fold (add_namespace last tenants) empty (entries keys.numbers)

-- ---- how many of the keys have an allocation that is placed after the last one

-- one, if the allocation at a number of the index is placed after the last one, and otherwise zero
abbrev pub past_at : Option ℕ → ByNumber (Option Allocation) → ℕ × Option Unit → ℕ
past_at last allocations (n, None) = 0
past_at last allocations (n, Some key) =
    option_map_or (λ a. if is_past last a.place then 1 else 0) (row_at allocations n) 0

abbrev pub past_in : Option ℕ → ByNumber (Option Allocation) → List (ℕ × Option Unit) → ℕ
past_in last allocations slots = sum_by (past_at last allocations) slots

-- how many of a namespace's keys have an allocation that is placed after the last one
abbrev pub past_of : Option ℕ → ByName (Option TenantRows) → Name × Option (ByNumber (Option Unit)) → ℕ
past_of last tenants (ns, None) = 0
past_of last tenants (ns, Some numbers) =
    option_map_or (λ t. past_in last t.allocations.slots (entries numbers)) (row_at tenants ns) 0

abbrev pub past_among : Option ℕ → ByName (Option TenantRows) → List (Name × Option (ByNumber (Option Unit))) → ℕ
past_among last tenants slots = sum_by (past_of last tenants) slots

-- how many keys a namespace has
abbrev pub key_count : Name × Option (ByNumber (Option Unit)) → ℕ
key_count (ns, None) = 0
key_count (ns, Some numbers) = len (rows numbers)

abbrev pub keys_among : List (Name × Option (ByNumber (Option Unit))) → ℕ
keys_among slots = sum_by key_count slots

-- ---- the live allocations of a node, from those of a base, if there is one

abbrev pub base_rows : Option SeenNode → List LiveAllocation
base_rows base = option_map_or (λ b. b.node.live) base []

abbrev pub base_last : Option SeenNode → Option ℕ
base_last base = option_and_then (λ b. b.last) base

-- the allocations of the base and those placed after its last one are together no more than the keys
abbrev pub FitsKeys : ByName (Option TenantRows) → KeySet → Option SeenNode → Type 0
FitsKeys tenants keys base = past_among (base_last base) tenants (entries keys.numbers) + length (base_rows base)
    ≤ keys_among (entries keys.numbers)

-- behind the allocations of the base come those that are placed after its last one
pub record FollowsBase (tenants : ByName (Option TenantRows)) (keys : KeySet) (base : Option SeenNode)
    (live : List LiveAllocation) (last : Option ℕ) : Type 0 where
  pub rows : live ≡ base_rows base ++ values (placed_after (base_last base) tenants keys)
  pub place : last ≡ last_number (base_last base) (entries (placed_after (base_last base) tenants keys))

-- these are all live allocations on the node, and none is placed after `last`
pub record AreSeenOn (w : World) (pool node : Name) (live : List LiveAllocation) (last : Option ℕ) : Type 0 where
  pub rows : live ≡ live_on w pool node
  pub place : live ≡ live_until w pool node last

-- the node as it is in the world, with the place of the last of its live allocations
pub record IsSeenNode (w : World) (pool name : Name) (row : Node) (seen : SeenNode) : Type 0 where
  pub node : seen.node ≡ record { name = name; row = row; live = live_on w pool name }
  pub last : seen.node.live ≡ live_until w pool name seen.last

-- ---- the nodes of a pool

abbrev pub node_at_slot : World → Name → Name × Option Node → List PoolNode
node_at_slot w pool (name, None) = []
node_at_slot w pool (name, Some row) = record { name = name; row = row; live = live_on w pool name } ∷ []

-- if the slot has a node, it is the pool's node of that name
abbrev pub IsNodeOf : World → Name → Name × Option Node → Type 0
IsNodeOf w pool slot = (row : Node) → slot.1 ≡ Some row → node_at w pool slot.0 ≡ Some row

abbrev pub AreNodesOf : World → Name → List (Name × Option Node) → Type 0
AreNodesOf w pool slots = Each (IsNodeOf w pool) slots

-- ---- the quota

-- what is used of the namespace's quota fits 64 bits
abbrev pub UseOfFits : World → Tenant → Type 0
UseOfFits w t = (q : Name) → t.namespace.quota ≡ Some q → IsCounted (quota_use w q)
