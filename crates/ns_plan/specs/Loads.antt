-- The load of each node of a snapshot, and what each stop takes off it.
use Rattle.std.specs.Prelude.{◌≡◌, ◌≢◌, ℕ, ◌<◌, Bool, true, false, List, Option, Some, None, if◌then◌else◌, length, slice_get, slice_index_or, take}
use Rattle.std.specs.Option.{option_map_or}
use Rattle.ns_types.specs.declared.resources.Resources.{Resources}
use Rattle.ns_types.specs.declared.snapshot.PoolNode.{PoolNode}
use Rattle.ns_types.specs.declared.snapshot.Snapshot.{Snapshot}
use Rattle.ns_types.specs.State.Names.{Key, Name, has_number, same_name}
use Rattle.ns_types.specs.State.Resources.{none}
use Rattle.ns_types.specs.State.Rows.{World, allocation_at}
use Rattle.ns_types.specs.State.Sums.{node_load}
use Rattle.ns_types.specs.Working.Commit.{node_name}
use Rattle.ns_types.proofs.Once.{once}
use Rattle.ns_plan.specs.After.{part_on}
use Rattle.ns_plan.specs.Reader.{load_left}

-- the loads of the snapshot's nodes, by the node's place
abbrev pub AreLoads : World → Snapshot → List Resources → Type 0
AreLoads w kept loads = (k : ℕ) → k < length kept.nodes → (d : Resources) →
    slice_index_or loads k d ≡ node_load w kept.pool (node_name kept k)

-- the loads of the snapshot's nodes without the allocations at these keys, each counted once
abbrev pub AreLeft : World → Snapshot → List Key → List Resources → Type 0
AreLeft w kept keys loads = (k : ℕ) → k < length kept.nodes → (d : Resources) →
    slice_index_or loads k d ≡ load_left w kept.pool (node_name kept k) (once keys)

-- no two nodes of the snapshot have the same name
abbrev pub AreApart : Snapshot → Type 0
AreApart kept = (i j : ℕ) (m n : PoolNode) → slice_get kept.nodes i ≡ Some m → slice_get kept.nodes j ≡ Some n →
    m.name ≡ n.name → i ≡ j

-- whether the node at place k has that name
abbrev pub is_named : List PoolNode → Name → ℕ → Bool
is_named nodes name k = option_map_or (λ n. same_name n.name name) (slice_get nodes k) false

-- the place of a node with that name; none only if no node has it
abbrev pub IsPlaceOf : List PoolNode → Name → Option ℕ → Type 0
IsPlaceOf nodes name None = (k : ℕ) → is_named nodes name k ≡ false
IsPlaceOf nodes name (Some k) = is_named nodes name k ≡ true

-- what the stop at that place takes off the load of node k: nothing if its number stands earlier in the list too
abbrev pub taken : World → Snapshot → List ℕ → ℕ → ℕ → Resources
taken w kept stops place k =
    let number = slice_index_or stops place 0 in
    if has_number (take place stops) number then none
    else part_on kept.pool (node_name kept k) (allocation_at w (kept.namespace, number))

-- at most this one of all nodes loses something
abbrev pub IsTaken : Snapshot → (ℕ → Resources) → Option (ℕ × Resources) → Type 0
IsTaken kept part None = (k : ℕ) → k < length kept.nodes → part k ≡ none
IsTaken kept part (Some (node, size)) = (node < length kept.nodes) × (part node ≡ size)
    × ((k : ℕ) → k < length kept.nodes → k ≢ node → part k ≡ none)
