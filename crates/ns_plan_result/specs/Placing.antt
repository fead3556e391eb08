-- What must be left for placements: numbers of allocations, and places of nodes.
use Rattle.std.specs.Prelude.{◌≡◌, ◌+◌, ◌<◌, ◌^◌, List, Some, filter, length}
use Rattle.std.specs.FinMap.{get}
use Rattle.ns_types.specs.declared.node.Node.{Node}
use Rattle.ns_types.specs.declared.plan.Placement.{Placement}
use Rattle.ns_types.specs.declared.snapshot.Snapshot.{Snapshot}
use Rattle.ns_types.specs.State.Names.{Name, same_name}
use Rattle.ns_types.specs.State.Rows.{World, Tenant, node_at}
use Rattle.ns_types.specs.Working.Commit.{node_name}

-- the placements on the node with that name
abbrev pub on_node : Snapshot → Name → List Placement → List Placement
on_node kept name placed = filter (λ p. same_name (node_name kept p.node) name) placed

-- the snapshot's namespace has a number left for each placement, and each node a place for each placement on it
pub record CanPlace (kept : Snapshot) (placed : List Placement) (w : World) : Type 0 where
  pub numbers : (t : Tenant) → get w.tenants kept.namespace ≡ Some t → t.allocation_number + length placed < 2 ^ 64
  pub places : (name : Name) (node : Node) → node_at w kept.pool name ≡ Some node →
      node.places + length (on_node kept name placed) < 2 ^ 64
