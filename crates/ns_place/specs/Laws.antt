-- Laws of the order in which nodes take allocations of one size.
use Rattle.std.specs.Prelude.{ℕ, ◌<◌, List, [], ◌∷◌, length}
use Rattle.ns_types.specs.declared.resources.Resources.{Resources}
use Rattle.ns_types.specs.Placing.Placement.{Candidate}
use Rattle.ns_types.specs.Placing.Planning.{placed_on, update}
use Rattle.ns_place.specs.Order.{Walk, walk, IsOrder, IsNextNode}

-- After the next node has taken the size, the order is still right for the nodes.
abbrev pub NextKeepsOrder : Type 0
NextKeepsOrder = (w : Walk) (cs : List Candidate) (k : ℕ) → IsOrder w cs → IsNextNode w cs k →
    IsOrder w (update k (placed_on w.size []) cs)

-- If no node is left to try and then one node changes, that node alone is an order: no other can have room.
abbrev pub ChangedAloneIsOrder : Type 0
ChangedAloneIsOrder = (size : Resources) (cs : List Candidate) (k : ℕ) (change : Candidate → Candidate) →
    k < length cs → IsOrder (walk size []) cs → IsOrder (walk size (k ∷ [])) (update k change cs)
