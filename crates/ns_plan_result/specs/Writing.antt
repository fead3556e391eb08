-- What is written of a plan, given the nodes that do their part.
use Rattle.std.specs.Prelude.{◌≡◌, ℕ, List, fold}
use Rattle.ns_types.specs.declared.plan.Placement.{Placement}
use Rattle.ns_types.specs.declared.snapshot.Snapshot.{Snapshot}
use Rattle.ns_types.specs.State.Rows.{World}
use Rattle.ns_types.specs.Working.Commit.{Commit, begun, decide, evict_all, victims_of}
pub use Rattle.ns_types.specs.Working.Parts.{placed_on}

-- the victims of these placements are evicted
abbrev pub evict_victims : Snapshot → List Placement → World → World
evict_victims kept placed w = evict_all w (victims_of w kept placed)

-- Evicting the victims of the nodes that do their part, once these nodes are known, leaves the world that deciding node
-- by node leaves.
abbrev pub EvictingIsDeciding : Type 0
EvictingIsDeciding = (kept : Snapshot) (placements : List Placement) (w : World) (nodes : List ℕ) →
    let c : Commit = fold (decide kept placements) (begun w) nodes in
    c.world ≡ evict_victims kept (placed_on c.committed placements) w
