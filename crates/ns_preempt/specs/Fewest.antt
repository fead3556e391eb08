-- How many victims a node has.
use Rattle.std.specs.Prelude.{◌≡◌, ◌≤◌, ℕ, IsTrue, Some, length, take}
use Rattle.ns_types.specs.declared.resources.Resources.{Resources}
use Rattle.ns_types.specs.Placing.Placement.{Candidate}
use Rattle.ns_types.specs.Placing.Preemption.{makes_room, victims}

-- the first n of the allocations that may be evicted make room, and are the node's victims
pub record IsFewest (size : Resources) (c : Candidate) (n : ℕ) : Type 0 where
  pub within : n ≤ length c.evictable
  pub room : IsTrue (makes_room size c (take n c.evictable))
  pub fewest : victims size c ≡ Some (take n c.evictable)
