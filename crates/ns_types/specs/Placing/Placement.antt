-- The choice of a node among those with room.
-- Nomad's page "How Nomad job placement works".
use Rattle.std.specs.Prelude.{ℕ, ◌-◌, Bool, ◌&&◌, List, Option}
use Rattle.std.specs.Cmp.Lexicographic.{slice_cmp}
use Rattle.std.specs.Ordering.{is_lt, nat_cmp, on, then_cmp}
use Rattle.std.specs.declared.cmp.Ordering.{Ordering}
use Rattle.ns_types.specs.declared.snapshot.LiveAllocation.{LiveAllocation}
use Rattle.ns_types.specs.declared.resources.Resources.{Resources}
use Rattle.ns_types.specs.Placing.Choice.{best}
use Rattle.ns_types.specs.State.Resources.{by_each, is_within, quantity}

-- a node as a plan sees it: whether it is feasible for the job, what is left of it, and the allocations that the job may evict
-- there, in the order in which they are evicted
pub record Candidate : Type 0 where
  pub name : List ℕ
  pub feasible : Bool
  pub left : Resources
  pub evictable : List LiveAllocation

-- the node is feasible, and has room for the size
abbrev pub fits : Resources → Candidate → Bool
fits size c = c.feasible && is_within size c.left

-- nodes are compared by the CPU left afterwards, then the memory left, then the disk left, then the name; the least is best
abbrev pub compare_left : Resources → Candidate → Candidate → Ordering
compare_left size =
    then_cmp (by_each (λ r c. quantity r c.left - quantity r size)) (on (λ c. c.name) (slice_cmp nat_cmp))

abbrev pub better : Resources → Candidate → Candidate → Bool
better size a b = is_lt (compare_left size a b)

-- the place of the best of the nodes that fit
abbrev pub best_fit : Resources → List Candidate → Option ℕ
best_fit size = best (fits size) (better size)
