-- Laws of nodes that go down.
use Rattle.std.specs.Prelude.{◌≡◌, ℕ, ◌≤◌, Some, IsTrue}
use Rattle.std.specs.FinMap.{get}
use Rattle.std.specs.List.{list_any}
use Rattle.ns_types.specs.declared.allocation.Allocation.{Allocation}
use Rattle.ns_types.specs.State.Lists.{Each}
use Rattle.ns_types.specs.State.Names.{Name, same_name}
use Rattle.ns_types.specs.Asking.Nodes.{losing_jobs}
use Rattle.ns_types.specs.State.Rows.{Tenant, is_live_on}

-- the allocation is live on the node, and has the least number among its job's live allocations there
pub record IsFirstOfJob (pool node : Name) (t : Tenant) (a : Allocation) : Type 0 where
  pub number : ℕ
  pub there : get t.allocations number ≡ Some a
  pub lives : IsTrue (is_live_on pool node a)
  pub least : (m : ℕ) (other : Allocation) → get t.allocations m ≡ Some other → IsTrue (is_live_on pool node other) →
      other.job ≡ a.job → number ≤ m

-- When a node goes down, each allocation for which an evaluation is made is the first of its job on the node.
abbrev pub LosersAreFirst : Type 0
LosersAreFirst = (pool node : Name) (t : Tenant) → Each (IsFirstOfJob pool node t) (losing_jobs pool node t)

-- When a node goes down, each job with a live allocation there has one of the allocations for which an evaluation is
-- made.
abbrev pub EachJobLoses : Type 0
EachJobLoses = (pool node : Name) (t : Tenant) (n : ℕ) (a : Allocation) → get t.allocations n ≡ Some a →
    IsTrue (is_live_on pool node a)
    → IsTrue (list_any (λ other. same_name a.job other.job) (losing_jobs pool node t))
