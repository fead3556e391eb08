-- Of all that holds of a valid state, what is said of allocations.
use Rattle.std.specs.Prelude.{◌≡◌, ℕ, Some, IsTrue}
use Rattle.std.specs.FinMap.{get}
use Rattle.ns_types.specs.declared.allocation.Allocation.{Allocation}
use Rattle.ns_types.specs.declared.node.Node.{Node}
use Rattle.ns_types.specs.declared.step.Step.{Step}
use Rattle.ns_types.specs.State.Names.{Name, Key}
use Rattle.ns_types.specs.State.Resources.{is_within}
use Rattle.ns_types.specs.State.Rows.{State, World, Tenant, node_at}
use Rattle.ns_types.specs.Steps.{Answer, said, after, opening}
use Rattle.ns_types.specs.State.Sums.{node_load}
use Rattle.ns_types.specs.Validity.{IsSoundAllocation, IsLiveAt, IsValid}
use Rattle.ns_types.specs.Within.{IsGoodStep}

-- each is sound, of the live ones of a node no two have one place, and what they take is within what the node has
pub record IsAllocated (w : World) : Type 0 where
  pub allocation : (ns : Name) (t : Tenant) (n : ℕ) (a : Allocation) → get w.tenants ns ≡ Some t →
      get t.allocations n ≡ Some a → IsSoundAllocation w t n a
  pub one_place : (a b : Key) (x y : Allocation) → IsLiveAt w a x → IsLiveAt w b y → x.pool ≡ y.pool → x.node ≡ y.node →
      x.place ≡ y.place → a ≡ b
  pub within : (pool name : Name) (node : Node) → node_at w pool name ≡ Some node →
      IsTrue (is_within (node_load w pool name) node.offer.capacity)

-- Each step leads from a valid state to one whose allocations are so.
abbrev pub AllocationsStep : Type 0
AllocationsStep = (s s' : State) (step : Step) (answer : Answer) → IsValid s → IsGoodStep step →
    after step s ≡ said answer s' → IsAllocated s'.world

-- The opening state's are.
abbrev pub AllocationsOpening : Type 0
AllocationsOpening = (secret : Name) → IsAllocated (opening secret).world
