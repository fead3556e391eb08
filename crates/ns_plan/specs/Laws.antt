-- Laws of checking a plan: deciding node by node needs no state but the one after the stops, sums can be counted, and
-- plans have bounded lengths and nodes of their snapshot.
use Rattle.std.specs.Prelude.{◌≡◌, ◌≤◌, ℕ, List, Some, fold, length}
use Rattle.std.specs.FinMap.{get}
use Rattle.ns_types.specs.declared.plan.Placement.{Placement}
use Rattle.ns_types.specs.declared.snapshot.Snapshot.{Snapshot}
use Rattle.ns_types.specs.Working.Worker.{Worker}
use Rattle.ns_types.specs.Placing.Plan.{plan}
use Rattle.ns_types.specs.State.Names.{Name}
use Rattle.ns_types.specs.State.Rows.{State, Tenant, World}
use Rattle.ns_types.specs.Validity.{IsSound, IsValid}
use Rattle.ns_types.specs.Working.Commit.{Commit, begun, decide}
use Rattle.ns_plan.specs.Looks.{AreCounted, IsOnFewNodes}
use Rattle.ns_plan.specs.Reader.{Read, read_all}

-- both place, commit and drop the same
pub record DecidesAs (c : Commit) (r : Read) : Type 0 where
  pub placed : c.placed ≡ r.placed
  pub committed : c.committed ≡ r.committed
  pub dropped : c.dropped ≡ r.dropped

-- Deciding all nodes before anything is written gives the same result as taking each node's victims out of the state at
-- once.
abbrev pub ReadingDecides : Type 0
ReadingDecides = (kept : Snapshot) (placements : List Placement) (w : World) (nodes : List ℕ) →
    DecidesAs (fold (decide kept placements) (begun w) nodes) (read_all kept placements w nodes)

-- In a valid world the load of each node and the use of each quota can be counted.
abbrev pub SoundIsCounted : Type 0
SoundIsCounted = (w : World) → IsSound w → AreCounted w

-- The plan of each snapshot that a worker keeps in a valid state has at most 16,000 placements.
abbrev pub KeptIsBounded : Type 0
KeptIsBounded = (s : State) (ns : Name) (t : Tenant) (number : ℕ) (worker : Worker) (kept : Snapshot) → IsValid s →
    get s.world.tenants ns ≡ Some t → get t.workers number ≡ Some worker → worker.kept ≡ Some kept →
    length (plan kept).placing.placements ≤ 16000

-- The plan of each snapshot that a worker keeps in a valid state is on at most 1,000 nodes, all of them of the
-- snapshot, which has no node twice.
abbrev pub KeptIsOnFewNodes : Type 0
KeptIsOnFewNodes = (s : State) (ns : Name) (t : Tenant) (number : ℕ) (worker : Worker) (kept : Snapshot) → IsValid s →
    get s.world.tenants ns ≡ Some t → get t.workers number ≡ Some worker → worker.kept ≡ Some kept →
    IsOnFewNodes kept (plan kept)
