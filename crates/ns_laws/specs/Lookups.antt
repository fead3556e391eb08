-- Laws of look-ups: what is found under a name or a number, and what a list has.
use Rattle.std.specs.Prelude.{◌≡◌, ◌↔◌, ℕ, List, Some, IsTrue}
use Rattle.std.specs.FinMap.{get}
use Rattle.std.specs.List.{Contains}
use Rattle.ns_types.specs.declared.allocation.Allocation.{Allocation}
use Rattle.ns_types.specs.declared.evaluation.Evaluation.{Evaluation}
use Rattle.ns_types.specs.declared.node.Node.{Node}
use Rattle.ns_types.specs.State.Names.{Key, Name, has_key, has_name, has_number}
use Rattle.ns_types.specs.State.Rows.{World, Tenant, PoolRows, allocation_at, evaluation_at, node_at}
use Rattle.ns_types.specs.Working.Looks.{worker_at}
use Rattle.ns_types.specs.Working.Queue.{priority_at}
use Rattle.ns_types.specs.Working.Worker.{Worker}

-- ---- rows

-- The evaluation of a number in a namespace is the one that the namespace has under that number.
abbrev pub EvaluationsAreFound : Type 0
EvaluationsAreFound = (w : World) (ns : Name) (n : ℕ) (e : Evaluation) → (evaluation_at w (ns, n) ≡ Some e)
    ↔ ((t : Tenant) × (get w.tenants ns ≡ Some t) × (get t.evaluations n ≡ Some e))

-- The allocation of a number in a namespace is the one that the namespace has under that number.
abbrev pub AllocationsAreFound : Type 0
AllocationsAreFound = (w : World) (ns : Name) (n : ℕ) (a : Allocation) → (allocation_at w (ns, n) ≡ Some a)
    ↔ ((t : Tenant) × (get w.tenants ns ≡ Some t) × (get t.allocations n ≡ Some a))

-- A worker's row in a namespace is the one that the namespace has under the worker's number.
abbrev pub WorkersAreFound : Type 0
WorkersAreFound = (w : World) (ns : Name) (number : ℕ) (worker : Worker) → (worker_at w number ns ≡ Some worker)
    ↔ ((t : Tenant) × (get w.tenants ns ≡ Some t) × (get t.workers number ≡ Some worker))

-- The node of a name in a pool is the one that the pool has under that name.
abbrev pub NodesAreFound : Type 0
NodesAreFound = (w : World) (pool name : Name) (node : Node) → (node_at w pool name ≡ Some node)
    ↔ ((p : PoolRows) × (get w.pools pool ≡ Some p) × (get p.nodes name ≡ Some node))

-- An entry of a queue has the priority of its evaluation.
abbrev pub PrioritiesAreFound : Type 0
PrioritiesAreFound = (w : World) (key : Key) (e : Evaluation) → evaluation_at w key ≡ Some e → priority_at w key ≡ e.priority

-- ---- lists

-- A list has a name exactly if one of its elements is that name.
abbrev pub NamesAreListed : Type 0
NamesAreListed = (names : List Name) (name : Name) → IsTrue (has_name names name) ↔ Contains names name

-- A list has a number exactly if one of its elements is that number.
abbrev pub NumbersAreListed : Type 0
NumbersAreListed = (numbers : List ℕ) (n : ℕ) → IsTrue (has_number numbers n) ↔ Contains numbers n

-- A list has a key exactly if one of its elements is that namespace and that number.
abbrev pub KeysAreListed : Type 0
KeysAreListed = (keys : List Key) (key : Key) → IsTrue (has_key keys key) ↔ Contains keys key
