-- Laws of what statuses mean, of new evaluations, and of the class of a node.
use Rattle.std.specs.Prelude.{◌≡◌, ◌≤◌, ◌^◌, ◌↔◌, ◌⊎◌, ◌++◌, ℕ, List, [], None, IsTrue, IsFalse, codes}
use Rattle.std.specs.List.{Contains}
use Rattle.ns_types.specs.declared.allocation.Allocation.{Allocation}
use Rattle.ns_types.specs.declared.allocation.ClientStatus.{ClientStatus}
use Rattle.ns_types.specs.declared.allocation.DesiredStatus.{DesiredStatus}
use Rattle.ns_types.specs.declared.evaluation.Evaluation.{Evaluation}
use Rattle.ns_types.specs.declared.evaluation.Status.{Status}
use Rattle.ns_types.specs.declared.evaluation.Trigger.{Trigger}
use Rattle.ns_types.specs.declared.job.Document.{Document}
use Rattle.ns_types.specs.declared.node.Attribute.{Attribute}
use Rattle.ns_types.specs.declared.node.Node.{Node}
use Rattle.ns_types.specs.declared.node.NodeStatus.{NodeStatus}
use Rattle.ns_types.specs.Settling.Making.{evaluation_for, evaluation_of}
use Rattle.ns_types.specs.State.Names.{Name}
use Rattle.ns_types.specs.Steps.{is_tenant_past_bound}
use Rattle.ns_types.specs.State.Rows.{Tenant, class_of, is_blocked, is_done, is_free, is_live, is_live_on, is_open}
use Rattle.ns_types.specs.State.Rows.{is_pending, is_unique}

-- An allocation is live exactly if it is to run, and its client says that it is pending or running.
abbrev pub LiveAllocations : Type 0
LiveAllocations = (a : Allocation) → IsTrue (is_live a)
    ↔ (a.desired ≡ DesiredStatus.Run) × ((a.client ≡ ClientStatus.Pending) ⊎ (a.client ≡ ClientStatus.Running))

-- An allocation is live on a node exactly if it is live, and names that pool and that node.
abbrev pub LiveOnNodes : Type 0
LiveOnNodes = (pool node : Name) (a : Allocation) → IsTrue (is_live_on pool node a)
    ↔ IsTrue (is_live a) × (a.pool ≡ pool) × (a.node ≡ node)

-- An allocation is done exactly if it is to run, and its client says that it is complete.
abbrev pub DoneAllocations : Type 0
DoneAllocations = (a : Allocation) → IsTrue (is_done a)
    ↔ (a.desired ≡ DesiredStatus.Run) × (a.client ≡ ClientStatus.Complete)

-- An evaluation is open exactly if it is pending or blocked.
abbrev pub OpenEvaluations : Type 0
OpenEvaluations = (status : Status) → IsTrue (is_open status) ↔ (status ≡ Status.Pending) ⊎ (status ≡ Status.Blocked)

-- An evaluation is pending, or blocked, exactly if that is its status.
abbrev pub PendingAndBlocked : Type 0
PendingAndBlocked = (status : Status) → (IsTrue (is_pending status) ↔ (status ≡ Status.Pending))
    × (IsTrue (is_blocked status) ↔ (status ≡ Status.Blocked))

-- A node may take new allocations exactly if it is ready and eligible.
abbrev pub FreeNodes : Type 0
FreeNodes = (node : Node) → IsTrue (is_free node) ↔ (node.status ≡ NodeStatus.Ready) × IsTrue node.eligible

-- An attribute is unique to a node exactly if its key begins with `unique.`.
abbrev pub UniqueKeys : Type 0
UniqueKeys = (key : Name) → IsTrue (is_unique key) ↔ (rest : List ℕ) × (key ≡ codes "unique." ++ rest)

-- A node's class has the node's class name, and those of its attributes that are not unique to it.
abbrev pub ClassesOfNodes : Type 0
ClassesOfNodes = (node : Node) → ((class_of node).name ≡ node.offer.class)
    × ((a : Attribute) → Contains (class_of node).attributes a ↔ Contains node.offer.attributes a × IsFalse (is_unique a.key))

-- the evaluation was never given back, follows none and is followed by none, and was never blocked
pub record IsFresh (e : Evaluation) : Type 0 where
  pub is_pending : e.status ≡ Status.Pending
  pub no_nacks : e.nacks ≡ 0
  pub follows_none : e.previous ≡ None
  pub no_follower : e.follower ≡ None
  pub no_quota : e.quota ≡ None
  pub no_escape : IsFalse e.escapes
  pub no_class : e.infeasible ≡ []

-- An evaluation that is made for a job, or for the job of an allocation, begins so.
abbrev pub NewEvaluations : Type 0
NewEvaluations = ((job : Name) (document : Document) (trigger : Trigger) → IsFresh (evaluation_of job document trigger))
    × ((t : Tenant) (a : Allocation) (trigger : Trigger) → IsFresh (evaluation_for t a trigger))

-- A namespace is past a bound exactly if its index, evaluation number or allocation number is 2^64 or more.
abbrev pub NamespacesPastBound : Type 0
NamespacesPastBound = (t : Tenant) → IsTrue (is_tenant_past_bound t)
    ↔ (2 ^ 64 ≤ t.index) ⊎ (2 ^ 64 ≤ t.evaluation_number) ⊎ (2 ^ 64 ≤ t.allocation_number)
