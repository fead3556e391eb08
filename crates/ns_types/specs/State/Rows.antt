-- The state: the rows of each namespace, node pool and quota, the access lists, and three lists of evaluations.
-- Nomad's pages on namespaces, node pools and resource quotas.
use Rattle.std.specs.Prelude.{ℕ, Bool, true, false, not, ◌&&◌, List, Option, filter}
use Rattle.std.specs.FinMap.{get}
use Rattle.std.specs.Option.{option_and_then}
use Rattle.ns_types.specs.declared.acl.Policy.{Policy}
use Rattle.ns_types.specs.declared.acl.Token.{Token}
use Rattle.ns_types.specs.declared.allocation.Allocation.{Allocation}
use Rattle.ns_types.specs.declared.allocation.ClientStatus.{ClientStatus}
use Rattle.ns_types.specs.declared.allocation.DesiredStatus.{DesiredStatus}
use Rattle.ns_types.specs.declared.evaluation.Evaluation.{Evaluation}
use Rattle.ns_types.specs.declared.evaluation.Status.{Status}
use Rattle.ns_types.specs.declared.event.Event.{Event}
use Rattle.ns_types.specs.declared.job.Job.{Job}
use Rattle.ns_types.specs.declared.node.Class.{Class}
use Rattle.ns_types.specs.declared.node.Node.{Node}
use Rattle.ns_types.specs.declared.node.NodeStatus.{NodeStatus}
use Rattle.ns_types.specs.declared.node.Offer.{Offer}
use Rattle.ns_types.specs.declared.records.Namespace.{Namespace}
use Rattle.ns_types.specs.declared.records.Pool.{Pool}
use Rattle.ns_types.specs.declared.records.Quota.{Quota}
use Rattle.ns_types.specs.Working.Worker.{Worker}
use Rattle.std.specs.Prelude.{codes}
use Rattle.ns_types.specs.State.Names.{Name, Key, ByName, ByNumber, ByClass, same_name, begins_with}

-- what a namespace owns
pub record Tenant : Type 0 where
  pub namespace : Namespace
  pub index : ℕ
  -- the last numbers that were given to an evaluation and to an allocation
  pub evaluation_number : ℕ
  pub allocation_number : ℕ
  pub jobs : ByName Job
  pub evaluations : ByNumber Evaluation
  pub allocations : ByNumber Allocation
  -- the workers that have one of its evaluations
  pub workers : ByNumber Worker
  -- its last 100 events, the newest last
  pub events : List Event

-- what a pool owns
pub record PoolRows : Type 0 where
  pub pool : Pool
  -- the number of its last release
  pub release : ℕ
  -- the number of the last release of each class
  pub classes : ByClass ℕ
  pub nodes : ByName Node

-- what a quota owns
pub record QuotaRows : Type 0 where
  pub quota : Quota
  pub release : ℕ

-- the state without the access lists
pub record World : Type 0 where
  pub tenants : ByName Tenant
  pub pools : ByName PoolRows
  pub quotas : ByName QuotaRows
  -- the evaluations that are ready, in the order in which they became ready
  pub ready : List Key
  -- the evaluations whose plans wait to be applied, in the order in which these were submitted
  pub plans : List Key
  -- the blocked evaluations, in the order in which they were blocked
  pub blocked : List Key

pub record Acl : Type 0 where
  pub policies : ByName Policy
  -- the tokens by their secrets
  pub tokens : ByName Token

pub record State : Type 0 where
  pub acl : Acl
  pub world : World

-- ---- statuses, and classes of nodes

abbrev pub is_run : DesiredStatus → Bool
is_run DesiredStatus.Run = true
is_run _ = false

abbrev pub is_held : ClientStatus → Bool
is_held ClientStatus.Pending = true
is_held ClientStatus.Running = true
is_held _ = false

abbrev pub is_complete : ClientStatus → Bool
is_complete ClientStatus.Complete = true
is_complete _ = false

-- an allocation is live if its desired status is `run`, and its client status is `pending` or `running`
abbrev pub is_live : Allocation → Bool
is_live a = is_run a.desired && is_held a.client

-- an allocation is done if its desired status is `run`, and its client status is `complete`
abbrev pub is_done : Allocation → Bool
is_done a = is_run a.desired && is_complete a.client

abbrev pub is_live_on : Name → Name → Allocation → Bool
is_live_on pool node a = is_live a && (same_name pool a.pool && same_name node a.node)

abbrev pub is_pending : Status → Bool
is_pending Status.Pending = true
is_pending _ = false

abbrev pub is_blocked : Status → Bool
is_blocked Status.Blocked = true
is_blocked _ = false

-- an evaluation is open if it is pending or blocked
abbrev pub is_open : Status → Bool
is_open Status.Pending = true
is_open Status.Blocked = true
is_open _ = false

abbrev pub is_ready : NodeStatus → Bool
is_ready NodeStatus.Ready = true
is_ready NodeStatus.Down = false

-- the node is ready and eligible, so it may take new allocations
abbrev pub is_free : Node → Bool
is_free node = is_ready node.status && node.eligible

abbrev pub is_unique : Name → Bool
is_unique key = begins_with (codes "unique.") key

-- the class of a node with that offer: its class name, and all of its attributes but the unique ones
abbrev pub offered_class : Offer → Class
offered_class offer = record {
  name = offer.class;
  attributes = filter (λ a. not (is_unique a.key)) offer.attributes;
}

abbrev pub class_of : Node → Class
class_of node = offered_class node.offer

-- ---- look-ups

abbrev pub evaluation_at : World → Key → Option Evaluation
evaluation_at w key = option_and_then (λ t. get t.evaluations key.1) (get w.tenants key.0)

abbrev pub allocation_at : World → Key → Option Allocation
allocation_at w key = option_and_then (λ t. get t.allocations key.1) (get w.tenants key.0)

abbrev pub node_at : World → Name → Name → Option Node
node_at w pool node = option_and_then (λ p. get p.nodes node) (get w.pools pool)
