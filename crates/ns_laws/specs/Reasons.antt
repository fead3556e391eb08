-- Laws of refusals: for which reasons each request is refused, and which reason comes first.
use Rattle.std.specs.Prelude.{◌≡◌, ◌≢◌, ◌≤◌, ◌<◌, ◌↔◌, ◌⊎◌, ℕ, List, Option, Some, None, Err, IsTrue, IsFalse}
use Rattle.std.specs.FinMap.{get, len}
use Rattle.std.specs.List.{Contains}
use Rattle.ns_types.specs.declared.acl.Policy.{Policy}
use Rattle.ns_types.specs.declared.acl.Token.{Token}
use Rattle.ns_types.specs.declared.allocation.Allocation.{Allocation}
use Rattle.ns_types.specs.declared.allocation.ClientStatus.{ClientStatus}
use Rattle.ns_types.specs.declared.evaluation.Evaluation.{Evaluation}
use Rattle.ns_types.specs.declared.job.Job.{Job}
use Rattle.ns_types.specs.declared.job.Registration.{Registration}
use Rattle.ns_types.specs.declared.node.Node.{Node}
use Rattle.ns_types.specs.declared.node.NodeStatus.{NodeStatus}
use Rattle.ns_types.specs.declared.node.Offer.{Offer}
use Rattle.ns_types.specs.declared.records.Namespace.{Namespace}
use Rattle.ns_types.specs.declared.records.Pool.{Pool}
use Rattle.ns_types.specs.declared.records.Quota.{Quota}
use Rattle.ns_types.specs.declared.refusal.Member.{Member}
use Rattle.ns_types.specs.declared.refusal.Refusal.{Refusal}
use Rattle.ns_types.specs.declared.snapshot.Snapshot.{Snapshot}
use Rattle.ns_types.specs.declared.step.AdminCommand.{AdminCommand}
use Rattle.ns_types.specs.declared.step.AskCommand.{AskCommand}
use Rattle.ns_types.specs.declared.step.NewToken.{NewToken}
use Rattle.ns_types.specs.declared.step.NodeCommand.{NodeCommand}
use Rattle.ns_types.specs.declared.step.Report.{Report}
use Rattle.ns_types.specs.declared.step.Step.{Step}
use Rattle.ns_types.specs.Access.Sharing.{permits}
use Rattle.ns_types.specs.Asking.Asks.{most_jobs}
use Rattle.ns_types.specs.Asking.Policies.{bootstrap_accessor}
use Rattle.ns_types.specs.State.Names.{Name, ByName, default_name}
use Rattle.ns_types.specs.State.Resources.{Resource, quantity}
use Rattle.ns_types.specs.State.Rows.{State, World, Tenant, PoolRows, allocation_at, node_at, is_held, is_live, is_open}
use Rattle.ns_types.specs.State.Sums.{node_load}
use Rattle.ns_types.specs.Steps.{after, said, is_allowed}
use Rattle.ns_types.specs.Working.Worker.{Worker}
use Rattle.ns_audit.specs.Refusals.{SpeaksAgainst, rank, would_pass_bound}

-- ---- not found

-- the job, the evaluation or the allocation that a request names is not in the namespace, or the quota is not its own
abbrev pub MissesRow : AskCommand → Tenant → Type 0
MissesRow (AskCommand.ReadJob id) t = get t.jobs id ≡ None
MissesRow (AskCommand.Deregister id purge) t = get t.jobs id ≡ None
MissesRow (AskCommand.ReadEvaluation n) t = get t.evaluations n ≡ None
MissesRow (AskCommand.ReadAllocation n) t = get t.allocations n ≡ None
MissesRow (AskCommand.StopAllocation n) t = get t.allocations n ≡ None
MissesRow (AskCommand.QuotaUsage quota) t = t.namespace.quota ≢ Some quota
MissesRow _ t = ⊥

-- no token has that accessor
abbrev pub NoTokenHas : Name → State → Type 0
NoTokenHas accessor s = (secret : Name) (token : Token) → get s.acl.tokens secret ≡ Some token →
    token.accessor ≢ accessor

-- the namespace, quota, pool or policy that an administrator names is not there, or no token has that accessor
abbrev pub MissesRecord : AdminCommand → State → Type 0
MissesRecord (AdminCommand.DeleteNamespace name) s = get s.world.tenants name ≡ None
MissesRecord (AdminCommand.ReadQuota name) s = get s.world.quotas name ≡ None
MissesRecord (AdminCommand.DeleteQuota name) s = get s.world.quotas name ≡ None
MissesRecord (AdminCommand.DeletePool name) s = get s.world.pools name ≡ None
MissesRecord (AdminCommand.ReadPolicy name) s = get s.acl.policies name ≡ None
MissesRecord (AdminCommand.DeletePolicy name) s = get s.acl.policies name ≡ None
MissesRecord (AdminCommand.DeleteToken accessor) s = NoTokenHas accessor s
MissesRecord _ s = ⊥

-- no allocation with the reported number is on that node
abbrev pub NotOnNode : Name → Name → Report → World → Type 0
NotOnNode pool node report w = (a : Allocation) → allocation_at w (report.namespace, report.number) ≡ Some a →
    a.pool ≡ pool → a.node ≢ node

-- the node that a request names is not in the pool, or the allocation of a report is not on the node
abbrev pub MissesNode : Name → NodeCommand → World → Type 0
MissesNode pool (NodeCommand.DeleteNode name) w = node_at w pool name ≡ None
MissesNode pool (NodeCommand.SetStatus name status) w = node_at w pool name ≡ None
MissesNode pool (NodeCommand.SetEligible name eligible) w = node_at w pool name ≡ None
MissesNode pool (NodeCommand.Report name report) w = (node_at w pool name ≡ None) ⊎ NotOnNode pool name report w
MissesNode pool _ w = ⊥

-- what a request names is not there: its namespace or its pool, or something in it, or an administrator's record
pub data IsMissing (s : State) : Step → Type 0 where
  no_namespace : {ns : Name} {secret : Option Name} {command : AskCommand} → get s.world.tenants ns ≡ None →
      IsMissing s (Step.Ask ns secret command)
  no_row : {ns : Name} {secret : Option Name} {command : AskCommand} (t : Tenant) → get s.world.tenants ns ≡ Some t →
      MissesRow command t → IsMissing s (Step.Ask ns secret command)
  no_record : {secret : Option Name} {command : AdminCommand} → MissesRecord command s →
      IsMissing s (Step.Admin secret command)
  no_pool : {pool : Name} {secret : Option Name} {command : NodeCommand} → get s.world.pools pool ≡ None →
      IsMissing s (Step.Node pool secret command)
  no_node : {pool : Name} {secret : Option Name} {command : NodeCommand} → MissesNode pool command s.world →
      IsMissing s (Step.Node pool secret command)

-- ---- bad field

-- a namespace that is put names a quota or a pool that is not there
pub data IsUnknown (s : State) (namespace : Namespace) : Member → Type 0 where
  quota : (quota : Name) → namespace.quota ≡ Some quota → get s.world.quotas quota ≡ None →
      IsUnknown s namespace Member.Quota
  default_pool : get s.world.pools namespace.default_pool ≡ None → IsUnknown s namespace Member.Default
  allowed_pool : (allowed : List Name) (pool : Name) → namespace.allowed ≡ Some allowed →
      Contains allowed pool → get s.world.pools pool ≡ None → IsUnknown s namespace Member.Allowed

-- ---- conflict

-- A client may not report that status: it is not the allocation's, and the allocation has ended, or the reported status
-- is `pending` or `lost`.
pub record IsNoSuccessor (old new : ClientStatus) : Type 0 where
  pub differs : old ≢ new
  pub why : IsFalse (is_held old) ⊎ (new ≡ ClientStatus.Pending) ⊎ (new ≡ ClientStatus.Lost)

-- An allocation to stop is not live, a client reports a status that may not follow, or a new token has the secret or
-- the accessor of another.
pub data IsConflict (s : State) : Step → Type 0 where
  not_live : {ns : Name} {secret : Option Name} {n : ℕ} (a : Allocation) → allocation_at s.world (ns, n) ≡ Some a →
      IsFalse (is_live a) → IsConflict s (Step.Ask ns secret (AskCommand.StopAllocation n))
  no_successor : {pool : Name} {secret : Option Name} {name : Name} {report : Report} (a : Allocation) →
      allocation_at s.world (report.namespace, report.number) ≡ Some a → IsNoSuccessor a.client report.client →
      IsConflict s (Step.Node pool secret (NodeCommand.Report name report))
  same_secret : {secret : Option Name} {new : NewToken} (token : Token) → get s.acl.tokens new.secret ≡ Some token →
      IsConflict s (Step.Admin secret (AdminCommand.CreateToken new))
  same_accessor : {secret : Option Name} {new : NewToken} (other : Name) (token : Token) →
      get s.acl.tokens other ≡ Some token → token.accessor ≡ new.accessor →
      IsConflict s (Step.Admin secret (AdminCommand.CreateToken new))

-- ---- in use

-- a namespace has an open evaluation or a live allocation
pub data IsActive (t : Tenant) : Type 0 where
  open_evaluation : (n : ℕ) (e : Evaluation) → get t.evaluations n ≡ Some e → IsTrue (is_open e.status) → IsActive t
  live_allocation : (n : ℕ) (a : Allocation) → get t.allocations n ≡ Some a → IsTrue (is_live a) → IsActive t

-- a job, an open evaluation or a worker's snapshot of a namespace names the pool
pub data NamesPool (t : Tenant) (pool : Name) : Type 0 where
  a_job : (id : Name) (job : Job) → get t.jobs id ≡ Some job → job.document.pool ≡ pool → NamesPool t pool
  open_evaluation : (n : ℕ) (e : Evaluation) → get t.evaluations n ≡ Some e → IsTrue (is_open e.status) →
      e.pool ≡ pool → NamesPool t pool
  a_snapshot : (number : ℕ) (worker : Worker) (kept : Snapshot) → get t.workers number ≡ Some worker →
      worker.kept ≡ Some kept → kept.pool ≡ pool → NamesPool t pool

-- the same, or a live allocation of the namespace is in the pool
pub data UsesPool (t : Tenant) (pool : Name) : Type 0 where
  names : NamesPool t pool → UsesPool t pool
  live_allocation : (n : ℕ) (a : Allocation) → get t.allocations n ≡ Some a → IsTrue (is_live a) → a.pool ≡ pool →
      UsesPool t pool

-- the put of a namespace takes a pool from it that it uses, or changes its quota while it is active
pub data NeedsOld (namespace : Namespace) (t : Tenant) : Type 0 where
  pool : (pool : Name) → IsTrue (permits t.namespace pool) → IsFalse (permits namespace pool) → UsesPool t pool →
      NeedsOld namespace t
  quota : t.namespace.quota ≢ namespace.quota → IsActive t → NeedsOld namespace t

-- the default namespace is never deleted, and no other one while it has a job or is active
pub data KeepsNamespace (s : State) (name : Name) : Type 0 where
  by_default : name ≡ default_name → KeepsNamespace s name
  a_job : (t : Tenant) (id : Name) (job : Job) → get s.world.tenants name ≡ Some t → get t.jobs id ≡ Some job →
      KeepsNamespace s name
  active : (t : Tenant) → get s.world.tenants name ≡ Some t → IsActive t → KeepsNamespace s name

-- The default pool is never deleted. No other one is deleted while it has a node, while a namespace has it as its
-- default or among its allowed pools, or while a job, an open evaluation or a worker's snapshot names it.
pub data KeepsPool (s : State) (name : Name) : Type 0 where
  by_default : name ≡ default_name → KeepsPool s name
  a_node : (node : Name) (row : Node) → node_at s.world name node ≡ Some row → KeepsPool s name
  default_pool : (ns : Name) (t : Tenant) → get s.world.tenants ns ≡ Some t → t.namespace.default_pool ≡ name →
      KeepsPool s name
  allowed_pool : (ns : Name) (t : Tenant) (allowed : List Name) → get s.world.tenants ns ≡ Some t →
      t.namespace.allowed ≡ Some allowed → Contains allowed name → KeepsPool s name
  named : (ns : Name) (t : Tenant) → get s.world.tenants ns ≡ Some t → NamesPool t name → KeepsPool s name

-- what a request would delete or change is still in use
pub data IsInUse (s : State) : Step → Type 0 where
  put_namespace : {secret : Option Name} {name : Name} {namespace : Namespace} (t : Tenant) →
      get s.world.tenants name ≡ Some t → NeedsOld namespace t →
      IsInUse s (Step.Admin secret (AdminCommand.PutNamespace name namespace))
  delete_namespace : {secret : Option Name} {name : Name} → KeepsNamespace s name →
      IsInUse s (Step.Admin secret (AdminCommand.DeleteNamespace name))
  -- a namespace names the quota
  delete_quota : {secret : Option Name} {name : Name} (ns : Name) (t : Tenant) → get s.world.tenants ns ≡ Some t →
      t.namespace.quota ≡ Some name → IsInUse s (Step.Admin secret (AdminCommand.DeleteQuota name))
  delete_pool : {secret : Option Name} {name : Name} → KeepsPool s name →
      IsInUse s (Step.Admin secret (AdminCommand.DeletePool name))
  -- the bootstrap token is never deleted
  delete_token : {secret : Option Name} {accessor : Name} → accessor ≡ bootstrap_accessor →
      IsInUse s (Step.Admin secret (AdminCommand.DeleteToken accessor))
  -- the live allocations on the node take more of some resource than it would have
  put_node : {pool : Name} {secret : Option Name} {name : Name} {offer : Offer} (r : Resource) →
      quantity r offer.capacity < quantity r (node_load s.world pool name) →
      IsInUse s (Step.Node pool secret (NodeCommand.PutNode name offer))
  -- the node is not down
  delete_node : {pool : Name} {secret : Option Name} {name : Name} (node : Node) →
      node_at s.world pool name ≡ Some node → node.status ≡ NodeStatus.Ready →
      IsInUse s (Step.Node pool secret (NodeCommand.DeleteNode name))

-- ---- full

-- the name is new, and the table has as many rows as it may have
pub record IsFullFor {X : Type 0} (table : ByName X) (name : Name) (most : ℕ) : Type 0 where
  pub is_new : get table name ≡ None
  pub has_most : most ≤ len table

-- a request would bring a number of rows past its bound
pub data LacksRoom (s : State) : Step → Type 0 where
  namespaces : {secret : Option Name} {name : Name} {namespace : Namespace} →
      IsFullFor s.world.tenants name 10000 →
      LacksRoom s (Step.Admin secret (AdminCommand.PutNamespace name namespace))
  quotas : {secret : Option Name} {name : Name} {quota : Quota} → IsFullFor s.world.quotas name 10000 →
      LacksRoom s (Step.Admin secret (AdminCommand.PutQuota name quota))
  pools : {secret : Option Name} {name : Name} {pool : Pool} → IsFullFor s.world.pools name 10000 →
      LacksRoom s (Step.Admin secret (AdminCommand.PutPool name pool))
  policies : {secret : Option Name} {name : Name} {policy : Policy} → IsFullFor s.acl.policies name 10000 →
      LacksRoom s (Step.Admin secret (AdminCommand.PutPolicy name policy))
  tokens : {secret : Option Name} {new : NewToken} → 10000 ≤ len s.acl.tokens →
      LacksRoom s (Step.Admin secret (AdminCommand.CreateToken new))
  nodes : {pool : Name} {secret : Option Name} {name : Name} {offer : Offer} (p : PoolRows) →
      get s.world.pools pool ≡ Some p → IsFullFor p.nodes name 1000 →
      LacksRoom s (Step.Node pool secret (NodeCommand.PutNode name offer))

-- ---- all refusals

-- the reasons to refuse a step: each counts whether another one holds or not
pub data HasReason (s : State) : Step → Refusal → Type 0 where
  registration : {ns : Name} {secret : Option Name} {r : Registration} {refusal : Refusal} →
      SpeaksAgainst s secret ns r refusal → HasReason s (Step.Ask ns secret (AskCommand.Register r)) refusal
  no_right : {step : Step} → IsFalse (is_allowed step s.acl) → HasReason s step Refusal.Denied
  missing : {step : Step} → IsMissing s step → HasReason s step Refusal.NotFound
  unknown : {secret : Option Name} {name : Name} {namespace : Namespace} {member : Member} →
      IsUnknown s namespace member →
      HasReason s (Step.Admin secret (AdminCommand.PutNamespace name namespace)) (Refusal.BadField member)
  conflict : {step : Step} → IsConflict s step → HasReason s step Refusal.Conflict
  in_use : {step : Step} → IsInUse s step → HasReason s step Refusal.InUse
  no_room : {step : Step} → LacksRoom s step → HasReason s step Refusal.Full

-- If there is a reason to refuse a step, it is refused with such a reason, and no other one that holds comes before it.
abbrev pub FirstRefusal : Type 0
FirstRefusal = (step : Step) (s : State) (other : Refusal) → HasReason s step other →
    (refusal : Refusal) × HasReason s step refusal × (rank refusal ≤ rank other)
    × (after step s ≡ said (Err refusal) s)

-- If a step is refused, it is for such a reason; or with `Full`, where a counter would pass its bound.
abbrev pub RefusesForReason : Type 0
RefusesForReason = (step : Step) (s t : State) (refusal : Refusal) → after step s ≡ said (Err refusal) t →
    HasReason s step refusal ⊎ ((refusal ≡ Refusal.Full) × IsTrue (would_pass_bound step s))

-- With the right to a step, it is refused `NotFound` exactly where what it names is not there.
abbrev pub NotFoundIsMissing : Type 0
NotFoundIsMissing = (step : Step) (s : State) → IsTrue (is_allowed step s.acl) →
    (after step s ≡ said (Err Refusal.NotFound) s ↔ IsMissing s step)

-- With the right to a step that would bring a counter past its bound, it is refused `Full`.
abbrev pub PastBoundIsFull : Type 0
PastBoundIsFull = (step : Step) (s : State) → IsTrue (is_allowed step s.acl) → IsTrue (would_pass_bound step s) →
    after step s ≡ said (Err Refusal.Full) s

-- The most jobs of a namespace, at which the registration of a new one is refused `Full`.
abbrev pub JobsAreAThousand : Type 0
JobsAreAThousand = most_jobs ≡ 1000
