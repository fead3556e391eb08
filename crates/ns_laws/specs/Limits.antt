-- Laws of limits: how long texts and lists may be, and how large numbers, in what a request writes.
use Rattle.std.specs.Prelude.{◌≡◌, ◌≢◌, ◌↔◌, ◌⊎◌, ℕ, ◌≤◌, List, [], None, IfSome, IsTrue, length}
use Rattle.std.specs.List.{AllPairs}
use Rattle.std.specs.Ordering.{is_lt}
use Rattle.ns_types.specs.declared.acl.Policy.{Policy}
use Rattle.ns_types.specs.declared.job.Constraint.{Constraint}
use Rattle.ns_types.specs.declared.job.Document.{Document}
use Rattle.ns_types.specs.declared.job.Group.{Group}
use Rattle.ns_types.specs.declared.job.Registration.{Registration}
use Rattle.ns_types.specs.declared.job.Target.{Target}
use Rattle.ns_types.specs.declared.job.Task.{Task}
use Rattle.ns_types.specs.declared.node.Attribute.{Attribute}
use Rattle.ns_types.specs.declared.node.Offer.{Offer}
use Rattle.ns_types.specs.declared.records.Namespace.{Namespace}
use Rattle.ns_types.specs.declared.records.Pool.{Pool}
use Rattle.ns_types.specs.declared.records.Quota.{Quota}
use Rattle.ns_types.specs.declared.resources.Limit.{Limit}
use Rattle.ns_types.specs.declared.resources.Limits.{Limits}
use Rattle.ns_types.specs.declared.step.AdminCommand.{AdminCommand}
use Rattle.ns_types.specs.declared.step.AskCommand.{AskCommand}
use Rattle.ns_types.specs.declared.step.NewToken.{NewToken}
use Rattle.ns_types.specs.declared.step.NodeCommand.{NodeCommand}
use Rattle.ns_types.specs.declared.step.Step.{Step}
use Rattle.ns_types.specs.Asking.Good.{IsGoodNodeCommand, is_good_admin, is_good_ask}
use Rattle.ns_types.specs.State.Limits.{is_good_constraint, is_good_document, is_good_group, is_good_task}
use Rattle.ns_types.specs.State.Lists.{Each}
use Rattle.ns_types.specs.State.Names.{Name, name_cmp}
use Rattle.ns_types.specs.Within.{IsGoodStep}
use Rattle.ns_laws.specs.Names.{IsMadeOf, IsOfPool, plain, plain_or_underscore, printable}

-- ---- jobs

-- how much a task, a group or a node may state of a resource
abbrev pub IsAmount : ℕ → Type 0
IsAmount n = (1 ≤ n) × (n ≤ 2147483647)

-- the task has a name, and asks for 1 to 2,147,483,647 of CPU and of memory
pub record IsTaskWithin (t : Task) : Type 0 where
  pub name : IsMadeOf printable 128 t.name
  pub cpu : IsAmount t.resources.cpu
  pub memory : IsAmount t.resources.memory

-- A task is within the limits exactly if it has a name and asks for 1 to 2,147,483,647 of CPU and of memory.
abbrev pub TaskLimits : Type 0
TaskLimits = (t : Task) → IsTrue (is_good_task t) ↔ IsTaskWithin t

-- the group has a name, a count of at most 1,000, 1 to 2,147,483,647 of disk, and 1 to 16 tasks of different names
pub record IsGroupWithin (g : Group) : Type 0 where
  pub name : IsMadeOf printable 128 g.name
  pub count : g.count ≤ 1000
  pub disk : IsAmount g.disk
  pub some_tasks : 1 ≤ length g.tasks
  pub few_tasks : length g.tasks ≤ 16
  pub tasks : Each IsTaskWithin g.tasks
  pub apart : AllPairs (λ s t. s.name ≢ t.name) g.tasks

-- A task group is within the limits exactly if it has a name, a count of 0 to 1,000, 1 to 2,147,483,647 of disk, and 1
-- to 16 tasks within the limits, no two with the same name.
abbrev pub GroupLimits : Type 0
GroupLimits = (g : Group) → IsTrue (is_good_group g) ↔ IsGroupWithin g

-- with a key of 248 bytes, `${attr.KEY}` has 256
abbrev pub IsTargetWithin : Target → Type 0
IsTargetWithin Target.NodeClass = Unit {0}
IsTargetWithin Target.NodeName = Unit {0}
IsTargetWithin (Target.Attribute key) = length key ≤ 248

abbrev pub IsConstraintWithin : Constraint → Type 0
IsConstraintWithin c = IsTargetWithin c.target × (length c.value ≤ 256)

-- A constraint is within the limits exactly if the key of an attribute that it looks at has at most 248 bytes, and its
-- value at most 256.
abbrev pub ConstraintLimits : Type 0
ConstraintLimits = (c : Constraint) → IsTrue (is_good_constraint c) ↔ IsConstraintWithin c

-- the priority is 1 to 100, and there are at most 16 constraints, and 1 to 16 groups of different names
pub record IsJobWithin (priority : ℕ) (constraints : List Constraint) (groups : List Group) : Type 0 where
  pub low : 1 ≤ priority
  pub high : priority ≤ 100
  pub few_constraints : length constraints ≤ 16
  pub good_constraints : Each IsConstraintWithin constraints
  pub some_groups : 1 ≤ length groups
  pub few_groups : length groups ≤ 16
  pub good_groups : Each IsGroupWithin groups
  pub apart : AllPairs (λ g h. g.name ≢ h.name) groups

-- A registration is within the limits exactly if it has an id and either no pool or a pool's name, a priority of 1 to
-- 100, at most 16 constraints, and 1 to 16 groups, no two with the same name, each constraint and each group within the
-- limits.
abbrev pub RegistrationLimits : Type 0
RegistrationLimits = (r : Registration) → IsTrue (is_good_ask (AskCommand.Register r))
    ↔ IsMadeOf printable 128 r.id × IfSome r.pool IsOfPool × IsJobWithin r.priority r.constraints r.groups

-- The same holds of the document of a job that is kept, whose pool is filled in.
abbrev pub DocumentLimits : Type 0
DocumentLimits = (d : Document) → IsTrue (is_good_document d)
    ↔ IsOfPool d.pool × IsJobWithin d.priority d.constraints d.groups

-- ---- nodes

-- the class has at most 256 bytes, there are at most 64 attributes, each key and each value of at most 256 bytes, and the
-- node has 1 to 2,147,483,647 of each resource
pub record IsOfferWithin (o : Offer) : Type 0 where
  pub class : length o.class ≤ 256
  pub few_attributes : length o.attributes ≤ 64
  pub attributes : Each (λ (a : Attribute). (length a.key ≤ 256) × (length a.value ≤ 256)) o.attributes
  pub cpu : IsAmount o.capacity.cpu
  pub memory : IsAmount o.capacity.memory
  pub disk : IsAmount o.capacity.disk

-- the attributes are in the order of their keys, each key once
abbrev pub AreInOrder : List Attribute → Type 0
AreInOrder attributes = AllPairs (λ a b. IsTrue (is_lt (name_cmp a.key b.key))) attributes

-- A put of a node is within the limits exactly if the node has a name, a class of at most 256 bytes, at most 64
-- attributes, in the order of their keys and none twice, with keys and values of at most 256 bytes, and 1 to
-- 2,147,483,647 of CPU, of memory and of disk.
abbrev pub NodeLimits : Type 0
NodeLimits = (name : Name) (o : Offer) → IsGoodNodeCommand (NodeCommand.PutNode name o)
    ↔ IsMadeOf plain_or_underscore 128 name × IsOfferWithin o × AreInOrder o.attributes

-- ---- what administrators put

-- at most 1,000 names of pools, none twice
pub record IsPoolListWithin (pools : List Name) : Type 0 where
  pub few : length pools ≤ 1000
  pub named : Each IsOfPool pools
  pub apart : AllPairs (λ a b. a ≢ b) pools

-- the namespace has a description of at most 256 bytes, and may name a quota. It has a default pool, and either allowed
-- pools or denied ones, or neither; the default pool is not denied
pub record IsNamespaceWithin (n : Namespace) : Type 0 where
  pub description : length n.description ≤ 256
  pub quota : IfSome n.quota (IsMadeOf plain_or_underscore 128)
  pub default : IsOfPool n.default_pool
  pub allowed : IfSome n.allowed IsPoolListWithin
  pub denied : IsPoolListWithin n.denied
  pub one_list : (n.allowed ≡ None) ⊎ (n.denied ≡ [])
  pub permitted : Each (λ pool. pool ≢ n.default_pool) n.denied

-- A put of a namespace is within the limits exactly if the namespace has a name and a description of at most 256 bytes,
-- its lists have at most 1,000 names of pools, none twice, it does not both allow and deny pools, and it does not deny
-- its default pool.
abbrev pub NamespaceLimits : Type 0
NamespaceLimits = (name : Name) (n : Namespace) → IsTrue (is_good_admin (AdminCommand.PutNamespace name n))
    ↔ IsMadeOf plain 128 name × IsNamespaceWithin n

-- 2 ^ 53 is 9,007,199,254,740,992
abbrev pub IsLimitWithin : Limit → Type 0
IsLimitWithin Limit.Unlimited = Unit {0}
IsLimitWithin (Limit.AtMost most) = (1 ≤ most) × (most ≤ 9007199254740992)
IsLimitWithin Limit.Nothing = Unit {0}

abbrev pub AreLimitsWithin : Limits → Type 0
AreLimitsWithin l = IsLimitWithin l.cpu × IsLimitWithin l.memory × IsLimitWithin l.disk

-- A put of a quota is within the limits exactly if the quota has a name, a description of at most 256 bytes, and limits,
-- if it has any, of 1 to 9,007,199,254,740,992 each, or that allow everything or nothing.
abbrev pub QuotaLimits : Type 0
QuotaLimits = (name : Name) (q : Quota) → IsTrue (is_good_admin (AdminCommand.PutQuota name q))
    ↔ IsMadeOf plain_or_underscore 128 name × (length q.description ≤ 256) × IfSome q.limits AreLimitsWithin

-- A put of a pool is within the limits exactly if the pool has a name and a description of at most 256 bytes.
abbrev pub PoolLimits : Type 0
PoolLimits = (name : Name) (p : Pool) → IsTrue (is_good_admin (AdminCommand.PutPool name p))
    ↔ IsOfPool name × (length p.description ≤ 256)

-- A put of a policy is within the limits exactly if the policy has a name, a description of at most 256 bytes, and rules
-- of at most 65,536 bytes.
abbrev pub PolicyLimits : Type 0
PolicyLimits = (name : Name) (p : Policy) → IsTrue (is_good_admin (AdminCommand.PutPolicy name p))
    ↔ IsMadeOf plain 128 name × (length p.description ≤ 256) × (length p.text ≤ 65536)

-- a name of at most 256 bytes, and at most 64 names of policies, none twice
pub record IsTokenWithin (new : NewToken) : Type 0 where
  pub secret : IsMadeOf printable 64 new.secret
  pub name : length new.name ≤ 256
  pub few : length new.policies ≤ 64
  pub named : Each (IsMadeOf plain 128) new.policies
  pub apart : AllPairs (λ a b. a ≢ b) new.policies

-- A new token is within the limits exactly if it has a secret, a name of at most 256 bytes, and at most 64 names of
-- policies, none twice.
abbrev pub TokenLimits : Type 0
TokenLimits = (new : NewToken) → IsTrue (is_good_admin (AdminCommand.CreateToken new)) ↔ IsTokenWithin new

-- ---- all other steps

-- the step registers a job, puts a record or a node, or creates a token
abbrev pub Writes : Step → Type 0
Writes (Step.Ask ns secret (AskCommand.Register r)) = Unit {0}
Writes (Step.Admin secret (AdminCommand.PutNamespace name n)) = Unit {0}
Writes (Step.Admin secret (AdminCommand.PutQuota name q)) = Unit {0}
Writes (Step.Admin secret (AdminCommand.PutPool name p)) = Unit {0}
Writes (Step.Admin secret (AdminCommand.PutPolicy name p)) = Unit {0}
Writes (Step.Admin secret (AdminCommand.CreateToken new)) = Unit {0}
Writes (Step.Node pool secret (NodeCommand.PutNode name o)) = Unit {0}
Writes _ = ⊥

-- Every other step is within the limits: a name that it looks up may be any text.
abbrev pub OthersHaveNoLimits : Type 0
OthersHaveNoLimits = (step : Step) → (Writes step → ⊥) → IsGoodStep step
