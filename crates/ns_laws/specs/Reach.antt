-- Laws of how far a namespace reaches: when it has its pools and its quotas to itself, which steps are its own, when the
-- whole server has no room for a put of its own, and what a request in one namespace leaves as it is in every other.
use Rattle.std.specs.Prelude.{◌≡◌, ◌≢◌, ◌↔◌, ◌⊎◌, ◌+◌, ◌≤◌, ◌++◌, ℕ, List, Option, Some, None, Ok, Err, IsTrue, IsFalse}
use Rattle.std.specs.FinMap.{get, len, contains_key}
use Rattle.std.specs.List.{Contains}
use Rattle.ns_types.specs.declared.acl.Policy.{Policy}
use Rattle.ns_types.specs.declared.evaluation.Evaluation.{Evaluation}
use Rattle.ns_types.specs.declared.evaluation.Status.TheVariants as Status
use Rattle.ns_types.specs.declared.event.Event.{Event}
use Rattle.ns_types.specs.declared.node.Node.{Node}
use Rattle.ns_types.specs.declared.records.Namespace.{Namespace}
use Rattle.ns_types.specs.declared.records.Pool.{Pool}
use Rattle.ns_types.specs.declared.records.Quota.{Quota}
use Rattle.ns_types.specs.declared.refusal.Refusal.TheVariants as Refusal
use Rattle.ns_types.specs.declared.reply.Reply.{Reply}
use Rattle.ns_types.specs.declared.step.AdminCommand.{AdminCommand}
use Rattle.ns_types.specs.declared.step.AskCommand.{AskCommand}
use Rattle.ns_types.specs.declared.step.NewToken.{NewToken}
use Rattle.ns_types.specs.declared.step.NodeCommand.{NodeCommand}
use Rattle.ns_types.specs.declared.step.Step.{Step}
use Rattle.ns_types.specs.Access.Sharing.{permits, is_apart}
use Rattle.ns_types.specs.Isolation.{part_of, is_own, is_crowded_out}
use Rattle.ns_types.specs.State.Lists.{Each, last}
use Rattle.ns_types.specs.State.Names.{Name, Key, ByName, has_key}
use Rattle.ns_types.specs.State.Rows.{State, World, Tenant, PoolRows, QuotaRows}
use Rattle.ns_types.specs.Steps.{Answer, said, after}
use Rattle.ns_laws.specs.Kinds.{ReportsIts}
use Rattle.ns_laws.specs.Sharing.{KeepsToPools}
use Rattle.ns_laws.specs.Sublist.{IsSublist}

-- ---- when a namespace has its pools and its quotas to itself

-- the record names none but these pools and these quotas: its default pool, the pools that it allows, its quota
pub record NamesOnly (pools quotas : List Name) (namespace : Namespace) : Type 0 where
  pub default_pool : Contains pools namespace.default_pool
  pub allowed : (allowed : List Name) (pool : Name) → namespace.allowed ≡ Some allowed → Contains allowed pool →
      Contains pools pool
  pub quota : (quota : Name) → namespace.quota ≡ Some quota → Contains quotas quota

-- the namespace has a list of allowed pools, its record names none but these pools and quotas, and it has nothing left
-- in another pool
pub record KeepsIn (pools quotas : List Name) (t : Tenant) : Type 0 where
  pub confined : (allowed : List Name) × (t.namespace.allowed ≡ Some allowed)
  pub names : NamesOnly pools quotas t.namespace
  pub keeps : KeepsToPools pools t

-- the record of another namespace permits none of these pools, has none of them as its default, and names none of
-- these quotas
pub record KeepsOut (pools quotas : List Name) (namespace : Namespace) : Type 0 where
  pub permits_none : (pool : Name) → Contains pools pool → IsFalse (permits namespace pool)
  pub default_pool : Contains pools namespace.default_pool → ⊥
  pub quota : (quota : Name) → namespace.quota ≡ Some quota → Contains quotas quota → ⊥

-- A namespace has these pools and quotas to itself exactly if it keeps in them, where it is there at all, and every other
-- namespace keeps out of them.
abbrev pub ApartSo : Type 0
ApartSo = (w : World) (ns : Name) (pools quotas : List Name) →
    IsTrue (is_apart w ns pools quotas) ↔
    (((t : Tenant) → get w.tenants ns ≡ Some t → KeepsIn pools quotas t)
    × ((other : Name) (o : Tenant) → get w.tenants other ≡ Some o → other ≢ ns → KeepsOut pools quotas o.namespace))

-- ---- which steps are its own

-- the namespace in which a request is asked, or for which a worker makes the step
abbrev pub made_for : Step → Option Name
made_for (Step.Ask ns secret command) = Some ns
made_for (Step.Dequeue worker ns n) = Some ns
made_for (Step.Snap worker ns) = Some ns
made_for (Step.Submit worker ns) = Some ns
made_for (Step.Apply worker ns) = Some ns
made_for (Step.Finish worker ns) = Some ns
made_for (Step.Nack worker ns) = Some ns
made_for (Step.Admin secret command) = None
made_for (Step.Node pool secret command) = None

-- Such a step is a namespace's own exactly if it is made for this namespace.
abbrev pub OwnByNamespace : Type 0
OwnByNamespace = (ns other : Name) (pools quotas : List Name) (step : Step) → made_for step ≡ Some other →
    IsTrue (is_own (part_of ns pools quotas) step) ↔ (other ≡ ns)

-- A request about a pool is a namespace's own exactly if the pool is one of the namespace's, and the request is no report of
-- another namespace's allocation.
abbrev pub OwnByPool : Type 0
OwnByPool = (ns pool : Name) (pools quotas : List Name) (secret : Option Name) (command : NodeCommand) →
    IsTrue (is_own (part_of ns pools quotas) (Step.Node pool secret command)) ↔
    (Contains pools pool × ReportsIts ns command)

-- what an administrator asks about the namespace's record, one of its quotas or pools, or the access lists
pub data IsAbout (ns : Name) (pools quotas : List Name) : AdminCommand → Type 0 where
  put_record : (namespace : Namespace) → NamesOnly pools quotas namespace →
      IsAbout ns pools quotas (AdminCommand.PutNamespace ns namespace)
  delete_record : IsAbout ns pools quotas (AdminCommand.DeleteNamespace ns)
  read_quota : (name : Name) → Contains quotas name → IsAbout ns pools quotas (AdminCommand.ReadQuota name)
  put_quota : (name : Name) (quota : Quota) → Contains quotas name →
      IsAbout ns pools quotas (AdminCommand.PutQuota name quota)
  delete_quota : (name : Name) → Contains quotas name → IsAbout ns pools quotas (AdminCommand.DeleteQuota name)
  put_pool : (name : Name) (pool : Pool) → Contains pools name → IsAbout ns pools quotas (AdminCommand.PutPool name pool)
  delete_pool : (name : Name) → Contains pools name → IsAbout ns pools quotas (AdminCommand.DeletePool name)
  read_policy : (name : Name) → IsAbout ns pools quotas (AdminCommand.ReadPolicy name)
  put_policy : (name : Name) (policy : Policy) → IsAbout ns pools quotas (AdminCommand.PutPolicy name policy)
  delete_policy : (name : Name) → IsAbout ns pools quotas (AdminCommand.DeletePolicy name)
  create_token : (token : NewToken) → IsAbout ns pools quotas (AdminCommand.CreateToken token)
  delete_token : (accessor : Name) → IsAbout ns pools quotas (AdminCommand.DeleteToken accessor)

-- An administrator's request is a namespace's own exactly if it is about one of these. To list what the server has is not.
abbrev pub OwnByOwner : Type 0
OwnByOwner = (ns : Name) (pools quotas : List Name) (secret : Option Name) (command : AdminCommand) →
    IsTrue (is_own (part_of ns pools quotas) (Step.Admin secret command)) ↔ IsAbout ns pools quotas command

-- ---- when the server has no room for its own put

-- the name is new, and the table has 10000 others already
pub record HasNoRoom {X : Type 0} (table : ByName X) (name : Name) : Type 0 where
  pub new : IsFalse (contains_key table name)
  pub others : 10000 ≤ len table

-- an administrator puts the namespace's record, which names none but its pools and quotas, or one of its quotas or
-- pools; the server has no room for it
pub data PutsOneTooMany (ns : Name) (pools quotas : List Name) (w : World) : Step → Type 0 where
  of_namespace : (secret : Option Name) (namespace : Namespace) → NamesOnly pools quotas namespace →
      HasNoRoom w.tenants ns → PutsOneTooMany ns pools quotas w (Step.Admin secret (AdminCommand.PutNamespace ns namespace))
  of_quota : (secret : Option Name) (name : Name) (quota : Quota) → Contains quotas name →
      HasNoRoom w.quotas name → PutsOneTooMany ns pools quotas w (Step.Admin secret (AdminCommand.PutQuota name quota))
  of_pool : (secret : Option Name) (name : Name) (pool : Pool) → Contains pools name →
      HasNoRoom w.pools name → PutsOneTooMany ns pools quotas w (Step.Admin secret (AdminCommand.PutPool name pool))

-- A step of a namespace is crowded out exactly if it is such a put and its answer is the refusal `Full`.
abbrev pub CrowdedIsFull : Type 0
CrowdedIsFull = (ns : Name) (pools quotas : List Name) (step : Step) (s : State) (answer : Answer) →
    IsTrue (is_crowded_out (part_of ns pools quotas) step s answer) ↔
    (PutsOneTooMany ns pools quotas s.world step × (answer ≡ Err Refusal.Full))

-- ---- what a request in one namespace leaves as it is in every other

-- the evaluation is as it was; or it was in the list of blocked ones, and now it is `pending`, and no more of it has
-- changed than its modify index
abbrev pub IsSameOrWoken : World → Name → ℕ → Evaluation → Evaluation → Type 0
IsSameOrWoken w ns n old e = (e ≡ old) ⊎ (IsTrue (has_key w.blocked (ns, n))
    × (e ≡ record old { status = Status.Pending; modify_index = e.modify_index }))

-- the index and the events are as they were; or the index is one greater, and new events with that index follow, of all of
-- which the last hundred are kept
abbrev pub IndexStaysOrRises : Tenant → Tenant → Type 0
IndexStaysOrRises old t = ((t.index ≡ old.index) × (t.events ≡ old.events))
    ⊎ ((t.index ≡ old.index + 1) × (new : List Event) × Each (λ event. event.index ≡ t.index) new
    × (t.events ≡ last 100 (old.events ++ new)))

-- Of the namespace, the record, the numbers given, the jobs, the allocations and the workers are as they were. It has the
-- same evaluations, but that some may be woken; then its index may rise, with new events.
pub record IsLeft (w : World) (ns : Name) (old t : Tenant) : Type 0 where
  pub namespace : t.namespace ≡ old.namespace
  pub evaluation_number : t.evaluation_number ≡ old.evaluation_number
  pub allocation_number : t.allocation_number ≡ old.allocation_number
  pub jobs : t.jobs ≡ old.jobs
  pub allocations : t.allocations ≡ old.allocations
  pub workers : t.workers ≡ old.workers
  pub evaluation : (n : ℕ) (e : Evaluation) → get old.evaluations n ≡ Some e →
      (now : Evaluation) × (get t.evaluations n ≡ Some now) × IsSameOrWoken w ns n e now
  pub no_evaluation : (n : ℕ) → get old.evaluations n ≡ None → get t.evaluations n ≡ None
  pub index_and_events : IndexStaysOrRises old t

-- What is asked in a namespace leaves every other namespace alone, but that blocked evaluations there may wake.
abbrev pub AskStaysInside : Type 0
AskStaysInside = (ns other : Name) (secret : Option Name) (command : AskCommand) (s s' : State) (answer : Answer)
    (old : Tenant) → other ≢ ns → after (Step.Ask ns secret command) s ≡ said answer s' →
    get s.world.tenants other ≡ Some old → (t : Tenant) × (get s'.world.tenants other ≡ Some t) × IsLeft s.world other old t

-- a namespace of that name is there, with that record
abbrev pub HasRecord : World → Name → Namespace → Type 0
HasRecord w name namespace = (t : Tenant) × (get w.tenants name ≡ Some t) × (t.namespace ≡ namespace)

-- No step but an administrator's brings, changes or removes a namespace's record, or changes the access lists.
abbrev pub RecordsStay : Type 0
RecordsStay = (step : Step) (s s' : State) (answer : Answer) →
    ((secret : Option Name) (command : AdminCommand) → step ≢ Step.Admin secret command) → after step s ≡ said answer s' →
    ((name : Name) (namespace : Namespace) → HasRecord s.world name namespace ↔ HasRecord s'.world name namespace)
    × (s'.acl ≡ s.acl)

-- a pool of that name is there, with that record and these nodes
abbrev pub HasPool : World → Name → Pool → ByName Node → Type 0
HasPool w name pool nodes = (p : PoolRows) × (get w.pools name ≡ Some p) × (p.pool ≡ pool) × (p.nodes ≡ nodes)

-- a quota of that name is there, with that record
abbrev pub HasQuota : World → Name → Quota → Type 0
HasQuota w name quota = (q : QuotaRows) × (get w.quotas name ≡ Some q) × (q.quota ≡ quota)

-- What is asked in a namespace brings, changes or removes no pool, no node and no quota. It may count releases.
abbrev pub AskLeavesPools : Type 0
AskLeavesPools = (ns : Name) (secret : Option Name) (command : AskCommand) (s s' : State) (answer : Answer) →
    after (Step.Ask ns secret command) s ≡ said answer s' →
    ((name : Name) (pool : Pool) (nodes : ByName Node) → HasPool s.world name pool nodes ↔ HasPool s'.world name pool nodes)
    × ((name : Name) (quota : Quota) → HasQuota s.world name quota ↔ HasQuota s'.world name quota)

-- The plans that wait are as they were. The ready evaluations are in their order, and those that become ready follow: each
-- is of the namespace, or it was in the list of blocked ones. Some may have left that list.
pub record KeepsOrder (ns : Name) (w x : World) : Type 0 where
  pub plans : x.plans ≡ w.plans
  pub blocked : IsSublist x.blocked w.blocked
  pub joined : List Key
  pub ready : x.ready ≡ w.ready ++ joined
  pub joins : Each (λ key. (key.0 ≡ ns) ⊎ IsTrue (has_key w.blocked key)) joined

-- What is asked in a namespace keeps the order of what waits, in every namespace.
abbrev pub AskKeepsOrder : Type 0
AskKeepsOrder = (ns : Name) (secret : Option Name) (command : AskCommand) (s s' : State) (answer : Answer) →
    after (Step.Ask ns secret command) s ≡ said answer s' → KeepsOrder ns s.world s'.world

-- ---- the index that a reply shows

-- The reply to a request in a namespace shows the index that the namespace has afterwards.
abbrev pub IndexIsShown : Type 0
IndexIsShown = (ns : Name) (secret : Option Name) (command : AskCommand) (s s' : State) (reply : Reply) →
    after (Step.Ask ns secret command) s ≡ said (Ok reply) s' →
    (t : Tenant) × (get s'.world.tenants ns ≡ Some t) × (reply.index ≡ Some t.index)
