-- What administrators and registrations write: of all that holds of a valid state, what is said of namespaces with
-- their jobs and events, of pools with their nodes, of quotas and of access lists.
use Rattle.std.specs.Prelude.{◌≡◌, ◌≤◌, false, Some, IsTrue, length, nat_le}
use Rattle.std.specs.FinMap.{get, len, values}
use Rattle.std.specs.List.{list_all}
use Rattle.ns_types.specs.declared.job.Job.{Job}
use Rattle.ns_types.specs.declared.name.NameKind.TheVariants as NameKind
use Rattle.ns_types.specs.declared.node.Node.{Node}
use Rattle.ns_types.specs.declared.step.Step.{Step}
use Rattle.ns_types.specs.Asking.Admins.{most_rows}
use Rattle.ns_types.specs.Asking.Asks.{most_jobs}
use Rattle.ns_types.specs.State.Limits.{is_text, is_pool_name, is_good_offer, IsInOrder}
use Rattle.ns_types.specs.State.Name.{is_name}
use Rattle.ns_types.specs.State.Names.{Name}
use Rattle.ns_types.specs.Asking.Nodes.{most_nodes}
use Rattle.ns_types.specs.State.Rows.{State, World, Tenant, PoolRows, QuotaRows}
use Rattle.ns_types.specs.Steps.{Answer, said, after, is_past_bound, opening}
use Rattle.ns_types.specs.Validity.{IsSoundRecord, IsSoundJob, IsSoundQuota, IsSoundAcl, IsValid}
use Rattle.ns_types.specs.Within.{IsGoodStep}

-- all that is said of a node, but for its load
pub record IsGoodNode (name : Name) (node : Node) : Type 0 where
  pub named : IsTrue (is_name NameKind.Node name)
  pub good : IsTrue (is_good_offer node.offer)
  pub in_order : IsInOrder node.offer

pub record IsGoodPool (name : Name) (p : PoolRows) : Type 0 where
  pub named : IsTrue (is_pool_name name)
  pub described : IsTrue (is_text p.pool.description)
  pub few_nodes : len p.nodes ≤ most_nodes
  pub node : (n : Name) (node : Node) → get p.nodes n ≡ Some node → IsGoodNode n node
  pub classes : IsTrue (list_all (λ release. nat_le release p.release) (values p.classes))

pub record IsGoodTenant (w : World) (ns : Name) (t : Tenant) : Type 0 where
  pub named : IsTrue (is_name NameKind.Namespace ns)
  pub namespace : IsSoundRecord w t.namespace
  pub few_jobs : len t.jobs ≤ most_jobs
  pub job : (id : Name) (j : Job) → get t.jobs id ≡ Some j → IsSoundJob w t id j
  pub few_events : length t.events ≤ 100
  pub events_below : IsTrue (list_all (λ event. nat_le event.index t.index) t.events)

pub record HasRecords (s : State) : Type 0 where
  pub acl : IsSoundAcl s.acl
  pub few_tenants : len s.world.tenants ≤ most_rows
  pub few_pools : len s.world.pools ≤ most_rows
  pub few_quotas : len s.world.quotas ≤ most_rows
  pub tenant : (ns : Name) (t : Tenant) → get s.world.tenants ns ≡ Some t → IsGoodTenant s.world ns t
  pub pool : (name : Name) (p : PoolRows) → get s.world.pools name ≡ Some p → IsGoodPool name p
  pub quota : (name : Name) (q : QuotaRows) → get s.world.quotas name ≡ Some q → IsSoundQuota name q
  pub within : is_past_bound s.world ≡ false

-- Each step whose members are within the limits leads a valid state to one that has this.
abbrev pub RecordsStep : Type 0
RecordsStep = (s s' : State) (step : Step) (answer : Answer) → IsValid s → IsGoodStep step →
    after step s ≡ said answer s' → HasRecords s'

-- So has the state in which the server begins.
abbrev pub RecordsOpening : Type 0
RecordsOpening = (secret : Name) → IsTrue (is_name NameKind.Secret secret) → HasRecords (opening secret)
