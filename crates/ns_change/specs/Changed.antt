-- The world as a change leaves it.
use Rattle.std.specs.Prelude.{◌≡◌, ℕ, ◌+◌, ◌<◌, ◌^◌, not, List, [], ◌∷◌, ◌++◌, filter, Option}
use Rattle.std.specs.Prelude.{Some, Result, OnOk, option_map}
use Rattle.std.specs.Option.{option_and_then, option_map_or}
use Rattle.std.specs.Ordering.{nat_cmp}
use Rattle.std.specs.FinMap.{FinMap, empty, get, insert, remove}
use Rattle.keyed.specs.Table.{row_at}
use Rattle.ns_types.specs.declared.allocation.Allocation.{Allocation}
use Rattle.ns_types.specs.declared.evaluation.Evaluation.{Evaluation}
use Rattle.ns_types.specs.declared.node.Node.{Node}
use Rattle.ns_types.specs.declared.records.Quota.{Quota}
use Rattle.ns_types.specs.Settling.Making.{change_tenant, put_pool}
use Rattle.ns_types.specs.State.Names.{Name, Key, has_key}
use Rattle.ns_types.specs.State.Rows.{World, Tenant, PoolRows, QuotaRows, node_at}
use Rattle.ns_types.specs.State.Tables.{map_rows}
use Rattle.ns_types.specs.Working.Commit.{with_place}
use Rattle.ns_types.specs.Working.Work.{without_blocked, without_key}
use Rattle.ns_change.specs.declared.change.Change.{Change}
use Rattle.ns_change.specs.declared.change.ListChange.{ListChange}
use Rattle.ns_change.specs.declared.change.PoolChange.{PoolChange}
use Rattle.ns_change.specs.declared.change.TenantChange.{TenantChange}
use Rattle.keyed.specs.Over.{over}
use Rattle.ns_tables.specs.declared.tables.Tables.{Tables}
use Rattle.ns_tables.specs.World.{world_of}

abbrev pub changed_tenant : Tenant → TenantChange → Tenant
changed_tenant t x = record t {
  evaluation_number = x.evaluation_number;
  allocation_number = x.allocation_number;
  jobs = over t.jobs x.jobs;
  evaluations = over t.evaluations x.evaluations;
  allocations = over t.allocations x.allocations;
  workers = over t.workers x.workers;
}

abbrev pub changed_pool : PoolRows → PoolChange → PoolRows
changed_pool p x = record p { nodes = over p.nodes x.nodes }

abbrev pub changed_quota : QuotaRows → Quota → QuotaRows
changed_quota q x = record q { quota = x }

-- a row with its change, if it has one
abbrev pub perhaps : {A B : Type 0} → (A → B → A) → Option B → A → A
perhaps change x a = option_map_or (change a) x a

abbrev pub without_keys : List Key → List Key → List Key
without_keys taken keys = filter (λ key. not (has_key taken key)) keys

abbrev pub changed_list : List Key → ListChange → List Key
changed_list keys x = without_keys x.taken keys ++ x.added

unfoldable pub changed : World → Change → World
changed w c = record w {
  tenants = map_rows (λ ns t. perhaps changed_tenant (row_at c.tenants ns) t) w.tenants;
  pools = map_rows (λ name p. perhaps changed_pool (row_at c.pools name) p) w.pools;
  quotas = map_rows (λ name q. perhaps changed_quota (row_at c.quotas name) q) w.quotas;
  ready = changed_list w.ready c.ready;
  plans = changed_list w.plans c.plans;
  blocked = changed_list w.blocked c.blocked;
}

-- an empty change of a namespace
abbrev pub unchanged : Tenant → TenantChange
unchanged t = record {
  evaluation_number = t.evaluation_number;
  allocation_number = t.allocation_number;
  jobs =
      empty;
  evaluations = empty;
  allocations = empty;
  workers = empty;
}

abbrev pub unchanged_pool : PoolRows → PoolChange
unchanged_pool p = record { nodes = empty }

-- the world that the tables hold, as a change leaves it
abbrev pub view : Tables → Change → World
view t c = changed (world_of t) c

-- ---- what a method does to the change

-- if the method succeeds, f takes the world as the change left it before to the world as the change leaves it now
abbrev pub Does : {A E : Type 0} → Result A E → Tables → Change → Change → (World → World) → Type 0
Does result t before after f = OnOk result (view t after ≡ f (view t before))

abbrev pub DoesIn : {A E : Type 0} → Name → Result A E → Tables → Change → Change → (Tenant → Tenant) → Type 0
DoesIn ns result t before after f = Does result t before after (change_tenant ns f)

abbrev pub change_pool : Name → (PoolRows → PoolRows) → World → World
change_pool name f w = option_map_or (λ p. put_pool name (f p) w) (get w.pools name) w

abbrev pub DoesInPool : {A E : Type 0} → Name → Result A E → Tables → Change → Change → (PoolRows → PoolRows) → Type 0
DoesInPool name result t before after f = Does result t before after (change_pool name f)

-- ---- one row

abbrev pub put_evaluation : ℕ → Evaluation → Tenant → Tenant
put_evaluation n e t = record t { evaluations = insert t.evaluations n e }

abbrev pub put_allocation : ℕ → Allocation → Tenant → Tenant
put_allocation n a t = record t { allocations = insert t.allocations n a }

abbrev pub without_job : Name → Tenant → Tenant
without_job id t = record t { jobs = remove t.jobs id }

-- the namespace's row of that number, for one kind of row
abbrev pub row_in : {X : Type 0} → (Tenant → FinMap nat_cmp X) → World → Name → ℕ → Option X
row_in rows_of w ns n = option_and_then (λ t. get (rows_of t) n) (get w.tenants ns)

-- a node, if it is there, has one placement more
abbrev pub count_place : Name → Name → World → World
count_place pool name w = option_map_or (λ row. change_pool pool (with_place name row) w) (node_at w pool name) w

abbrev pub without_node : Name → PoolRows → PoolRows
without_node name pool = record pool { nodes = remove pool.nodes name }

-- the quota's record is replaced, if the quota is there
abbrev pub with_record : Name → Quota → World → World
with_record name x w =
    option_map_or (λ q. record w { quotas = insert w.quotas name (changed_quota q x) }) (get w.quotas name) w

-- ---- counters that have a next number

abbrev pub HasPlaceLeft : World → Name → Name → Type 0
HasPlaceLeft w pool name = (row : Node) → node_at w pool name ≡ Some row → row.places + 1 < 2 ^ 64

abbrev pub HasEvaluationLeft : World → Name → Type 0
HasEvaluationLeft w ns = (t : Tenant) → get w.tenants ns ≡ Some t → t.evaluation_number + 1 < 2 ^ 64

abbrev pub HasAllocationLeft : World → Name → Type 0
HasAllocationLeft w ns = (t : Tenant) → get w.tenants ns ≡ Some t → t.allocation_number + 1 < 2 ^ 64

-- the number of the namespace's next evaluation, where the namespace is there
abbrev pub next_evaluation : World → Name → Option ℕ
next_evaluation w ns = option_map (λ t. t.evaluation_number + 1) (get w.tenants ns)

-- ---- the lists of evaluations: ready, with a waiting plan, and blocked

-- f takes the list as it was changed before to the list as it is changed now, whatever the list was before the step
abbrev pub DoesToList : (List Key → List Key) → ListChange → ListChange → Type 0
DoesToList f before after = (base : List Key) → changed_list base after ≡ f (changed_list base before)

-- the keys with one more at the end
abbrev pub with_key : Key → List Key → List Key
with_key key keys = keys ++ key ∷ []

abbrev pub without_ready : Key → World → World
without_ready key w = record w { ready = without_key key w.ready }

abbrev pub with_ready : Key → World → World
with_ready key w = record w { ready = with_key key w.ready }

abbrev pub without_plan : Key → World → World
without_plan key w = record w { plans = without_key key w.plans }

abbrev pub with_plan : Key → World → World
with_plan key w = record w { plans = with_key key w.plans }

abbrev pub without_blocked_key : Key → World → World
without_blocked_key key w = record w { blocked = without_key key w.blocked }

abbrev pub with_blocked_key : Key → World → World
with_blocked_key key w = record w { blocked = with_key key w.blocked }

-- the job's blocked evaluation, if there is one, is no longer in the list
abbrev pub unlist_blocked : Name → Name → World → World
unlist_blocked ns job w = option_map_or (λ t. without_blocked ns job t w) (get w.tenants ns) w
