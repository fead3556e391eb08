-- Apply: which parts of a plan are done in the present state. For each node, its whole part is done, or none of it.
-- Nomad's page "Scheduling in Nomad", of the plan queue.
use Rattle.std.specs.Prelude.{ℕ, ◌+◌, ◌-◌, Bool, true, false, not, ◌&&◌, ◌||◌, if◌then◌else◌, List, [], ◌∷◌, ◌++◌}
use Rattle.std.specs.Prelude.{Option, Some, None, filter, filter_map, flat_map, fold, map, slice_get, option_map}
use Rattle.std.specs.Option.{option_map_or, option_and_then}
use Rattle.std.specs.FinMap.{get, insert}
use Rattle.ns_types.specs.declared.allocation.Allocation.{Allocation}
use Rattle.ns_types.specs.declared.allocation.ClientStatus.TheVariants as ClientStatus
use Rattle.ns_types.specs.declared.allocation.DesiredStatus.TheVariants as DesiredStatus
use Rattle.ns_types.specs.declared.evaluation.Evaluation.{Evaluation}
use Rattle.ns_types.specs.declared.evaluation.Trigger.TheVariants as Trigger
use Rattle.ns_types.specs.declared.job.Job.{Job}
use Rattle.ns_types.specs.declared.node.Node.{Node}
use Rattle.ns_types.specs.declared.plan.Eviction.{Eviction}
use Rattle.ns_types.specs.declared.plan.Placement.{Placement}
use Rattle.ns_types.specs.declared.plan.Plan.{Plan}
use Rattle.ns_types.specs.declared.reply.Content.TheVariants as Content
use Rattle.ns_types.specs.declared.resources.Resources.{Resources}
use Rattle.ns_types.specs.declared.snapshot.Snapshot.{Snapshot}
use Rattle.ns_types.specs.declared.worker.Phase.{Phase}
use Rattle.ns_types.specs.Working.Worker.{Worker}
use Rattle.ns_types.specs.Placing.Constraint.{is_feasible}
use Rattle.ns_types.specs.State.Lists.{is_empty, first_each, sorted_names}
use Rattle.ns_types.specs.Settling.Making.{change_tenant, put_pool, with_node, with_desired, evaluation_for, make}
use Rattle.ns_types.specs.Settling.Making.{least}
use Rattle.ns_types.specs.State.Names.{Name, Key, same_key, same_name, same_number, has_number}
use Rattle.ns_types.specs.Settling.Outcome.{Outcome, NotEnabled, Done}
use Rattle.ns_types.specs.Placing.Plan.{plan, constraints_of}
use Rattle.ns_types.specs.Working.Queue.{is_served}
use Rattle.ns_types.specs.State.Resources.{none, plus, total, is_within, limits_in, limits_allow, unlimited}
use Rattle.ns_types.specs.State.Rows.{World, Tenant, PoolRows, is_live, is_live_on, allocation_at, node_at}
use Rattle.ns_types.specs.State.Sums.{quota_use, node_load}
use Rattle.ns_types.specs.Working.Work.{at_work, with_worker, without_key, is_submitted, tries_for}

-- ---- whether the plan still stands

-- the job is gone or stopped
abbrev pub has_ended : Option Job → Bool
has_ended None = true
has_ended (Some job) = job.stop

abbrev pub same_version : Option Job → Option Job → Bool
same_version (Some a) (Some b) = same_number a.modify_index b.modify_index
same_version _ _ = false

-- a plan for a job that was not stopped stands if the job is still not stopped and has the same modify index; a plan for a job
-- that was gone or stopped stands if it still is
abbrev pub still_stands : Option Job → Option Job → Bool
still_stands planned present =
    if has_ended planned then has_ended present
    else not (has_ended present) && same_version planned present

-- ---- stops

-- the stops of allocations that are still live
abbrev pub live_stops : Tenant → List ℕ → List ℕ
live_stops t stops = filter (λ n. option_map_or is_live (get t.allocations n) false) stops

abbrev pub stop_all : Name → List ℕ → World → World
stop_all ns stops w = change_tenant ns (λ t. fold (λ x n. with_desired n DesiredStatus.Stop x) t stops) w

-- ---- a node's part of the plan

-- the name of the node at place k of the snapshot
abbrev pub node_name : Snapshot → ℕ → Name
node_name kept k = option_map_or (λ n. n.name) (slice_get kept.nodes k) []

-- the nodes of the placements, in the order of first placement
abbrev pub nodes_in : List Placement → List ℕ
nodes_in placements = first_each same_number (map (λ p. p.node) placements)

-- the node's part: the placements on it, in the order of the plan
abbrev pub part_of : ℕ → List Placement → List Placement
part_of k placements = filter (λ p. same_number p.node k) placements

abbrev pub size_of : List Placement → Resources
size_of part = total (λ p. p.size) part

-- an eviction counts if its allocation is live on that node, with the priority that it had in the snapshot
unfoldable pub counts : World → Name → Name → Eviction → Bool
counts w pool node e = option_map_or (λ a. is_live_on pool node a && same_number a.priority e.priority)
    (allocation_at w (e.namespace, e.number)) false

abbrev pub victims_in : World → Snapshot → Placement → List Eviction
victims_in w kept p = filter (counts w kept.pool (node_name kept p.node)) p.evictions

abbrev pub victims_of : World → Snapshot → List Placement → List Eviction
victims_of w kept part = flat_map (victims_in w kept) part

abbrev pub evict : World → Eviction → World
evict w e = change_tenant e.namespace (with_desired e.number DesiredStatus.Evict) w

abbrev pub evict_all : World → List Eviction → World
evict_all w victims = fold evict w victims

-- the quota that the namespace names, if it names one
abbrev pub quota_named : World → Name → Option Name
quota_named w ns = option_and_then (λ t. t.namespace.quota) (get w.tenants ns)

-- the namespace's quota, if it has one, allows the amount on top of the quota's use
abbrev pub quota_allows : World → Name → Resources → Bool
quota_allows w ns amount = option_map_or (λ q.
    limits_allow (option_map_or (λ rows. limits_in rows.quota.limits) (get w.quotas q) unlimited)
    (plus (quota_use w q) amount)) (quota_named w ns) true

-- ---- node by node

-- what is decided so far: the state in which the plan's stops are stopped, and the victims of committed nodes evicted
pub record Commit : Type 0 where
  pub world : World
  -- what the placements on committed nodes take together
  pub placed : Resources
  pub committed : List ℕ
  pub dropped : List ℕ

abbrev pub begun : World → Commit
begun w = record { world = w; placed = none; committed = []; dropped = [] }

-- a node accepts its part if it is ready and eligible and meets all constraints, has room for the part once its own victims
-- are gone, and the quota allows the part on top of what is placed so far
abbrev pub accepts : Snapshot → World → Name → List Placement → Resources → Node → Bool
accepts kept w name part placed node =
    is_feasible (constraints_of kept.job) name node
    && is_within (plus (node_load w kept.pool name) (size_of part)) node.offer.capacity
    && quota_allows w kept.namespace (plus placed (size_of part))

abbrev pub accepts_at : Snapshot → World → Name → List Placement → Resources → Bool
accepts_at kept w name part placed = option_map_or (accepts kept w name part placed) (node_at w kept.pool name) false

-- the next node: if it accepts its part, its victims are evicted and it is committed; if not, it is dropped
unfoldable pub decide : Snapshot → List Placement → Commit → ℕ → Commit
decide kept placements c k =
    let part = part_of k placements in
    let w = evict_all c.world (victims_of c.world kept part) in
    if accepts_at kept w (node_name kept k) part c.placed
    then record {
      world = w;
      placed = plus c.placed (size_of part);
      committed = c.committed ++ k ∷ [];
      dropped = c.dropped;
    }
    else record c { dropped = c.dropped ++ k ∷ [] }

-- ---- placements, in the order of the plan

abbrev pub group_name : Job → ℕ → Name
group_name job group = option_map_or (λ g. g.name) (slice_get job.document.groups group) []

-- the allocation of a committed placement: it is pending on its node, and has the node's next place
abbrev pub new_allocation : Snapshot → Job → Placement → Node → Allocation
new_allocation kept job p node = record {
  job = kept.evaluation.job;
  group = group_name job p.group;
  evaluation = kept.number;
  pool = kept.pool;
  node = node_name kept p.node;
  place = node.places + 1;
  size = p.size;
  priority = job.document.priority;
  job_modify_index = job.modify_index;
  desired = DesiredStatus.Run;
  client = ClientStatus.Pending;
  create_index = 0;
  modify_index = 0;
}

-- the allocation gets the namespace's next allocation number
abbrev pub with_allocation : Allocation → Tenant → Tenant
with_allocation a t = record t {
  allocation_number = t.allocation_number + 1;
  allocations = insert t.allocations (t.allocation_number + 1) a;
}

abbrev pub with_place : Name → Node → PoolRows → PoolRows
with_place name node pool = with_node name (record node { places = node.places + 1 }) pool

abbrev pub counted : Name → Name → Node → World → World
counted pool name node w = option_map_or (λ p. put_pool pool (with_place name node p) w) (get w.pools pool) w

abbrev pub place_with : Snapshot → Placement → World → Job → Node → World
place_with kept p w job node = counted kept.pool (node_name kept p.node) node
    (change_tenant kept.namespace (with_allocation (new_allocation kept job p node)) w)

-- one placement becomes an allocation; a plan places something only if its snapshot has the job
unfoldable pub place_one : Snapshot → World → Placement → World
place_one kept w p =
    option_map_or (λ job. option_map_or (place_with kept p w job) (node_at w kept.pool (node_name kept p.node)) w)
    kept.job w

abbrev pub committed_placements : Commit → List Placement → List Placement
committed_placements c placements = filter (λ p. has_number c.committed p.node) placements

abbrev pub place_all : Snapshot → World → List Placement → World
place_all kept w placements = fold (place_one kept) w placements

-- ---- evaluations for the jobs that lost an allocation

-- an evicted allocation: its namespace, its number, and its row before the eviction
abbrev pub Victim : Type 0
Victim = Name × (ℕ × Allocation)

abbrev pub victim_at : World → Eviction → Option Victim
victim_at w e = option_map (λ a. (e.namespace, (e.number, a))) (allocation_at w (e.namespace, e.number))

-- the allocations that these placements evict, in the order of the plan
abbrev pub evicted_rows : World → Snapshot → List Placement → List Victim
evicted_rows w kept placements = filter_map (victim_at w) (victims_of w kept placements)

abbrev pub same_victim_job : Victim → Victim → Bool
same_victim_job a b = same_name a.0 b.0 && same_name a.1.1.job b.1.1.job

-- of the victims of the same job, the one with the least number
abbrev pub least_of_job : List Victim → Victim → Allocation
least_of_job victims v = option_map_or (λ a. a) (least (map (λ x. x.1) (filter (same_victim_job v) victims))) v.1.1

-- each job that lost an allocation gets one evaluation, in the order of the jobs' first victims
unfoldable pub make_up : List Victim → World → World
make_up victims w =
    fold (λ x v. make v.0 (λ t. evaluation_for t (least_of_job victims v) Trigger.Preemption) x) w
    (first_each same_victim_job victims)

-- ---- Apply

-- which parts of a plan are done in the present state
pub record Checked : Type 0 where
  -- the plan no longer stands, and nothing of it is done
  pub is_refused : Bool
  -- the stops of allocations that are still live, in the order of the plan
  pub stops : List ℕ
  -- the places in the snapshot of the nodes whose part is done, and of those whose part is dropped, in the order of first
  -- placement
  pub committed : List ℕ
  pub dropped : List ℕ
  -- the allocations that the committed parts evict, each once, in the order of the plan
  pub victims : List Key

-- what an Apply does: the parts that are done, the state after it, the numbers of the new allocations, the names of the
-- dropped nodes, and whether anything was dropped or committed
pub record Applied : Type 0 where
  pub checked : Checked
  pub world : World
  pub made : List ℕ
  pub dropped : List Name
  pub has_dropped : Bool
  pub has_committed : Bool

abbrev pub names_in : Snapshot → List ℕ → List Name
names_in kept nodes = sorted_names (map (node_name kept) nodes)

-- a plan that no longer stands commits nothing and drops the part of every node
abbrev pub no_part : Plan → Checked
no_part p = record {
  is_refused = true;
  stops = [];
  committed = [];
  dropped = nodes_in p.placing.placements;
  victims = [];
}

abbrev pub refused_whole : Snapshot → Plan → World → Applied
refused_whole kept p w = record {
  checked = no_part p;
  world = w;
  made = [];
  dropped = names_in kept (no_part p).dropped;
  has_dropped = true;
  has_committed = false;
}

-- the numbers of new allocations, one for each element of the list: n + 1, n + 2 and so on
abbrev pub numbers_after : {X : Type 0} → ℕ → List X → List ℕ
numbers_after n [] = []
numbers_after n (x ∷ xs) = (n + 1) ∷ numbers_after (n + 1) xs

abbrev pub victim_key : Eviction → Key
victim_key e = (e.namespace, e.number)

-- the keys of the victims, each once
abbrev pub victim_keys : List Eviction → List Key
victim_keys victims = first_each same_key (map victim_key victims)

abbrev pub parts_done : Snapshot → List ℕ → List Placement → World → Commit → Checked
parts_done kept stops placements stopped c = record {
  is_refused = false;
  stops = stops;
  committed = c.committed;
  dropped = c.dropped;
  victims = victim_keys (victims_of stopped kept (committed_placements c placements));
}

abbrev pub done_with : Snapshot → Tenant → List ℕ → List Placement → World → Commit → Applied
done_with kept t stops placements stopped c =
    let placed = committed_placements c placements in
    record {
      checked = parts_done kept stops placements stopped c;
      world = make_up (evicted_rows stopped kept placed) (place_all kept c.world placed);
      made = numbers_after t.allocation_number placed;
      dropped = names_in kept c.dropped;
      has_dropped = not (is_empty c.dropped);
      has_committed = not (is_empty stops) || not (is_empty placed);
    }

-- first the stops of allocations that are still live, then the placements, node by node
abbrev pub done : Snapshot → Plan → World → Tenant → Applied
done kept p w t =
    let stops = live_stops t p.stops in
    let stopped = stop_all kept.namespace stops w in
    let placements = p.placing.placements in
    done_with kept t stops placements stopped (fold (decide kept placements) (begun stopped) (nodes_in placements))

unfoldable pub commit : Snapshot → Plan → World → Tenant → Applied
commit kept p w t =
    if still_stands kept.job (get t.jobs kept.evaluation.job) then done kept p w t
    else refused_whole kept p w

-- if something was committed, the tries start again; if something was dropped and nothing committed, a try is used
abbrev pub tries_after : Applied → Worker → Evaluation → ℕ
tries_after a worker e =
    if a.has_committed then tries_for e.kind
    else if a.has_dropped then worker.tries - 1
    else worker.tries

abbrev pub phase_after : Applied → Phase
phase_after a = if a.has_dropped then Phase.Dropped else Phase.Applied

abbrev pub applied_worker : Applied → Worker → Evaluation → Worker
applied_worker a worker e = record worker { phase = phase_after a; tries = tries_after a worker e }

abbrev pub applied : ℕ → Name → Worker → Evaluation → Applied → Outcome World
applied number ns worker e a =
    Done (Content.Applied a.made a.dropped)
    (record (change_tenant ns (with_worker number (applied_worker a worker e)) a.world)
    { plans = without_key (ns, worker.evaluation) a.world.plans })

-- the worker has submitted its plan, and that plan is the next to apply
abbrev pub apply_for : ℕ → Name → World → Tenant → Worker → Evaluation → Snapshot → Outcome World
apply_for number ns w t worker e kept =
    if is_submitted worker.phase && is_served w w.plans (ns, worker.evaluation)
    then applied number ns worker e (commit kept (plan kept) w t)
    else NotEnabled

unfoldable pub apply : ℕ → Name → World → Outcome World
apply number ns w = at_work number ns w
    (λ t worker e. option_map_or (apply_for number ns w t worker e) worker.kept NotEnabled)
