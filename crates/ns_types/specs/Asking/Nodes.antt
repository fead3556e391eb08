-- The requests about one pool and its nodes.
-- Nomad's page on the nodes HTTP API.
use Rattle.std.specs.Prelude.{ℕ, Bool, true, false, not, ◌&&◌, if◌then◌else◌, List, Option, Some, None, filter, map}
use Rattle.std.specs.Prelude.{flat_map, fold, nat_le}
use Rattle.std.specs.Option.{option_map_or}
use Rattle.std.specs.FinMap.{get, remove, contains_key, len, entries, values, from_entries}
use Rattle.ns_types.specs.declared.acl.PoolRights.{PoolRights}
use Rattle.ns_types.specs.declared.allocation.Allocation.{Allocation}
use Rattle.ns_types.specs.declared.allocation.ClientStatus.{ClientStatus}
use Rattle.ns_types.specs.declared.evaluation.Trigger.TheVariants as Trigger
use Rattle.ns_types.specs.declared.node.Node.{Node}
use Rattle.ns_types.specs.declared.node.NodeStatus.{NodeStatus}
use Rattle.ns_types.specs.declared.node.Offer.{Offer}
use Rattle.ns_types.specs.declared.refusal.Refusal.TheVariants as Refusal
use Rattle.ns_types.specs.declared.reply.Content.{Content}
use Rattle.ns_types.specs.declared.step.NodeCommand.{NodeCommand}
use Rattle.ns_types.specs.declared.step.Report.{Report}
use Rattle.ns_types.specs.Settling.Making.{put_pool, with_node, change_tenant, with_client, evaluation_for, make}
use Rattle.ns_types.specs.State.Names.{Name, name_cmp, same_name}
use Rattle.ns_types.specs.Settling.Outcome.{Outcome, Done, unless, found, in_pool}
use Rattle.ns_types.specs.State.Resources.{is_within}
use Rattle.ns_types.specs.State.Rows.{World, Tenant, PoolRows, is_run, is_live_on, is_ready, allocation_at}
use Rattle.ns_types.specs.State.Sums.{node_load}
use Rattle.ns_types.specs.State.Tables.{map_rows}
use Rattle.ns_types.specs.Placing.Wanted.{is_batch}
use Rattle.ns_types.specs.Wire.Words.{client_text}

-- ---- reads

abbrev pub read_pool : Name → PoolRows → Content
read_pool name pool = Content.Pool (record { name = name; row = pool.pool })

abbrev pub list_nodes : Name → World → PoolRows → Content
list_nodes name w pool = Content.Nodes
    (map (λ n. record { pool = name; name = n.0; row = n.1; used = node_load w name n.0 }) (entries pool.nodes))

-- ---- registration

abbrev pub most_nodes : ℕ
most_nodes = 1000

-- a new node is ready and eligible; a node that exists keeps its status and eligibility
abbrev pub with_offer : Offer → Option Node → Node
with_offer offer None = record { offer = offer; status = NodeStatus.Ready; eligible = true; places = 0 }
with_offer offer (Some node) = record node { offer = offer }

abbrev pub put_node : Name → Name → Offer → World → PoolRows → Outcome World
put_node pool name offer w p =
    unless (not (is_within (node_load w pool name) offer.capacity)) Refusal.InUse (
    unless (not (contains_key p.nodes name) && nat_le most_nodes (len p.nodes)) Refusal.Full (
    Done Content.Written (put_pool pool (with_node name (with_offer offer (get p.nodes name)) p) w)))

-- a node can be deleted only while it is down
abbrev pub delete_node : Name → Name → World → PoolRows → Outcome World
delete_node pool name w p = found (get p.nodes name) (λ node.
    unless (is_ready node.status) Refusal.InUse (
    Done Content.Written (put_pool pool (record p { nodes = remove p.nodes name }) w)))

-- ---- status and eligibility

-- for each job with live allocations on the node, the one of them with the least number, by job id
abbrev pub losing_jobs : Name → Name → Tenant → List Allocation
losing_jobs pool node t = values (from_entries {R = name_cmp}
    (map (λ a. (a.1.job, a.1)) (filter (λ a. is_live_on pool node a.1) (entries t.allocations))))

-- for each job of any namespace with live allocations on the node, one of them, by namespace and then by job id
abbrev pub losses : Name → Name → World → List (Name × Allocation)
losses pool node w = flat_map (λ t. map (λ a. (t.0, a)) (losing_jobs pool node t.1)) (entries w.tenants)

-- an allocation that is live on the node becomes `lost`
abbrev pub lost : Name → Name → Allocation → Allocation
lost pool node a = if is_live_on pool node a then record a { client = ClientStatus.Lost } else a

abbrev pub lose : Name → Name → World → World
lose pool node w = record w {
  tenants = map_rows (λ _ t. record t { allocations = map_rows (λ _ a. lost pool node a) t.allocations }) w.tenants;
}

-- the live allocations on the node are lost, and each job that had one there gets an evaluation
unfoldable pub go_down : Name → Name → World → World
go_down pool node w = fold (λ x loss. make loss.0 (λ t. evaluation_for t loss.1 Trigger.NodeUpdate) x)
    (lose pool node w) (losses pool node w)

abbrev pub set_status : Name → Name → NodeStatus → World → PoolRows → Outcome World
set_status pool name status w p = found (get p.nodes name) (λ node.
    let w' = put_pool pool (with_node name (record node { status = status }) p) w in
    Done Content.Written (if is_ready status then w' else go_down pool name w'))

abbrev pub set_eligible : Name → Name → Bool → World → PoolRows → Outcome World
set_eligible pool name eligible w p = found (get p.nodes name) (λ node.
    Done Content.Written (put_pool pool (with_node name (record node { eligible = eligible }) p) w))

-- ---- reports

-- `pending` may become `running`, `complete` or `failed`, and `running` may become `complete` or `failed`
abbrev pub may_become : ClientStatus → ClientStatus → Bool
may_become ClientStatus.Pending ClientStatus.Running = true
may_become ClientStatus.Pending ClientStatus.Complete = true
may_become ClientStatus.Pending ClientStatus.Failed = true
may_become ClientStatus.Running ClientStatus.Complete = true
may_become ClientStatus.Running ClientStatus.Failed = true
may_become _ _ = false

abbrev pub same_client : ClientStatus → ClientStatus → Bool
same_client a b = same_name (client_text a) (client_text b)

-- the allocation is of a batch job; a job that is gone counts as a service job
abbrev pub is_of_batch : Tenant → Allocation → Bool
is_of_batch t a = option_map_or (λ job. is_batch job.document.kind) (get t.jobs a.job) false

-- a report makes an evaluation if the allocation was to run, and it failed, or completed and is not of a batch job
abbrev pub calls_for_one : Tenant → Allocation → ClientStatus → Bool
calls_for_one t a ClientStatus.Failed = is_run a.desired
calls_for_one t a ClientStatus.Complete = is_run a.desired && not (is_of_batch t a)
calls_for_one t a _ = false

-- the allocation gets the reported status, and its job an evaluation if the status calls for one
abbrev pub reported : Report → Allocation → World → World
reported r a w =
    let w' = change_tenant r.namespace (with_client r.number r.client) w in
    if option_map_or (λ t. calls_for_one t a r.client) (get w.tenants r.namespace) false
    then make r.namespace (λ t. evaluation_for t a Trigger.AllocFailure) w' else w'

abbrev pub is_on : Name → Name → Allocation → Bool
is_on pool node a = same_name pool a.pool && same_name node a.node

abbrev pub report_of : Report → World → Allocation → Outcome World
report_of r w a =
    if same_client a.client r.client then Done Content.Written w
    else unless (not (may_become a.client r.client)) Refusal.Conflict (Done Content.Written (reported r a w))

abbrev pub report : Name → Name → Report → World → PoolRows → Outcome World
report pool name r w p = found (get p.nodes name) (λ node. found (allocation_at w (r.namespace, r.number)) (λ a.
    unless (not (is_on pool name a)) Refusal.NotFound (report_of r w a)))

-- ---- all requests about a pool

abbrev pub asked_in_pool : Name → NodeCommand → World → PoolRows → Outcome World
asked_in_pool pool NodeCommand.ReadPool w p = Done (read_pool pool p) w
asked_in_pool pool NodeCommand.ListNodes w p = Done (list_nodes pool w p) w
asked_in_pool pool (NodeCommand.PutNode name offer) w p = put_node pool name offer w p
asked_in_pool pool (NodeCommand.DeleteNode name) w p = delete_node pool name w p
asked_in_pool pool (NodeCommand.SetStatus name status) w p = set_status pool name status w p
asked_in_pool pool (NodeCommand.SetEligible name eligible) w p = set_eligible pool name eligible w p
asked_in_pool pool (NodeCommand.Report name r) w p = report pool name r w p

unfoldable pub ask_pool : Name → NodeCommand → World → Outcome World
ask_pool pool command w = in_pool w pool (asked_in_pool pool command w)

-- the right that each request needs
abbrev pub pool_right_of : NodeCommand → PoolRights → Bool
pool_right_of NodeCommand.ReadPool rights = rights.read
pool_right_of NodeCommand.ListNodes rights = rights.read
pool_right_of (NodeCommand.PutNode name offer) rights = rights.write
pool_right_of (NodeCommand.DeleteNode name) rights = rights.write
pool_right_of (NodeCommand.SetStatus name status) rights = rights.write
pool_right_of (NodeCommand.SetEligible name eligible) rights = rights.write
pool_right_of (NodeCommand.Report name r) rights = rights.write
