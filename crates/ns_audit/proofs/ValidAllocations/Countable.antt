-- What a snapshot holds when it is taken is within the bounds of what plans compute with.
use Rattle.std.specs.Prelude.{◌≡◌, ℕ, ◌≤◌, ◌<◌, ◌^◌, Bool, true, cond, List, [], Option, Some, None, ◌&&◌, ◌||◌, filter, length, map, sum_by}
use Rattle.std.proofs.Common.{refl, subst, ◌∙◌, arith}
use Rattle.std.proofs.lemmas.List.{length-map}
use Rattle.std.specs.FinMap.{entries, from_entries, get, len-entries}
use Rattle.std.specs.List.{list_all}
use Rattle.std.specs.Option.{option_and_then, option_map_or}
use Rattle.std.specs.Ordering.{nat_cmp}
use Rattle.ns_types.proofs.Amounts.{every}
use Rattle.ns_types.specs.declared.allocation.Allocation.{Allocation}
use Rattle.ns_types.specs.declared.evaluation.Evaluation.{Evaluation}
use Rattle.ns_types.specs.declared.job.Job.{Job}
use Rattle.ns_types.specs.declared.node.Node.{Node}
use Rattle.ns_types.specs.declared.resources.Resources.{Resources}
use Rattle.ns_types.specs.declared.snapshot.LiveAllocation.{LiveAllocation}
use Rattle.ns_types.specs.declared.snapshot.OwnAllocation.{OwnAllocation}
use Rattle.ns_types.specs.declared.snapshot.PoolNode.{PoolNode}
use Rattle.ns_types.specs.declared.snapshot.QuotaSeen.{QuotaSeen}
use Rattle.ns_types.specs.Asking.Nodes.{most_nodes}
use Rattle.ns_types.specs.Placing.Wanted.{live_ones}
use Rattle.ns_types.specs.State.Limits.{is_good_offer}
use Rattle.ns_types.specs.State.Lists.{by_number}
use Rattle.ns_types.specs.State.Names.{Name, same_name}
use Rattle.ns_types.specs.State.Resources.{is_within, quantity}
use Rattle.ns_types.specs.State.Rows.{World, Tenant, PoolRows, is_live, is_live_on}
use Rattle.ns_types.specs.State.Sums.{node_load, node_sum, tenant_sum}
use Rattle.ns_types.specs.Validity.{IsCountable, IsSmall, IsSound, IsSoundNode, seen_load}
use Rattle.ns_types.specs.Working.Snapshot.{allocations_on, is_done_for, live_on, nodes_of, own_allocations, pool_for, quota_seen, seen_live, snapshot_of}
use Rattle.ns_types.proofs.Elements.{all_from_each, each_mapped}
use Rattle.ns_types.proofs.Lists.{each}
use Rattle.ns_types.proofs.LiveSums.{all_live, all_small, live_by_tenant, live_size, quota_small}
use Rattle.ns_types.proofs.Named.{names, one_name, numbers, one_number}
use Rattle.ns_types.proofs.Sums.{sum_filter, sum_flat, sum_kept, sum_map, sum_same}
use Rattle.ns_types.proofs.Tables.{each_row}
use Rattle.ns_types.proofs.Tests.{not_Some}
use Rattle.ns_audit.proofs.ValidAllocations.Sound.{within_less}
use Rattle.ns_audit.proofs.ValidAllocations.Sums.{sum_at, sum_made}
use Rattle.ns_audit.proofs.ValidRecords.Sound.{found_in}

-- ---- what was live on a node

abbrev Placed : Type 0
Placed = Name × (ℕ × Allocation)

module _ (w : World) (pool node : Name) (amount : Resources → ℕ) where
  abbrev size_of : Placed → ℕ
  size_of a = amount a.1.1.size

  abbrev at_place : Placed → ℕ × Placed
  at_place a = (a.1.1.place, a)

  -- of several at one place the first alone is seen
  by_place : (xs : List Placed) → sum_by size_of (by_number (λ a. a.1.1.place) xs) ≤ sum_by size_of xs
  by_place xs =
      let values = sum_map size_of (λ (e : ℕ × Placed). e.1) (entries (from_entries {R = nat_cmp} (map at_place xs))) in
      let once = sum_made numbers one_number (λ (_ : ℕ) (a : Placed). size_of a) (map at_place xs) in
      let pairs = sum_map (λ (e : ℕ × Placed). size_of e.1) at_place xs in
      omega (arith, values, once, pairs)

  abbrev placed_by : Name × Tenant → List Placed
  placed_by t = map (λ a. (t.0, a)) (filter (λ a. is_live_on pool node a.1) (entries t.1.allocations))

  sum_of : (t : Name × Tenant) → sum_by size_of (placed_by t) ≡ tenant_sum (is_live_on pool node) amount t.1
  sum_of t = sum_map size_of (λ (a : ℕ × Allocation). (t.0, a)) (filter (λ a. is_live_on pool node a.1) (entries t.1.allocations))
      ∙ sum_filter (λ (a : ℕ × Allocation). amount a.1.size) (λ a. is_live_on pool node a.1) (entries t.1.allocations)

  sum_on : sum_by size_of (allocations_on w pool node) ≡ node_sum w pool node amount
  unfolding node_sum
  sum_on = sum_flat size_of placed_by (entries w.tenants)
      ∙ sum_same (λ (t : Name × Tenant). sum_by size_of (placed_by t)) (λ t. tenant_sum (is_live_on pool node) amount t.1) (entries w.tenants)
      (each (λ (t : Name × Tenant). sum_by size_of (placed_by t) ≡ tenant_sum (is_live_on pool node) amount t.1) sum_of (entries w.tenants))

  seen_sum : sum_by (λ (a : LiveAllocation). amount a.size) (live_on w pool node) ≤ node_sum w pool node amount
  unfolding live_on
  seen_sum =
      let seen = sum_map (λ (a : LiveAllocation). amount a.size) seen_live (by_number (λ a. a.1.1.place) (allocations_on w pool node)) in
      let placed = by_place (allocations_on w pool node) in
      let all = sum_on in
      omega (arith, seen, placed, all)

-- ---- what was live of the job

module _ (w : World) (ns : Name) (t : Tenant) (id : Name) (job : Option Job) (is : get w.tenants ns ≡ Some t) (amount : Resources → ℕ) where
  abbrev own_of : ℕ × Allocation → OwnAllocation
  own_of a = record { number = a.0; row = a.1 }

  abbrev its_own : List (ℕ × Allocation)
  its_own = filter (λ a. same_name id a.1.job && (is_live a.1 || is_done_for job a.1)) (entries t.allocations)

  own_sum : sum_by (λ (a : OwnAllocation). amount a.row.size) (live_ones (own_allocations t id job)) ≤ all_live w amount
  own_sum =
      let live = sum_filter (λ (a : OwnAllocation). amount a.row.size) (λ a. is_live a.row) (map own_of its_own) in
      let rows = sum_map (λ (a : OwnAllocation). cond (is_live a.row) (amount a.row.size) 0) own_of its_own in
      let among = sum_kept (live_size amount) (λ a. same_name id a.1.job && (is_live a.1 || is_done_for job a.1)) (entries t.allocations) in
      let one = sum_at names one_name (λ _ (x : Tenant). tenant_sum is_live amount x) w.tenants ns t is in
      let all = live_by_tenant w amount in
      omega (arith, live, rows, among, one, all)

-- ---- all of a snapshot

module _ (w : World) (s : IsSound w) where
  module _ (pool : Name) where
    abbrev seen_node : Name × Node → PoolNode
    seen_node e = record { name = e.0; row = e.1; live = live_on w pool e.0 }

    few_seen : length (nodes_of w pool) ≤ most_nodes
    few_seen = by (get w.pools pool) refl
      where
        by : (o : Option PoolRows) → get w.pools pool ≡ o → length (option_map_or (λ p. map seen_node (entries p.nodes)) o []) ≤ most_nodes
        by None is = omega arith
        by (Some p) is =
            let few = (s.pool pool p is).few_nodes in
            let long = len-entries p.nodes in
            let mapped = length-map (entries p.nodes) seen_node in
            omega (arith, few, long, mapped)

    -- what a valid world says of its nodes holds of those that are seen
    each_seen : (q : PoolNode → Bool) → ((name : Name) (node : Node) → IsSoundNode w pool name node → q (seen_node (name, node)) ≡ true) →
        list_all q (nodes_of w pool) ≡ true
    each_seen q holds = by (get w.pools pool) refl
      where
        by : (o : Option PoolRows) → get w.pools pool ≡ o → list_all q (option_map_or (λ p. map seen_node (entries p.nodes)) o []) ≡ true
        by None is = refl
        by (Some p) is = all_from_each q (map seen_node (entries p.nodes)) (each_mapped (λ n. q n ≡ true) seen_node (entries p.nodes)
            (each_row names one_name (λ name node. q (seen_node (name, node)) ≡ true) p.nodes
            (λ name node at. holds name node ((s.pool pool p is).node name node at))))

    load_within : (name : Name) (node : Node) → IsSoundNode w pool name node → is_within (seen_load (seen_node (name, node))) node.offer.capacity ≡ true
    load_within name node sound = within_less (seen_load (seen_node (name, node))) (node_load w pool name) node.offer.capacity
        (every (λ r. sum_by (λ a. quantity r a.size) (live_on w pool name) ≤ node_sum w pool name (quantity r)) (λ r.
        seen_sum w pool name (quantity r))) sound.within

  used_small : (o : Option Name) (q : QuotaSeen) → option_and_then (quota_seen w) o ≡ Some q → IsSmall q.used
  used_small None q named = absurd (not_Some _ named)
  used_small (Some name) q named =
      let made = found_in _ (get w.quotas name) q named in
      subst (λ (q : QuotaSeen). IsSmall q.used) made.2 (quota_small w name s)

  pub seen_countable : (ns : Name) (t : Tenant) (number : ℕ) (e : Evaluation) → get w.tenants ns ≡ Some t → IsCountable (snapshot_of w ns t number e)
  seen_countable ns t number e is =
      let pool = pool_for e (get t.jobs e.job) in
      let taken = own_sum w ns t e.job (get t.jobs e.job) is in record {
        few_nodes = few_seen pool;
        good = each_seen pool (λ n. is_good_offer n.row.offer) (λ name node sound. sound.good);
        within = each_seen pool (λ n. is_within (seen_load n) n.row.offer.capacity) (load_within pool);
        own = every (λ r. sum_by (λ a. quantity r a.row.size) (live_ones (own_allocations t e.job (get t.jobs e.job))) < 2 ^ 55) (λ r.
            let some = taken (quantity r) in
            omega (arith, some, all_small w s r));
        used = used_small t.namespace.quota;
      }
