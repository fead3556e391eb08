-- Where the small changes of a world keep to a relation, so does what is asked of a namespace or of a pool, and what a plan does.
use Rattle.std.specs.Prelude.{◌≡◌, ℕ, ◌≤◌, Bool, true, false, cond, not, List, [], ◌∷◌, Option, Some, None, fold}
use Rattle.std.proofs.Common.{refl, sym, ap, ◌∙◌, arith}
use Rattle.std.specs.FinMap.{get, insert}
use Rattle.std.specs.Option.{option_map_or}
use Rattle.ns_types.specs.declared.allocation.Allocation.{Allocation}
use Rattle.ns_types.specs.declared.allocation.ClientStatus.{ClientStatus}
use Rattle.ns_types.specs.declared.allocation.DesiredStatus.{DesiredStatus}
use Rattle.ns_types.specs.declared.evaluation.Evaluation.{Evaluation}
use Rattle.ns_types.specs.declared.evaluation.Trigger.TheVariants as Trigger
use Rattle.ns_types.specs.declared.job.Job.{Job}
use Rattle.ns_types.specs.declared.node.Node.{Node}
use Rattle.ns_types.specs.declared.plan.Eviction.{Eviction}
use Rattle.ns_types.specs.declared.plan.Placement.{Placement}
use Rattle.ns_types.specs.declared.plan.Plan.{Plan}
use Rattle.ns_types.specs.declared.refusal.Refusal.TheVariants as Refusal
use Rattle.ns_types.specs.declared.reply.Content.TheVariants as Content
use Rattle.ns_types.specs.declared.snapshot.Snapshot.{Snapshot}
use Rattle.ns_types.specs.declared.step.AskCommand.{AskCommand}
use Rattle.ns_types.specs.declared.step.NodeCommand.{NodeCommand}
use Rattle.ns_types.specs.declared.step.Report.{Report}
use Rattle.ns_types.specs.Asking.Asks.{deregistered, asked_in, ask, first_refusal}
use Rattle.ns_types.specs.Working.Commit.{still_stands, live_stops, stop_all, node_name, nodes_in, evict, evict_all, Commit}
use Rattle.ns_types.specs.Working.Commit.{begun, decide, new_allocation, with_allocation, with_place, place_with, place_one, committed_placements}
use Rattle.ns_types.specs.Working.Commit.{place_all, Victim, evicted_rows, same_victim_job, least_of_job, make_up, refused_whole, done, commit}
use Rattle.ns_types.specs.State.Lists.{first_each}
use Rattle.ns_types.specs.Settling.Making.{put_tenant, change_tenant, put_pool, with_node, with_desired, with_client, evaluation_for, make_in, make}
use Rattle.ns_types.specs.State.Names.{Name}
use Rattle.ns_types.specs.Asking.Nodes.{losses, lost, lose, go_down, may_become, same_client, calls_for_one, reported, is_on, report_of, asked_in_pool}
use Rattle.ns_types.specs.Asking.Nodes.{ask_pool}
use Rattle.ns_types.specs.Settling.Outcome.{Refused, Done, unless}
use Rattle.ns_types.specs.State.Rows.{World, Tenant, PoolRows, is_ready, allocation_at, node_at}
use Rattle.ns_types.specs.State.Sums.{names_quota, quota_use}
use Rattle.ns_types.specs.State.Tables.{map_rows}
use Rattle.ns_types.proofs.Decided.{decided_world}
use Rattle.ns_types.proofs.Leads.{Leads, leads_unless, leads_refused, leads_found, leads_if}
use Rattle.ns_types.proofs.Tests.{same_Some}

-- S relates rows of a namespace, R worlds. S holds where workers and evaluations stay as they are. R holds where one namespace or
-- all change by S, where an evaluation is made, and where a pool has no fewer releases. Both hold of several changes in turn.
pub record Carries (R : World → World → Type 0) (S : Tenant → Tenant → Type 0) : Type 0 where
  pub none : (t u : Tenant) → u.workers ≡ t.workers → u.evaluations ≡ t.evaluations → u.evaluation_number ≡ t.evaluation_number → S t u
  pub follows : (t u v : Tenant) → S t u → S u v → S t v
  pub same : (w : World) → R w w
  pub then : (w x y : World) → R w x → R x y → R w y
  pub put : (ns : Name) (t u : Tenant) (w : World) → get w.tenants ns ≡ Some t → S t u → R w (put_tenant ns u w)
  pub map : (f : Name → Tenant → Tenant) → ((ns : Name) (t : Tenant) → S t (f ns t)) → (w : World) → R w (record w { tenants = map_rows f w.tenants })
  pub make_in : (ns : Name) (e : Evaluation) (t u : Tenant) (w : World) → get w.tenants ns ≡ Some t → S t u → R w (make_in ns e w u)
  pub pool : (pool : Name) (p : PoolRows) (w : World) → ((q : PoolRows) → get w.pools pool ≡ Some q → q.release ≤ p.release) → R w (put_pool pool p w)

as_many : (w : World) (pool : Name) (p q : PoolRows) (n : ℕ) → get w.pools pool ≡ Some p → n ≡ p.release → get w.pools pool ≡ Some q → q.release ≤ n
as_many w pool p q n is same q_is = let e = ap (λ (p : PoolRows). p.release) (same_Some _ _ (sym q_is ∙ is)) in omega (arith, e, same)

module _ {R : World → World → Type 0} {S : Tenant → Tenant → Type 0} (h : Carries R S) where
  pub carries_each : {A : Type 0} (f : World → A → World) → ((w : World) (x : A) → R w (f w x)) → (xs : List A) (w : World) → R w (fold f w xs)
  carries_each f g [] w = h.same w
  carries_each f g (x ∷ xs) w = h.then w (f w x) (fold f (f w x) xs) (g w x) (carries_each f g xs (f w x))

  pub carries_change : (ns : Name) (f : Tenant → Tenant) → ((t : Tenant) → S t (f t)) → (w : World) → R w (change_tenant ns f w)
  carries_change ns f g w = by (get w.tenants ns) refl
    where
      by : (o : Option Tenant) → get w.tenants ns ≡ o → R w (option_map_or (λ t. put_tenant ns (f t) w) o w)
      by None is = h.same w
      by (Some t) is = h.put ns t (f t) w is (g t)

  pub carries_make : (ns : Name) (evaluation : Tenant → Evaluation) (w : World) → R w (make ns evaluation w)
  carries_make ns evaluation w = by (get w.tenants ns) refl
    where
      by : (o : Option Tenant) → get w.tenants ns ≡ o → R w (option_map_or (λ t. make_in ns (evaluation t) w t) o w)
      by None is = h.same w
      by (Some t) is = h.make_in ns (evaluation t) t t w is (h.none t t refl refl refl)

  -- ---- one namespace

  desired_follows : (n : ℕ) (d : DesiredStatus) (t : Tenant) → S t (with_desired n d t)
  desired_follows n d t = by (get t.allocations n)
    where
      by : (o : Option Allocation) → S t (option_map_or (λ a. record t { allocations = insert t.allocations n (record a { desired = d }) }) o t)
      by None = h.none t t refl refl refl
      by (Some a) = h.none t _ refl refl refl

  client_follows : (n : ℕ) (c : ClientStatus) (t : Tenant) → S t (with_client n c t)
  client_follows n c t = by (get t.allocations n)
    where
      by : (o : Option Allocation) → S t (option_map_or (λ a. record t { allocations = insert t.allocations n (record a { client = c }) }) o t)
      by None = h.none t t refl refl refl
      by (Some a) = h.none t _ refl refl refl

  stops_follows : (stops : List ℕ) (t : Tenant) → S t (fold (λ x n. with_desired n DesiredStatus.Stop x) t stops)
  stops_follows [] t = h.none t t refl refl refl
  stops_follows (n ∷ stops) t = h.follows t (with_desired n DesiredStatus.Stop t) _ (desired_follows n DesiredStatus.Stop t)
      (stops_follows stops (with_desired n DesiredStatus.Stop t))

  deregistered_follows : (purge : Bool) (id : Name) (job : Job) (t : Tenant) → S t (deregistered purge id job t)
  deregistered_follows true id job t = h.none t _ refl refl refl
  deregistered_follows false id job t = h.none t _ refl refl refl

  -- ---- what is asked

  asked_carries : (w : World) (ns : Name) (command : AskCommand) (t : Tenant) → get w.tenants ns ≡ Some t → Leads (R w) (asked_in ns command w t)
  asked_carries w ns (AskCommand.ListJobs prefix) t is = h.same w
  asked_carries w ns (AskCommand.Register r) t is = leads_refused (R w) (first_refusal w t r) _
      (λ _. h.make_in ns _ t _ w is (h.none t _ refl refl refl))
  asked_carries w ns (AskCommand.ReadJob id) t is = leads_found (R w) (get t.jobs id) _ (λ job _. h.same w)
  asked_carries w ns (AskCommand.Deregister id purge) t is =
      leads_found (R w) (get t.jobs id) _ (λ job _. h.make_in ns _ t (deregistered purge id job t) w is (deregistered_follows purge id job t))
  asked_carries w ns (AskCommand.JobAllocations id) t is = h.same w
  asked_carries w ns (AskCommand.JobEvaluations id) t is = h.same w
  asked_carries w ns (AskCommand.ListEvaluations prefix) t is = h.same w
  asked_carries w ns (AskCommand.ReadEvaluation n) t is = leads_found (R w) (get t.evaluations n) _ (λ e _. h.same w)
  asked_carries w ns (AskCommand.ListAllocations prefix) t is = h.same w
  asked_carries w ns (AskCommand.ReadAllocation n) t is = leads_found (R w) (get t.allocations n) _ (λ a _. h.same w)
  asked_carries w ns (AskCommand.StopAllocation n) t is =
      leads_found (R w) (get t.allocations n) _
      (λ a _. leads_unless (R w) _ _ _ (λ _. h.make_in ns _ t (with_desired n DesiredStatus.Stop t) w is (desired_follows n DesiredStatus.Stop t)))
  asked_carries w ns AskCommand.ReadNamespace t is = h.same w
  asked_carries w ns (AskCommand.QuotaUsage quota) t is = leads_if (R w) (names_quota quota t.namespace) (Done (Content.Usage quota (quota_use w quota)) w)
      (Refused Refusal.NotFound) (λ _. h.same w) (λ _. tt)
  asked_carries w ns (AskCommand.Events index) t is = h.same w

  pub ask_carries : (w : World) (ns : Name) (command : AskCommand) → Leads (R w) (ask ns command w)
  unfolding ask
  ask_carries w ns command = leads_found (R w) (get w.tenants ns) (asked_in ns command w) (λ t is. asked_carries w ns command t is)

  -- ---- what is asked of a pool

  down_carries : (pool node : Name) (w : World) → R w (go_down pool node w)
  unfolding go_down
  down_carries pool node w = h.then w (lose pool node w) _
      (h.map (λ _ t. record t { allocations = map_rows (λ _ a. lost pool node a) t.allocations }) (λ ns t. h.none t _ refl refl refl) w)
      (carries_each (λ x (loss : Name × Allocation). make loss.0 (λ t. evaluation_for t loss.1 Trigger.NodeUpdate) x) (λ x loss. carries_make loss.0 _ x)
      (losses pool node w) (lose pool node w))

  reported_carries : (r : Report) (a : Allocation) (w : World) → R w (reported r a w)
  reported_carries r a w = by (option_map_or (λ t. calls_for_one t a r.client) (get w.tenants r.namespace) false)
    where
      x : World
      x = change_tenant r.namespace (with_client r.number r.client) w

      first : R w x
      first = carries_change r.namespace (with_client r.number r.client) (client_follows r.number r.client) w

      by : (b : Bool) → R w (cond b (make r.namespace (λ t. evaluation_for t a Trigger.AllocFailure) x) x)
      by true = h.then w x _ first (carries_make r.namespace (λ t. evaluation_for t a Trigger.AllocFailure) x)
      by false = first

  asked_in_pool_carries : (w : World) (pool : Name) (command : NodeCommand) (p : PoolRows) → get w.pools pool ≡ Some p →
      Leads (R w) (asked_in_pool pool command w p)
  asked_in_pool_carries w pool NodeCommand.ReadPool p is = h.same w
  asked_in_pool_carries w pool NodeCommand.ListNodes p is = h.same w
  asked_in_pool_carries w pool (NodeCommand.PutNode name offer) p is =
      leads_unless (R w) _ _ _ (λ _. leads_unless (R w) _ _ _ (λ _. h.pool pool _ w (λ q q_is. as_many w pool p q p.release is refl q_is)))
  asked_in_pool_carries w pool (NodeCommand.DeleteNode name) p is =
      leads_found (R w) (get p.nodes name) _ (λ node _. leads_unless (R w) _ _ _
      (λ _. h.pool pool _ w (λ q q_is. as_many w pool p q p.release is refl q_is)))
  asked_in_pool_carries w pool (NodeCommand.SetStatus name status) p is =
      leads_found (R w) (get p.nodes name) _ (λ node _. by (with_node name (record node { status = status }) p) refl (is_ready status))
    where
      by : (p' : PoolRows) → p'.release ≡ p.release → (b : Bool) → R w (cond b (put_pool pool p' w) (go_down pool name (put_pool pool p' w)))
      by p' same true = h.pool pool p' w (λ q q_is. as_many w pool p q p'.release is same q_is)
      by p' same false = h.then w (put_pool pool p' w) _ (h.pool pool p' w (λ q q_is. as_many w pool p q p'.release is same q_is))
          (down_carries pool name (put_pool pool p' w))
  asked_in_pool_carries w pool (NodeCommand.SetEligible name eligible) p is =
      leads_found (R w) (get p.nodes name) _ (λ node _. h.pool pool _ w (λ q q_is. as_many w pool p q p.release is refl q_is))
  asked_in_pool_carries w pool (NodeCommand.Report name r) p is = leads_found (R w) (get p.nodes name) _ (λ node _.
      leads_found (R w) (allocation_at w (r.namespace, r.number)) (λ x. unless (not (is_on pool name x)) Refusal.NotFound (report_of r w x)) (λ a _.
      leads_unless (R w) (not (is_on pool name a)) Refusal.NotFound (report_of r w a) (λ _.
      leads_if (R w) (same_client a.client r.client) (Done Content.Written w)
      (unless (not (may_become a.client r.client)) Refusal.Conflict (Done Content.Written (reported r a w))) (λ _. h.same w)
      (λ _. leads_unless (R w) (not (may_become a.client r.client)) Refusal.Conflict (Done Content.Written (reported r a w)) (λ _. reported_carries r a w)))))

  pub ask_pool_carries : (w : World) (pool : Name) (command : NodeCommand) → Leads (R w) (ask_pool pool command w)
  unfolding ask_pool
  ask_pool_carries w pool command = leads_found (R w) (get w.pools pool) (asked_in_pool pool command w) (λ p is. asked_in_pool_carries w pool command p is)

  -- ---- what a plan does

  evicted_carries : (vs : List Eviction) (w : World) → R w (evict_all w vs)
  evicted_carries vs w = carries_each evict
      (λ x v. carries_change v.namespace (with_desired v.number DesiredStatus.Evict) (desired_follows v.number DesiredStatus.Evict) x) vs w

  decided_carries : (kept : Snapshot) (ps : List Placement) (ks : List ℕ) (c : Commit) → R c.world (fold (decide kept ps) c ks).world
  decided_carries kept ps ks c = decided_world (R c.world) (λ vs w q. h.then c.world w _ q (evicted_carries vs w)) kept ps ks c (h.same c.world)

  -- the node's pool has as many releases as before
  counted_carries : (pool name : Name) (node : Node) (x : World) → R x (option_map_or (λ p. put_pool pool (with_place name node p) x) (get x.pools pool) x)
  counted_carries pool name node x = by (get x.pools pool) refl
    where
      by : (o : Option PoolRows) → get x.pools pool ≡ o → R x (option_map_or (λ p. put_pool pool (with_place name node p) x) o x)
      by None is = h.same x
      by (Some p) is = h.pool pool (with_place name node p) x (λ q q_is. as_many x pool p q p.release is refl q_is)

  placed_carries : (kept : Snapshot) (p : Placement) (w : World) → R w (place_one kept w p)
  unfolding place_one
  placed_carries kept p w = job kept.job
    where
      node : (j : Job) (o : Option Node) → R w (option_map_or (place_with kept p w j) o w)
      node j None = h.same w
      node j (Some n) =
          let x = change_tenant kept.namespace (with_allocation (new_allocation kept j p n)) w in
          h.then w x _ (carries_change kept.namespace (with_allocation (new_allocation kept j p n)) (λ t. h.none t _ refl refl refl) w)
          (counted_carries kept.pool (node_name kept p.node) n x)

      job : (o : Option Job) → R w (option_map_or (λ job. option_map_or (place_with kept p w job) (node_at w kept.pool (node_name kept p.node)) w) o w)
      job None = h.same w
      job (Some j) = node j (node_at w kept.pool (node_name kept p.node))

  made_up_carries : (victims : List Victim) (w : World) → R w (make_up victims w)
  unfolding make_up
  made_up_carries victims w = carries_each (λ x v. make v.0 (λ t. evaluation_for t (least_of_job victims v) Trigger.Preemption) x)
      (λ x v. carries_make v.0 _ x) (first_each same_victim_job victims) w

  pub commit_carries : (kept : Snapshot) (p : Plan) (w : World) (t : Tenant) → R w (commit kept p w t).world
  unfolding commit
  commit_carries kept p w t = by (still_stands kept.job (get t.jobs kept.evaluation.job))
    where
      stops : List ℕ
      stops = live_stops t p.stops

      x : World
      x = stop_all kept.namespace stops w

      c : Commit
      c = fold (decide kept p.placing.placements) (begun x) (nodes_in p.placing.placements)

      placed : List Placement
      placed = committed_placements c p.placing.placements

      by : (b : Bool) → R w (cond b (done kept p w t) (refused_whole kept p w)).world
      by true = h.then w x _ (carries_change kept.namespace (λ t. fold (λ x n. with_desired n DesiredStatus.Stop x) t stops) (stops_follows stops) w)
          (h.then x c.world _ (decided_carries kept p.placing.placements (nodes_in p.placing.placements) (begun x))
          (h.then c.world (place_all kept c.world placed) _ (carries_each (place_one kept) (λ y q. placed_carries kept q y) placed c.world)
          (made_up_carries (evicted_rows x kept placed) (place_all kept c.world placed))))
      by false = h.same w
