-- Apply keeps what is said of evaluations.
use Rattle.std.specs.Prelude.{◌≡◌, ℕ, Bool, true, false, cond, List, [], ◌∷◌, map, Option, Some, None, ◌&&◌, filter, fold}
use Rattle.std.proofs.Common.{◌⊎◌, inl, inr, refl, sym, ap, subst, ◌∙◌}
use Rattle.std.specs.FinMap.{get, insert}
use Rattle.std.specs.Option.{option_map_or, option_and_then}
use Rattle.ns_types.specs.declared.allocation.Allocation.{Allocation}
use Rattle.ns_types.specs.declared.allocation.DesiredStatus.TheVariants as DesiredStatus
use Rattle.ns_types.specs.declared.evaluation.Evaluation.{Evaluation}
use Rattle.ns_types.specs.declared.evaluation.Trigger.TheVariants as Trigger
use Rattle.ns_types.specs.declared.job.Job.{Job}
use Rattle.ns_types.specs.declared.node.Node.{Node}
use Rattle.ns_types.specs.declared.plan.Eviction.{Eviction}
use Rattle.ns_types.specs.declared.plan.Placement.{Placement}
use Rattle.ns_types.specs.declared.plan.Plan.{Plan}
use Rattle.ns_types.specs.declared.snapshot.Snapshot.{Snapshot}
use Rattle.ns_types.specs.Working.Worker.{Worker}
use Rattle.ns_types.specs.Working.Commit.{still_stands, live_stops, stop_all, node_name, nodes_in, counts, evict}
use Rattle.ns_types.specs.Working.Commit.{evict_all, Commit, begun, decide, new_allocation, with_allocation, with_place, place_with, place_one}
use Rattle.ns_types.specs.Working.Commit.{committed_placements, place_all, Victim, evicted_rows, same_victim_job, least_of_job, make_up, Applied}
use Rattle.ns_types.specs.Working.Commit.{refused_whole, done_with, done, commit, applied_worker, applied, apply_for, apply}
use Rattle.ns_types.specs.State.Lists.{Each, first_each}
use Rattle.ns_types.specs.Settling.Making.{put_pool, change_tenant, with_desired, least}
use Rattle.ns_types.specs.State.Names.{Name, has_key, same_number}
use Rattle.ns_types.specs.Settling.Outcome.{NotEnabled}
use Rattle.ns_types.specs.Placing.Plan.{plan}
use Rattle.ns_types.specs.Working.Queue.{is_served}
use Rattle.ns_types.specs.State.Rows.{World, Tenant, PoolRows, is_live, is_live_on, node_at}
use Rattle.ns_types.specs.Validity.{IsSound}
use Rattle.ns_types.specs.Working.Work.{with_worker, without_key, is_submitted}
use Rattle.ns_types.proofs.Decided.{HoldsOfItsRow, decided_world, evicted_are}
use Rattle.ns_types.proofs.Lists.{not_both}
use Rattle.ns_types.proofs.Named.{names, one_name, numbers as numbers_, one_number, first_of_both}
use Rattle.ns_types.proofs.Tests.{not_Some}
use Rattle.ns_types.proofs.TableRows.{row_of_insert}
use Rattle.ns_types.proofs.Elements.{each_of, each_first, each_mapped, each_kept}
use Rattle.ns_audit.proofs.Steady.Apply.{least_is}
use Rattle.ns_types.proofs.Leads.{Leads, leads_if, leads_keeping}
use Rattle.ns_audit.proofs.ValidEvaluations.Asks.{cause_of, desired_filed}
use Rattle.ns_audit.proofs.ValidEvaluations.Filed.{IsFiledTenant, IsFiled, IsCause, change_filed, lists_filed, put_pool_filed, makes_filed}
use Rattle.ns_audit.proofs.ValidEvaluations.Settle.{index_in, pools_in, sound_filed}

module _ (pools : Name → Bool) (index : Name → ℕ) where
  -- ---- stops and victims

  stops_filed : (i : ℕ) (listed : ℕ → Bool) (stops : List ℕ) (t : Tenant) → IsFiledTenant pools i listed t →
      IsFiledTenant pools i listed (fold (λ x n. with_desired n DesiredStatus.Stop x) t stops)
  stops_filed i listed [] t s = s
  stops_filed i listed (n ∷ stops) t s = stops_filed i listed stops (with_desired n DesiredStatus.Stop t)
      (desired_filed pools i listed t s n DesiredStatus.Stop)

  stopped_filed : (ns : Name) (stops : List ℕ) (w : World) → IsFiled pools index w → IsFiled pools index (stop_all ns stops w)
  stopped_filed ns stops w s = change_filed pools index ns (λ t. fold (λ x n. with_desired n DesiredStatus.Stop x) t stops) w s
      (stops_filed (index ns) (λ n. has_key w.blocked (ns, n)) stops)

  evicted_filed : (vs : List Eviction) (w : World) → IsFiled pools index w → IsFiled pools index (evict_all w vs)
  evicted_filed [] w s = s
  evicted_filed (v ∷ vs) w s = evicted_filed vs (evict w v) (change_filed pools index v.namespace (with_desired v.number DesiredStatus.Evict) w s
      (λ t f. desired_filed pools (index v.namespace) (λ n. has_key w.blocked (v.namespace, n)) t f v.number DesiredStatus.Evict))

  decided_filed : (kept : Snapshot) (ps : List Placement) (ks : List ℕ) (c : Commit) → IsFiled pools index c.world →
      IsFiled pools index (fold (decide kept ps) c ks).world
  decided_filed = decided_world (IsFiled pools index) evicted_filed

  -- ---- placements

  placed_filed : (kept : Snapshot) (p : Placement) (w : World) → IsFiled pools index w → IsFiled pools index (place_one kept w p)
  unfolding place_one
  placed_filed kept p w s = job kept.job
    where
      counted_filed : (node : Node) (x : World) → IsFiled pools index x → (o : Option PoolRows) →
          IsFiled pools index (option_map_or (λ p'. put_pool kept.pool (with_place (node_name kept p.node) node p') x) o x)
      counted_filed node x f None = f
      counted_filed node x f (Some p') = put_pool_filed pools index kept.pool (with_place (node_name kept p.node) node p') x f

      node : (j : Job) (o : Option Node) → IsFiled pools index (option_map_or (place_with kept p w j) o w)
      node j None = s
      node j (Some n) = counted_filed n (change_tenant kept.namespace (with_allocation (new_allocation kept j p n)) w)
          (change_filed pools index kept.namespace (with_allocation (new_allocation kept j p n)) w s (λ t f. f))
          (get (change_tenant kept.namespace (with_allocation (new_allocation kept j p n)) w).pools kept.pool)

      job : (o : Option Job) → IsFiled pools index
          (option_map_or (λ job. option_map_or (place_with kept p w job) (node_at w kept.pool (node_name kept p.node)) w) o w)
      job None = s
      job (Some j) = node j (node_at w kept.pool (node_name kept p.node))

  all_placed_filed : (kept : Snapshot) (ps : List Placement) (w : World) → IsFiled pools index w → IsFiled pools index (place_all kept w ps)
  all_placed_filed kept [] w s = s
  all_placed_filed kept (p ∷ ps) w s = all_placed_filed kept ps (place_one kept w p) (placed_filed kept p w s)

  -- ---- evaluations of those that lost an allocation

  -- of each live allocation an evaluation may be made
  abbrev CausesIn : Tenant → Type 0
  CausesIn t = (n : ℕ) (a : Allocation) → get t.allocations n ≡ Some a → is_live a ≡ true → IsCause pools a

  abbrev Causes : World → Type 0
  Causes w = (ns : Name) (t : Tenant) → get w.tenants ns ≡ Some t → CausesIn t

  stop_causes : (n : ℕ) (t : Tenant) → CausesIn t → CausesIn (with_desired n DesiredStatus.Stop t)
  stop_causes n t h = by (get t.allocations n)
    where
      row : (a : Allocation) (m : ℕ) (x : Allocation) → ((m ≡ n) × (record a { desired = DesiredStatus.Stop } ≡ x)) ⊎ (get t.allocations m ≡ Some x) →
          is_live x ≡ true → IsCause pools x
      row a m x (inl e) live = not_both (ap is_live e.1 ∙ live) refl
      row a m x (inr at) live = h m x at live

      by : (o : Option Allocation) → CausesIn (option_map_or
          (λ a. record t { allocations = insert t.allocations n (record a { desired = DesiredStatus.Stop }) }) o t)
      by None = h
      by (Some a) = λ m x at. row a m x (row_of_insert numbers_ one_number t.allocations n (record a { desired = DesiredStatus.Stop }) m x at)

  stops_causes : (stops : List ℕ) (t : Tenant) → CausesIn t → CausesIn (fold (λ x n. with_desired n DesiredStatus.Stop x) t stops)
  stops_causes [] t h = h
  stops_causes (n ∷ stops) t h = stops_causes stops (with_desired n DesiredStatus.Stop t) (stop_causes n t h)

  stopped_causes : (ns : Name) (stops : List ℕ) (w : World) → Causes w → Causes (stop_all ns stops w)
  stopped_causes ns stops w h = by (get w.tenants ns) refl
    where
      row : (t : Tenant) → get w.tenants ns ≡ Some t → (k : Name) (x : Tenant) → ((k ≡ ns) × (fold (λ x n. with_desired n DesiredStatus.Stop x) t stops ≡ x))
          ⊎ (get w.tenants k ≡ Some x) → CausesIn x
      row t is k x (inl e) = subst CausesIn e.1 (stops_causes stops t (h ns t is))
      row t is k x (inr at) = h k x at

      by : (o : Option Tenant) → get w.tenants ns ≡ o →
          Causes (option_map_or (λ t. record w { tenants = insert w.tenants ns (fold (λ x n. with_desired n DesiredStatus.Stop x) t stops) }) o w)
      by None is = h
      by (Some t) is = λ k x at. row t is k x (row_of_insert names one_name w.tenants ns (fold (λ x n. with_desired n DesiredStatus.Stop x) t stops) k x at)

  module _ (x : World) (causes : Causes x) (kept : Snapshot) where
    -- an eviction that counts is of a live allocation
    abbrev Fits : Victim → Type 0
    Fits v = IsCause pools v.1.1

    stands : (node : Name) (e : Eviction) → counts x kept.pool node e ≡ true → HoldsOfItsRow Fits x e
    unfolding counts
    stands node e c a at = by (get x.tenants e.namespace) refl at
      where
        on : is_live_on kept.pool node a ≡ true
        on = first_of_both (is_live_on kept.pool node a) _
            (sym (ap (λ o. option_map_or (λ a. is_live_on kept.pool node a && same_number a.priority e.priority) o false) at) ∙ c)

        by : (o : Option Tenant) → get x.tenants e.namespace ≡ o → option_and_then (λ t. get t.allocations e.number) o ≡ Some a → IsCause pools a
        by None is at = absurd (not_Some _ at)
        by (Some t) is at = causes e.namespace t is e.number a at (first_of_both (is_live a) _ on)

    victims_fit : (ps : List Placement) → Each Fits (evicted_rows x kept ps)
    victims_fit = evicted_are Fits x kept stands

  module _ (victims : List Victim) (fit : Each (λ (v : Victim). IsCause pools v.1.1) victims) where
    least_fits : (v : Victim) → IsCause pools v.1.1 → IsCause pools (least_of_job victims v)
    least_fits v own = by (least (map (λ x. x.1) (filter (same_victim_job v) victims))) refl
      where
        of_job : Each (λ (e : ℕ × Allocation). IsCause pools e.1) (map (λ (x : Victim). x.1) (filter (same_victim_job v) victims))
        of_job = each_mapped (λ (e : ℕ × Allocation). IsCause pools e.1) (λ (x : Victim). x.1) (filter (same_victim_job v) victims)
            (each_of (λ (y : Victim). IsCause pools y.1.1 × (same_victim_job v y ≡ true)) (λ (y : Victim). IsCause pools y.1.1) (λ y h. h.0)
            (filter (same_victim_job v) victims)
            (each_kept (λ (y : Victim). IsCause pools y.1.1) (same_victim_job v) victims fit))

        by : (o : Option Allocation) → least (map (λ x. x.1) (filter (same_victim_job v) victims)) ≡ o → IsCause pools (option_map_or (λ a. a) o v.1.1)
        by None is = own
        by (Some a) is = least_is (IsCause pools) (map (λ x. x.1) (filter (same_victim_job v) victims)) of_job a is

    made_up_filed : (w : World) → IsFiled pools index w → IsFiled pools index (make_up victims w)
    unfolding make_up
    made_up_filed w s = makes_filed pools index (λ (v : Victim). v.0) (least_of_job victims) Trigger.Preemption (first_each same_victim_job victims) w s
        (each_of (λ (v : Victim). IsCause pools v.1.1) (λ (v : Victim). IsCause pools (least_of_job victims v)) least_fits (first_each same_victim_job victims)
        (each_first (λ (v : Victim). IsCause pools v.1.1) same_victim_job victims fit))

  -- ---- the whole

  commit_filed : (kept : Snapshot) (p : Plan) (w : World) (t : Tenant) → IsFiled pools index w → Causes w → IsFiled pools index (commit kept p w t).world
  unfolding commit
  commit_filed kept p w t s causes = elim (still_stands kept.job (get t.jobs kept.evaluation.job)) as
      (λ b. IsFiled pools index (cond b (done kept p w t) (refused_whole kept p w)).world) [
        | true ↦ whole (stop_all kept.namespace (live_stops t p.stops) w) (stopped_filed kept.namespace (live_stops t p.stops) w s)
            (stopped_causes kept.namespace (live_stops t p.stops) w causes)
        | false ↦ s
      ]
    where
      whole : (x : World) → IsFiled pools index x → Causes x →
          IsFiled pools index (done_with kept t (live_stops t p.stops) p.placing.placements x
          (fold (decide kept p.placing.placements) (begun x) (nodes_in p.placing.placements))).world
      whole x f of_x = with_it (fold (decide kept p.placing.placements) (begun x) (nodes_in p.placing.placements))
          (decided_filed kept p.placing.placements (nodes_in p.placing.placements) (begun x) f)
        where
          with_it : (c : Commit) → IsFiled pools index c.world →
              IsFiled pools index (make_up (evicted_rows x kept (committed_placements c p.placing.placements))
              (place_all kept c.world (committed_placements c p.placing.placements)))
          with_it c c_filed =
              let placed = committed_placements c p.placing.placements in
              made_up_filed (evicted_rows x kept placed) (victims_fit x of_x kept placed) (place_all kept c.world placed)
              (all_placed_filed kept placed c.world c_filed)

pub apply_filed : (w : World) → IsSound w → (number : ℕ) (ns : Name) → Leads (IsFiled (pools_in w) (index_in w)) (apply number ns w)
unfolding apply
apply_filed w s number ns = leads_keeping _ number ns w (apply_for number ns w) (λ t worker e kept is has at keeps.
    leads_if _ (is_submitted worker.phase && is_served w w.plans (ns, worker.evaluation)) (applied number ns worker e (commit kept (plan kept) w t)) NotEnabled
    (λ _. by worker e (commit kept (plan kept) w t)
    (commit_filed (pools_in w) (index_in w) kept (plan kept) w t (sound_filed w s) (λ k x k_is n a a_at live. cause_of w s k x k_is n a a_at live)))
    (λ _. tt))
  where
    by : (worker : Worker) (e : Evaluation) (a : Applied) → IsFiled (pools_in w) (index_in w) a.world →
        Leads (IsFiled (pools_in w) (index_in w)) (applied number ns worker e a)
    by worker e a f = lists_filed (pools_in w) (index_in w) (change_tenant ns (with_worker number (applied_worker a worker e)) a.world)
        (change_tenant ns (with_worker number (applied_worker a worker e)) a.world).ready (without_key (ns, worker.evaluation) a.world.plans)
        (change_filed (pools_in w) (index_in w) ns (with_worker number (applied_worker a worker e)) a.world f (λ t t_filed. t_filed))
