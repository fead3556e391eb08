-- Apply keeps a world orderly.
use Rattle.std.specs.Prelude.{◌≡◌, ℕ, ◌+◌, Bool, true, false, cond, List, [], ◌∷◌, map, Option, Some, None, ◌&&◌, filter, find, fold}
use Rattle.std.specs.Prelude.{option_map}
use Rattle.std.proofs.Common.{◌⊎◌, inl, inr, refl, sym, ap, subst, ◌∙◌}
use Rattle.std.specs.FinMap.{get, entries, from_entries, get-from_entries, insert}
use Rattle.std.specs.Option.{option_map_or, option_and_then}
use Rattle.std.specs.Ordering.{nat_cmp}
use Rattle.ns_types.specs.declared.allocation.Allocation.{Allocation}
use Rattle.ns_types.specs.declared.allocation.DesiredStatus.TheVariants as DesiredStatus
use Rattle.ns_types.specs.declared.evaluation.Evaluation.{Evaluation}
use Rattle.ns_types.specs.declared.evaluation.Trigger.TheVariants as Trigger
use Rattle.ns_types.specs.declared.job.Job.{Job}
use Rattle.ns_types.specs.declared.node.Node.{Node}
use Rattle.ns_types.specs.declared.plan.Eviction.{Eviction}
use Rattle.ns_types.specs.declared.plan.Placement.{Placement}
use Rattle.ns_types.specs.declared.plan.Plan.{Plan}
use Rattle.ns_types.specs.declared.snapshot.Snapshot.{Snapshot}
use Rattle.ns_types.specs.Working.Worker.{Worker}
use Rattle.ns_types.specs.Working.Commit.{still_stands, live_stops, stop_all, node_name, nodes_in, counts, evict}
use Rattle.ns_types.specs.Working.Commit.{evict_all, Commit, begun, decide, new_allocation, with_allocation, with_place, place_with, place_one}
use Rattle.ns_types.specs.Working.Commit.{committed_placements, place_all, Victim, evicted_rows, same_victim_job, least_of_job, make_up, Applied}
use Rattle.ns_types.specs.Working.Commit.{refused_whole, done_with, done, commit, applied_worker, applied, apply_for, apply}
use Rattle.ns_types.specs.State.Lists.{Each, first_each}
use Rattle.ns_types.specs.Settling.Making.{put_tenant, put_pool, change_tenant, with_desired, least}
use Rattle.ns_types.specs.State.Names.{Name, ByNumber, same_name, same_number, has_key}
use Rattle.ns_types.specs.Settling.Outcome.{NotEnabled}
use Rattle.ns_types.specs.Placing.Plan.{plan}
use Rattle.ns_types.specs.Working.Queue.{is_served}
use Rattle.ns_types.specs.State.Rows.{World, Tenant, PoolRows, is_live, is_live_on, node_at}
use Rattle.ns_types.specs.Access.Sharing.{permits}
use Rattle.ns_types.specs.Working.Work.{with_worker, without_key, is_submitted}
use Rattle.ns_types.proofs.Decided.{HoldsOfItsRow, decided_world, evicted_are}
use Rattle.ns_types.proofs.Named.{numbers as numbers_, one_number, same_name_is, first_of_both, second_of_both}
use Rattle.ns_types.proofs.Tables.{each_row}
use Rattle.ns_types.proofs.Tests.{not_Some, same_Some}
use Rattle.ns_types.proofs.TableRows.{row_of_insert}
use Rattle.ns_types.proofs.Elements.{each_of, each_first, each_mapped, each_kept, found_of}
use Rattle.ns_audit.specs.Orderly.{IsOrderlyTenant, IsOrderly}
use Rattle.ns_audit.proofs.Steady.Keeping.{KeepsTenant, keeps_same, keeps_then, keeps_rows, put_orderly}
use Rattle.ns_audit.proofs.Alone.Fixed.{SameIn, fixed_commit}
use Rattle.ns_audit.proofs.Alone.Naming.{SameNamed, named_change, named_placed, named_decided, stops_same, named_each}
use Rattle.ns_audit.proofs.Steady.Asks.{KeepsOrder, keeps_desired, PermitsAt}
use Rattle.ns_audit.proofs.Steady.Nodes.{permits_still, makes_orderly}
use Rattle.ns_audit.proofs.Steady.Work.{keeping_orderly, keeps_worker}
use Rattle.ns_audit.proofs.Steady.Workers.{find_each}
use Rattle.ns_types.proofs.Leads.{leads_if}
use Rattle.ns_audit.proofs.Steady.Resting.{same_orderly}

pub change_orderly : (w : World) (ns : Name) (f : Tenant → Tenant) → IsOrderly w →
    ((t : Tenant) → get w.tenants ns ≡ Some t → KeepsTenant ns (λ n. has_key w.ready (ns, n)) (λ n. has_key w.blocked (ns, n)) t (f t)) →
    IsOrderly (change_tenant ns f w)
change_orderly w ns f s keeps = by (get w.tenants ns) refl
  where
    by : (o : Option Tenant) → get w.tenants ns ≡ o → IsOrderly (option_map_or (λ t. put_tenant ns (f t) w) o w)
    by None is = s
    by (Some t) is = put_orderly w ns t (f t) is s (keeps t is)

-- ---- stops and victims

keeps_stops : (ns : Name) (ready blocked : ℕ → Bool) (stops : List ℕ) (t : Tenant) → IsOrderlyTenant ns t →
    KeepsTenant ns ready blocked t (fold (λ x n. with_desired n DesiredStatus.Stop x) t stops)
keeps_stops ns ready blocked [] t s = keeps_same ns ready blocked t s
keeps_stops ns ready blocked (n ∷ stops) t s =
    let first = keeps_desired ns ready blocked t s n DesiredStatus.Stop refl in
    keeps_then ns ready blocked t (with_desired n DesiredStatus.Stop t) _ first
    (keeps_stops ns ready blocked stops (with_desired n DesiredStatus.Stop t) first.sound)

stopped_orderly : (ns : Name) (stops : List ℕ) (w : World) → IsOrderly w → IsOrderly (stop_all ns stops w)
stopped_orderly ns stops w s = change_orderly w ns (λ t. fold (λ x n. with_desired n DesiredStatus.Stop x) t stops) s
    (λ t is. keeps_stops ns _ _ stops t (s.tenant ns t is))

evicted_orderly : (vs : List Eviction) (w : World) → IsOrderly w → IsOrderly (evict_all w vs)
evicted_orderly [] w s = s
evicted_orderly (v ∷ vs) w s = evicted_orderly vs (evict w v)
    (change_orderly w v.namespace (with_desired v.number DesiredStatus.Evict) s
    (λ t is. keeps_desired v.namespace _ _ t (s.tenant v.namespace t is) v.number DesiredStatus.Evict refl))

decided_orderly : (kept : Snapshot) (ps : List Placement) (ks : List ℕ) (c : Commit) → IsOrderly c.world → IsOrderly (fold (decide kept ps) c ks).world
decided_orderly = decided_world IsOrderly evicted_orderly

-- ---- placements

placed_orderly : (kept : Snapshot) (p : Placement) (w : World) → IsOrderly w → PermitsAt w kept.namespace kept.pool → IsOrderly (place_one kept w p)
unfolding place_one
placed_orderly kept p w s allowed = job kept.job
  where
    counted_orderly : (node : Node) (x : World) → IsOrderly x → (o : Option PoolRows) →
        IsOrderly (option_map_or (λ p'. put_pool kept.pool (with_place (node_name kept p.node) node p') x) o x)
    counted_orderly node x o None = o
    counted_orderly node x o (Some p') = same_orderly x (put_pool kept.pool (with_place (node_name kept p.node) node p') x) refl (λ key has. has)
        (λ key has. has) o

    keeps : (j : Job) (node : Node) (t : Tenant) → get w.tenants kept.namespace ≡ Some t →
        KeepsTenant kept.namespace (λ n. has_key w.ready (kept.namespace, n)) (λ n. has_key w.blocked (kept.namespace, n)) t
        (with_allocation (new_allocation kept j p node) t)
    keeps j node t is = keeps_rows kept.namespace _ _ t t.jobs (insert t.allocations (t.allocation_number + 1) (new_allocation kept j p node))
        (t.allocation_number + 1) (s.tenant kept.namespace t is) (s.tenant kept.namespace t is).job
        (λ n a at. by n a (row_of_insert numbers_ one_number t.allocations (t.allocation_number + 1) (new_allocation kept j p node) n a at))
      where
        by : (n : ℕ) (a : Allocation) → ((n ≡ t.allocation_number + 1) × (new_allocation kept j p node ≡ a)) ⊎ (get t.allocations n ≡ Some a) →
            is_live a ≡ true → permits t.namespace a.pool ≡ true
        by n a (inl e) live = ap (λ (a : Allocation). permits t.namespace a.pool) (sym e.1) ∙
            allowed t.namespace (ap (option_map (λ (t : Tenant). t.namespace)) is)
        by n a (inr at) live = (s.tenant kept.namespace t is).allocation n a at live

    node : (j : Job) (o : Option Node) → IsOrderly (option_map_or (place_with kept p w j) o w)
    node j None = s
    node j (Some n) = counted_orderly n (change_tenant kept.namespace (with_allocation (new_allocation kept j p n)) w)
        (change_orderly w kept.namespace (with_allocation (new_allocation kept j p n)) s (keeps j n))
        (get (change_tenant kept.namespace (with_allocation (new_allocation kept j p n)) w).pools kept.pool)

    job : (o : Option Job) → IsOrderly (option_map_or (λ job. option_map_or (place_with kept p w job) (node_at w kept.pool (node_name kept p.node)) w) o w)
    job None = s
    job (Some j) = node j (node_at w kept.pool (node_name kept p.node))

all_placed_orderly : (kept : Snapshot) (ps : List Placement) (w : World) → IsOrderly w → PermitsAt w kept.namespace kept.pool → IsOrderly (place_all kept w ps)
all_placed_orderly kept [] w s allowed = s
all_placed_orderly kept (p ∷ ps) w s allowed = all_placed_orderly kept ps (place_one kept w p) (placed_orderly kept p w s allowed)
    (permits_still w (place_one kept w p) (named_placed kept p w) kept.namespace kept.pool allowed)

-- ---- evaluations of those that lost an allocation

module _ (x : World) (s : IsOrderly x) (kept : Snapshot) where
  -- an eviction that counts is of an allocation on the pool, in a namespace that permits it
  abbrev Fits : Victim → Type 0
  Fits v = (v.1.1.pool ≡ kept.pool) × PermitsAt x v.0 kept.pool

  stands : (node : Name) (e : Eviction) → counts x kept.pool node e ≡ true → HoldsOfItsRow Fits x e
  unfolding counts
  stands node e c a at = by (get x.tenants e.namespace) refl at
    where
      on : is_live_on kept.pool node a ≡ true
      on = first_of_both (is_live_on kept.pool node a) _
          (sym (ap (λ o. option_map_or (λ a. is_live_on kept.pool node a && same_number a.priority e.priority) o false) at) ∙ c)

      its : a.pool ≡ kept.pool
      its = sym (same_name_is kept.pool a.pool (first_of_both (same_name kept.pool a.pool) _ (second_of_both (is_live a) _ on)))

      by : (o : Option Tenant) → get x.tenants e.namespace ≡ o → option_and_then (λ t. get t.allocations e.number) o ≡ Some a → (a.pool ≡ kept.pool) ×
          PermitsAt x e.namespace kept.pool
      by None is at = absurd (not_Some _ at)
      by (Some t) is at = (
        its,
        λ namespace named. subst (λ n. permits n kept.pool ≡ true) (same_Some _ _ (sym (ap (option_map (λ (t : Tenant). t.namespace)) is) ∙ named))
            (ap (permits t.namespace) (sym its) ∙ (s.tenant e.namespace t is).allocation e.number a at (first_of_both (is_live a) _ on)),
      )

  victims_fit : (ps : List Placement) → Each Fits (evicted_rows x kept ps)
  victims_fit = evicted_are Fits x kept stands

pub least_is : (P : Allocation → Type 0) (xs : List (ℕ × Allocation)) → Each (λ e. P e.1) xs → (a : Allocation) → least xs ≡ Some a → P a
least_is P xs h a is = by (find (λ e. true) (entries (from_entries {R = nat_cmp} xs))) refl is
  where
    rows : Each (λ (e : ℕ × Allocation). P e.1) (entries (from_entries {R = nat_cmp} xs))
    rows = each_row numbers_ one_number (λ k a. P a) (from_entries {R = nat_cmp} xs)
        (λ k a at. found_of nat_cmp P xs k a h (sym (get-from_entries numbers_ xs k) ∙ at))

    by : (o : Option (ℕ × Allocation)) → find (λ e. true) (entries (from_entries {R = nat_cmp} xs)) ≡ o → option_map (λ e. e.1) o ≡ Some a → P a
    by None found is = absurd (not_Some _ is)
    by (Some e) found is = subst P (same_Some _ _ is)
        (find_each (λ (e : ℕ × Allocation). P e.1) (λ e. true) (entries (from_entries {R = nat_cmp} xs)) e rows found).0

module _ (x : World) (kept : Snapshot) (victims : List Victim) (fit : Each (λ (v : Victim). (v.1.1.pool ≡ kept.pool) × PermitsAt x v.0 kept.pool) victims) where
  least_fits : (v : Victim) → v.1.1.pool ≡ kept.pool → (least_of_job victims v).pool ≡ kept.pool
  least_fits v own = by (least (map (λ x. x.1) (filter (same_victim_job v) victims))) refl
    where
      of_job : Each (λ (e : ℕ × Allocation). e.1.pool ≡ kept.pool) (map (λ (x : Victim). x.1) (filter (same_victim_job v) victims))
      of_job = each_mapped (λ (e : ℕ × Allocation). e.1.pool ≡ kept.pool) (λ (x : Victim). x.1) (filter (same_victim_job v) victims)
          (each_of (λ (y : Victim). ((y.1.1.pool ≡ kept.pool) × PermitsAt x y.0 kept.pool) × (same_victim_job v y ≡ true))
          (λ (y : Victim). y.1.1.pool ≡ kept.pool) (λ y h. h.0.0) (filter (same_victim_job v) victims)
          (each_kept (λ (y : Victim). (y.1.1.pool ≡ kept.pool) × PermitsAt x y.0 kept.pool) (same_victim_job v) victims fit))

      by : (o : Option Allocation) → least (map (λ x. x.1) (filter (same_victim_job v) victims)) ≡ o → (option_map_or (λ a. a) o v.1.1).pool ≡ kept.pool
      by None is = own
      by (Some a) is = least_is (λ a. a.pool ≡ kept.pool) (map (λ x. x.1) (filter (same_victim_job v) victims)) of_job a is

  made_up_orderly : (w : World) → SameNamed x w → IsOrderly w → IsOrderly (make_up victims w)
  unfolding make_up
  made_up_orderly w named s = makes_orderly (λ (v : Victim). v.0) (least_of_job victims) Trigger.Preemption (first_each same_victim_job victims) w s
      (each_of (λ (v : Victim). (v.1.1.pool ≡ kept.pool) × PermitsAt x v.0 kept.pool) (λ (v : Victim). PermitsAt w v.0 (least_of_job victims v).pool)
      (λ v h. permits_still x w named v.0 (least_of_job victims v).pool (λ namespace is. ap (permits namespace) (least_fits v h.0) ∙ h.1 namespace is))
      (first_each same_victim_job victims) (each_first (λ (v : Victim). (v.1.1.pool ≡ kept.pool) × PermitsAt x v.0 kept.pool) same_victim_job victims fit))

-- ---- the whole

commit_orderly : (kept : Snapshot) (p : Plan) (w : World) (t : Tenant) → IsOrderly w → PermitsAt w kept.namespace kept.pool →
    IsOrderly (commit kept p w t).world
unfolding commit
commit_orderly kept p w t s allowed = elim (still_stands kept.job (get t.jobs kept.evaluation.job)) as
    (λ b. IsOrderly (cond b (done kept p w t) (refused_whole kept p w)).world) [
      | true ↦ whole (stop_all kept.namespace (live_stops t p.stops) w) (stopped_orderly kept.namespace (live_stops t p.stops) w s)
          (permits_still w (stop_all kept.namespace (live_stops t p.stops) w)
          (named_change kept.namespace (λ x. fold (λ x n. with_desired n DesiredStatus.Stop x) x (live_stops t p.stops)) (stops_same (live_stops t p.stops)) w)
          kept.namespace kept.pool allowed)
      | false ↦ s
    ]
  where
    whole : (x : World) → IsOrderly x → PermitsAt x kept.namespace kept.pool →
        IsOrderly (done_with kept t (live_stops t p.stops) p.placing.placements x
        (fold (decide kept p.placing.placements) (begun x) (nodes_in p.placing.placements))).world
    whole x o permitted = with_it (fold (decide kept p.placing.placements) (begun x) (nodes_in p.placing.placements))
        (decided_orderly kept p.placing.placements (nodes_in p.placing.placements) (begun x) o)
        (named_decided kept p.placing.placements (nodes_in p.placing.placements) (begun x))
      where
        with_it : (c : Commit) → IsOrderly c.world → SameNamed x c.world →
            IsOrderly (make_up (evicted_rows x kept (committed_placements c p.placing.placements))
            (place_all kept c.world (committed_placements c p.placing.placements)))
        with_it c c_orderly named =
            let placed = committed_placements c p.placing.placements in
            made_up_orderly x kept (evicted_rows x kept placed) (victims_fit x o kept placed) (place_all kept c.world placed)
            (λ k. named_each (place_one kept) (λ y q. named_placed kept q y) placed c.world k ∙ named k)
            (all_placed_orderly kept placed c.world c_orderly (permits_still x c.world named kept.namespace kept.pool permitted))

-- the workers that are busy for a namespace
abbrev its_workers : Tenant → ByNumber Worker
its_workers t = t.workers

pub apply_orderly : (w : World) → IsOrderly w → (ns : Name) (number : ℕ) → KeepsOrder (apply number ns w)
unfolding apply
apply_orderly w s ns number = keeping_orderly w number ns (apply_for number ns w) (λ t worker e kept is has at keeps.
    let k = (s.tenant ns t is).snapshot number worker kept has keeps in
    leads_if IsOrderly (is_submitted worker.phase && is_served w w.plans (ns, worker.evaluation)) (applied number ns worker e (commit kept (plan kept) w t))
    NotEnabled
    (λ _. by t worker e is has (commit kept (plan kept) w t) (fixed_commit its_workers (λ x n y. refl) (λ x n y. refl) kept (plan kept) w t)
    (commit_orderly kept (plan kept) w t s
    (λ namespace named. subst (λ n. permits n kept.pool ≡ true)
    (same_Some _ _ (sym (ap (option_map (λ (t : Tenant). t.namespace)) (ap (get w.tenants) k.namespace ∙ is)) ∙ named)) k.allowed.permitted))) (λ _. tt))
  where
    by : (t : Tenant) (worker : Worker) (e : Evaluation) → get w.tenants ns ≡ Some t → get t.workers number ≡ Some worker → (a : Applied) →
        SameIn its_workers w a.world → IsOrderly a.world → KeepsOrder (applied number ns worker e a)
    by t worker e is has a manned o = same_orderly (change_tenant ns (with_worker number (applied_worker a worker e)) a.world)
        (record (change_tenant ns (with_worker number (applied_worker a worker e)) a.world) { plans = without_key (ns, worker.evaluation) a.world.plans }) refl
        (λ key listed. listed) (λ key listed. listed)
        (change_orderly a.world ns (with_worker number (applied_worker a worker e)) o (λ x x_is.
        keeps_worker ns _ _ x (o.tenant ns x x_is) number worker (applied_worker a worker e) (there x x_is) refl
        (λ k k_has. (o.tenant ns x x_is).snapshot number worker k (there x x_is) k_has)))
      where
        there : (x : Tenant) → get a.world.tenants ns ≡ Some x → get x.workers number ≡ Some worker
        there x x_is = ap (λ (m : ByNumber Worker). get m number)
            (same_Some _ _ (sym (ap (option_map (λ (t : Tenant). t.workers)) x_is) ∙ manned ns ∙ ap (option_map (λ (t : Tenant). t.workers)) is)) ∙ has
