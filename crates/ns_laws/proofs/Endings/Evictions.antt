-- Apply: the job of each allocation that is evicted gets an evaluation.
use Rattle.std.specs.Prelude.{◌≡◌, ◌⊎◌, ℕ, ◌+◌, ◌≤◌, Bool, true, false, cond, not, T, List, [], ◌∷◌, ◌++◌, Option, Some, None, ◌&&◌, ◌||◌}
use Rattle.std.specs.Prelude.{filter, fold, map, option_map}
use Rattle.std.proofs.Common.{inl, inr, refl, sym, ap, subst, ◌∙◌, arith}
use Rattle.std.specs.FinMap.{get, insert}
use Rattle.std.specs.List.{list_any}
use Rattle.std.specs.Option.{option_map_or}
use Rattle.ns_types.specs.declared.allocation.Allocation.{Allocation}
use Rattle.ns_types.specs.declared.allocation.DesiredStatus.{DesiredStatus}
use Rattle.ns_types.specs.declared.evaluation.Evaluation.{Evaluation}
use Rattle.ns_types.specs.declared.evaluation.Trigger.{Trigger}
use Rattle.ns_types.specs.declared.job.Job.{Job}
use Rattle.ns_types.specs.declared.node.Node.{Node}
use Rattle.ns_types.specs.declared.plan.Eviction.{Eviction}
use Rattle.ns_types.specs.declared.plan.Placement.{Placement}
use Rattle.ns_types.specs.declared.reply.Content.{Content}
use Rattle.ns_types.specs.declared.snapshot.Snapshot.{Snapshot}
use Rattle.ns_types.specs.declared.step.Step.{Step}
use Rattle.ns_types.specs.Asking.Policies.{with_world}
use Rattle.ns_types.specs.Placing.Plan.{plan}
use Rattle.ns_types.specs.Settling.Making.{put_pool, put_tenant, change_tenant, with_desired, evaluation_for, least}
use Rattle.ns_types.specs.Settling.Outcome.{Outcome, NotEnabled, Refused, Done}
use Rattle.ns_types.specs.Settling.Settle.{settle}
use Rattle.ns_types.specs.State.Lists.{Each, first_each}
use Rattle.ns_types.specs.State.Names.{Name, Key, same_name, same_number, has_key, has_number}
use Rattle.ns_types.specs.State.Resources.{plus}
use Rattle.ns_types.specs.State.Rows.{State, World, Tenant, PoolRows, is_live_on, is_run, is_held, allocation_at, node_at}
use Rattle.ns_types.specs.Steps.{act}
use Rattle.ns_types.specs.Validity.{IsSound, IsLiveAt}
use Rattle.ns_types.specs.Working.Commit.{still_stands, live_stops, stop_all, node_name, nodes_in, part_of, counts, victims_in, victims_of, evict, evict_all}
use Rattle.ns_types.specs.Working.Commit.{Commit, begun, decide, new_allocation, with_allocation, with_place, place_with, place_one, committed_placements}
use Rattle.ns_types.specs.Working.Commit.{place_all, evicted_rows, Victim, victim_at, victim_key}
use Rattle.ns_types.specs.Working.Commit.{same_victim_job, least_of_job, make_up, Applied, refused_whole, done}
use Rattle.ns_types.specs.Working.Commit.{commit, applied_worker, applied, apply_for, apply, accepts_at, size_of}
use Rattle.ns_types.specs.Working.Queue.{is_served}
use Rattle.ns_types.specs.Working.Work.{with_worker, without_key, is_submitted}
use Rattle.ns_types.specs.Working.Worker.{Worker}
use Rattle.ns_types.proofs.Decided.{decided_world}
use Rattle.ns_types.proofs.Elements.{each_first, each_mapped, each_of, each_passes}
use Rattle.ns_types.proofs.Gone.{evicted_row, stopped_row, evicted_are, stopped_are}
use Rattle.ns_types.proofs.Leads.{Leads, leads_if, leads_keeping, leads_lift}
use Rattle.ns_types.proofs.Less.{allocation_then}
use Rattle.ns_types.proofs.Lists.{not_both}
use Rattle.ns_types.proofs.Named.{names, one_name, numbers, one_number, same_name_is, first_of_both, second_of_both}
use Rattle.ns_types.proofs.TableRows.{get_put, get_other}
use Rattle.ns_types.proofs.Tables.{tied}
use Rattle.ns_types.proofs.Tests.{same_Some}
use Rattle.ns_audit.proofs.Steady.Apply.{least_is}
use Rattle.ns_audit.proofs.ValidAllocations.Going.{Onward, onward_change, onward_then}
use Rattle.ns_audit.proofs.ValidAllocations.Sound.{allocation_row}
use Rattle.ns_laws.specs.Ending as law
use Rattle.ns_laws.specs.Ending.{AppliesPlan, IsEvaluatedAnew}
use Rattle.ns_laws.proofs.Elements.{Has, each_has, filter_has, filter_map_has, flat_has, has_each, has_filter, has_flat}
use Rattle.ns_laws.proofs.Effect.Rows.{Does, after_does}
use Rattle.ns_laws.proofs.Endings.Apply.{of_keys, Below, Counts, counts_still, counts_then, decided_count, stops_count, placed_count}
use Rattle.ns_laws.proofs.Endings.Apply.{made_up_same, same_change, applies_plan, stale_leaves}
use Rattle.ns_laws.proofs.Endings.Change.{settled_at}
use Rattle.ns_laws.proofs.Endings.Evaluations.{Grows, HasOne, one_made, evaluated_anew, pending_for}
use Rattle.ns_laws.proofs.Endings.Laws.{comes, desired_kept}
use Rattle.ns_laws.proofs.Endings.Rows.{moves_put}
use Rattle.ns_laws.proofs.Endings.Victims.{counted_on, least_lived, pool_of_live, row_in}

-- ---- elements of lists

module _ {A : Type 0} where
  pub any_before : (p : A → Bool) (xs ys : List A) → list_any p xs ≡ true → list_any p (xs ++ ys) ≡ true
  any_before p [] ys e = absurd (subst T (sym e) tt)
  any_before p (x ∷ xs) ys e = by (any_before p xs ys) (p x) e
    where
      by : (list_any p xs ≡ true → list_any p (xs ++ ys) ≡ true) → (b : Bool) → (b || list_any p xs) ≡ true → (b || list_any p (xs ++ ys)) ≡ true
      by later true e = refl
      by later false e = later e

  pub any_last : (p : A → Bool) (xs : List A) (y : A) → p y ≡ true → list_any p (xs ++ y ∷ []) ≡ true
  any_last p [] y e = ap (λ b. b || false) e
  any_last p (x ∷ xs) y e = by (any_last p xs y e) (p x)
    where
      by : list_any p (xs ++ y ∷ []) ≡ true → (b : Bool) → (b || list_any p (xs ++ y ∷ [])) ≡ true
      by later true = refl
      by later false = later

-- ---- victims by job

-- of each victim's job one is kept
one_first : (xs : List Victim) (v : Victim) → Has xs v → (u : Victim) × Has (first_each same_victim_job xs) u × (u.0 ≡ v.0) × (u.1.1.job ≡ v.1.1.job)
one_first [] v h = absurd h
one_first (x ∷ xs) v (inl e) = (x, inl refl, ap (λ (v : Victim). v.0) e, ap (λ (v : Victim). v.1.1.job) e)
one_first (x ∷ xs) v (inr h) = by (one_first xs v h)
  where
    rest : List Victim
    rest = first_each same_victim_job xs

    by : (u : Victim) × Has (first_each same_victim_job xs) u × (u.0 ≡ v.0) × (u.1.1.job ≡ v.1.1.job) →
        (u : Victim) × Has (x ∷ filter (λ y. not (same_victim_job x y)) (first_each same_victim_job xs)) u × (u.0 ≡ v.0) × (u.1.1.job ≡ v.1.1.job)
    by r = which (same_victim_job x r.0) refl
      where
        which : (b : Bool) → same_victim_job x r.0 ≡ b →
            (u : Victim) × Has (x ∷ filter (λ y. not (same_victim_job x y)) (first_each same_victim_job xs)) u × (u.0 ≡ v.0) × (u.1.1.job ≡ v.1.1.job)
        which true t = (
          x,
          inl refl,
          same_name_is x.0 r.0.0 (first_of_both (same_name x.0 r.0.0) _ t) ∙ r.2,
          same_name_is x.1.1.job r.0.1.1.job (second_of_both (same_name x.0 r.0.0) _ t) ∙ r.3,
        )
        which false t = (r.0, inr (filter_has (λ y. not (same_victim_job x y)) (first_each same_victim_job xs) r.0 r.1 (ap not t)), r.2, r.3)

pub least_job : (victims : List Victim) (v : Victim) → (least_of_job victims v).job ≡ v.1.1.job
least_job victims v = by (least (map (λ x. x.1) (filter (same_victim_job v) victims))) refl
  where
    of_job : Each (λ (e : ℕ × Allocation). e.1.job ≡ v.1.1.job) (map (λ (x : Victim). x.1) (filter (same_victim_job v) victims))
    of_job = each_mapped (λ (e : ℕ × Allocation). e.1.job ≡ v.1.1.job) (λ (x : Victim). x.1) (filter (same_victim_job v) victims)
        (each_of (λ (y : Victim). same_victim_job v y ≡ true) (λ (y : Victim). y.1.1.job ≡ v.1.1.job)
        (λ y h. sym (same_name_is v.1.1.job y.1.1.job (second_of_both (same_name v.0 y.0) _ h))) (filter (same_victim_job v) victims)
        (each_passes (same_victim_job v) victims))

    by : (o : Option Allocation) → least (map (λ x. x.1) (filter (same_victim_job v) victims)) ≡ o → (option_map_or (λ a. a) o v.1.1).job ≡ v.1.1.job
    by None is = refl
    by (Some a) is = least_is (λ a. a.job ≡ v.1.1.job) (map (λ x. x.1) (filter (same_victim_job v) victims)) of_job a is

-- ---- evictions that count

pub counts_as : (x y : World) (pool node : Name) (e : Eviction) → allocation_at x (victim_key e) ≡ allocation_at y (victim_key e) →
    counts x pool node e ≡ true → counts y pool node e ≡ true
unfolding counts
counts_as x y pool node e same h = ap (λ o. option_map_or (λ a. is_live_on pool node a && same_number a.priority e.priority) o false) (sym same) ∙ h

-- ---- a namespace stays

module _ (ns : Name) (t : Tenant) where
  grows_change : (k : Name) (f : Tenant → Tenant) → ((u : Tenant) → ((f u).evaluation_number ≡ u.evaluation_number) × ((f u).jobs ≡ u.jobs)) → (x : World) →
      Grows ns t x →
      Grows ns t (change_tenant k f x)
  grows_change k f keeps x g = by (get x.tenants k) refl
    where
      by : (o : Option Tenant) → get x.tenants k ≡ o → Grows ns t (option_map_or (λ u. put_tenant k (f u) x) o x)
      by None is = g
      by (Some u) is = at (same_name ns k) refl
        where
          at : (b : Bool) → same_name ns k ≡ b → Grows ns t (put_tenant k (f u) x)
          at true e =
              let same : g.rows ≡ u = same_Some g.rows u (sym g.is_there ∙ ap (get x.tenants) (same_name_is ns k e) ∙ is) in
              let number : t.evaluation_number ≤ u.evaluation_number = subst (λ (u : Tenant). t.evaluation_number ≤ u.evaluation_number) same g.number in
              let kept = (keeps u).0 in record {
                rows = f u;
                is_there = ap (get (insert x.tenants k (f u))) (same_name_is ns k e) ∙ get_put names one_name x.tenants k (f u);
                number = omega (arith, number, kept);
                jobs = (keeps u).1 ∙ ap (λ (u : Tenant). u.jobs) (sym same) ∙ g.jobs;
              }
          at false e = record {
            rows = g.rows;
            is_there = get_other names one_name x.tenants k (f u) ns e ∙ g.is_there;
            number = g.number;
            jobs = g.jobs;
          }

  desired_keeps : (n : ℕ) (d : DesiredStatus) (u : Tenant) →
      ((with_desired n d u).evaluation_number ≡ u.evaluation_number) × ((with_desired n d u).jobs ≡ u.jobs)
  desired_keeps n d u = by (get u.allocations n)
    where
      changed : Option Allocation → Tenant
      changed o = option_map_or (λ a. record u { allocations = insert u.allocations n (record a { desired = d }) }) o u

      by : (o : Option Allocation) → ((changed o).evaluation_number ≡ u.evaluation_number) × ((changed o).jobs ≡ u.jobs)
      by None = (refl, refl)
      by (Some a) = (refl, refl)

  stops_keep : (stops_ : List ℕ) (u : Tenant) → ((fold (λ x n. with_desired n DesiredStatus.Stop x) u stops_).evaluation_number ≡ u.evaluation_number)
      × ((fold (λ x n. with_desired n DesiredStatus.Stop x) u stops_).jobs ≡ u.jobs)
  stops_keep [] u = (refl, refl)
  stops_keep (n ∷ stops_) u =
      let rest = stops_keep stops_ (with_desired n DesiredStatus.Stop u) in
      let one = desired_keeps n DesiredStatus.Stop u in (rest.0 ∙ one.0, rest.1 ∙ one.1)

  evicted_grows : (vs : List Eviction) (x : World) → Grows ns t x → Grows ns t (evict_all x vs)
  evicted_grows [] x g = g
  evicted_grows (v ∷ vs) x g = evicted_grows vs (evict x v)
      (grows_change v.namespace (with_desired v.number DesiredStatus.Evict) (desired_keeps v.number DesiredStatus.Evict) x g)

  placed_grows : (kept : Snapshot) (p : Placement) (x : World) → Grows ns t x → Grows ns t (place_one kept x p)
  unfolding place_one
  placed_grows kept p x g = job kept.job
    where
      counted : (y : World) (node : Node) → Grows ns t y → (o : Option PoolRows) →
          Grows ns t (option_map_or (λ p'. put_pool kept.pool (with_place (node_name kept p.node) node p') y) o y)
      counted y node g None = g
      counted y node g (Some p') = record { rows = g.rows; is_there = g.is_there; number = g.number; jobs = g.jobs }

      node : (j : Job) (o : Option Node) → Grows ns t (option_map_or (place_with kept p x j) o x)
      node j None = g
      node j (Some n) =
          let y = change_tenant kept.namespace (with_allocation (new_allocation kept j p n)) x in
          counted y n (grows_change kept.namespace (with_allocation (new_allocation kept j p n)) (λ u. (refl, refl)) x g) (get y.pools kept.pool)

      job : (o : Option Job) → Grows ns t (option_map_or (λ job. option_map_or (place_with kept p x job) (node_at x kept.pool (node_name kept p.node)) x) o x)
      job None = g
      job (Some j) = node j (node_at x kept.pool (node_name kept p.node))

  all_grow : (kept : Snapshot) (qs : List Placement) (x : World) → Grows ns t x → Grows ns t (place_all kept x qs)
  all_grow kept [] x g = g
  all_grow kept (q ∷ qs) x g = all_grow kept qs (place_one kept x q) (placed_grows kept q x g)

  -- a change of workers leaves evaluations
  has_worker : (job pool : Name) (trigger : Trigger) (k : Name) (number : ℕ) (worker : Worker) (x : World) → HasOne ns t job pool trigger x →
      HasOne ns t job pool trigger (change_tenant k (with_worker number worker) x)
  has_worker job pool trigger k number worker x h = by (get x.tenants k) refl
    where
      by : (o : Option Tenant) → get x.tenants k ≡ o → HasOne ns t job pool trigger (option_map_or (λ u. put_tenant k (with_worker number worker u) x) o x)
      by None is = h
      by (Some u) is = at (same_name ns k) refl
        where
          at : (b : Bool) → same_name ns k ≡ b → HasOne ns t job pool trigger (put_tenant k (with_worker number worker u) x)
          at true e =
              let same : h.rows ≡ u = same_Some h.rows u (sym h.is_there ∙ ap (get x.tenants) (same_name_is ns k e) ∙ is) in record {
                rows = with_worker number worker u;
                is_there = ap (get (insert x.tenants k (with_worker number worker u))) (same_name_is ns k e) ∙
                    get_put names one_name x.tenants k (with_worker number worker u);
                number = h.number;
                is_new = h.is_new;
                is_given = subst (λ (u : Tenant). h.number ≤ u.evaluation_number) same h.is_given;
                row = h.row;
                is_row = ap (λ (u : Tenant). get u.evaluations h.number) (sym same) ∙ h.is_row;
                is_for = h.is_for;
              }
          at false e = record {
            rows = h.rows;
            is_there = get_other names one_name x.tenants k (with_worker number worker u) ns e ∙ h.is_there;
            number = h.number;
            is_new = h.is_new;
            is_given = h.is_given;
            row = h.row;
            is_row = h.is_row;
            is_for = h.is_for;
          }

-- ---- what Apply decides

is_evict : DesiredStatus → Bool
is_evict DesiredStatus.Evict = true
is_evict _ = false

evict_does_not_run : (d : DesiredStatus) → is_run d ≡ true → is_evict d ≡ false
unfolding is_evict
evict_does_not_run DesiredStatus.Run e = refl
evict_does_not_run DesiredStatus.Stop e = refl
evict_does_not_run DesiredStatus.Evict e = sym e

evict_is : is_evict DesiredStatus.Evict ≡ true
unfolding is_evict
evict_is = refl

stop_is_not : is_evict DesiredStatus.Stop ≡ false
unfolding is_evict
stop_is_not = refl

module _ (w : World) (step : Step) (kept : Snapshot) (applies : AppliesPlan w step kept.namespace kept) (t : Tenant)
    (is : get w.tenants kept.namespace ≡ Some t) (below : (k : Name) (u : Tenant) → get w.tenants k ≡ Some u → Below u) where
  abbrev ps : List Placement
  ps = (plan kept).placing.placements

  abbrev live : List ℕ
  live = live_stops t (plan kept).stops

  abbrev stopped : World
  stopped = stop_all kept.namespace live w

  abbrev decided : Commit
  decided = fold (decide kept ps) (begun stopped) (nodes_in ps)

  abbrev placed : List Placement
  placed = committed_placements decided ps

  abbrev victims : List Victim
  victims = evicted_rows stopped kept placed

  -- a placement on a committed node evicts the allocation at the key
  record Falls (committed : List ℕ) (key : Key) : Type 0 where
    placement : Placement
    planned : Has ps placement
    on : has_number committed placement.node ≡ true
    eviction : Eviction
    is_one : Has placement.evictions eviction
    counted : counts stopped kept.pool (node_name kept placement.node) eviction ≡ true
    of_it : key ≡ victim_key eviction

  falls_more : (committed : List ℕ) (k : ℕ) (key : Key) → Falls committed key → Falls (committed ++ k ∷ []) key
  falls_more committed k key f = record {
    placement = f.placement;
    planned = f.planned;
    on = any_before (same_number f.placement.node) committed (k ∷ []) f.on;
    eviction = f.eviction;
    is_one = f.is_one;
    counted = f.counted;
    of_it = f.of_it;
  }

  -- it is as the stops left it, or falls
  abbrev Stands : List ℕ → World → Type 0
  Stands committed x = (key : Key) → (allocation_at x key ≡ allocation_at stopped key) ⊎ Falls committed key

  module _ (c : Commit) (k : ℕ) (h : Stands c.committed c.world) where
    abbrev vs : List Eviction
    vs = victims_of c.world kept (part_of k ps)

    same_row : (o : Option Allocation) → option_map (λ (a : Allocation). cond false (evicted_row a) a) o ≡ o
    same_row None = refl
    same_row (Some a) = refl

    at_key : (key : Key) (b : Bool) → has_key (map victim_key vs) key ≡ b →
        allocation_at (evict_all c.world vs) key ≡ option_map (λ a. cond b (evicted_row a) a) (allocation_at c.world key)
    at_key key b e = ap (λ x. allocation_at x key) (evicted_are vs c.world) ∙ allocation_then evicted_row (λ a. refl) c.world (map victim_key vs) key
        ∙ ap (λ b. option_map (λ a. cond b (evicted_row a) a) (allocation_at c.world key)) e

    evicted_stands : Stands (c.committed ++ k ∷ []) (evict_all c.world vs)
    evicted_stands key = by (has_key (map victim_key vs) key) refl (h key)
      where
        by : (b : Bool) → has_key (map victim_key vs) key ≡ b → (allocation_at c.world key ≡ allocation_at stopped key) ⊎ Falls c.committed key →
            (allocation_at (evict_all c.world vs) key ≡ allocation_at stopped key) ⊎ Falls (c.committed ++ k ∷ []) key
        by b e (inr f) = inr (falls_more c.committed k key f)
        by false e (inl same) = inl (at_key key false e ∙ same_row (allocation_at c.world key) ∙ same)
        by true e (inl same) =
            let r = of_keys victim_key vs key e in
            let p = has_flat (victims_in c.world kept) r.0 (part_of k ps) r.1 in
            let q = has_filter (counts c.world kept.pool (node_name kept p.0.node)) p.0.evictions r.0 p.2 in
            let part = has_filter (λ p. same_number p.node k) ps p.0 p.1 in
            inr (record {
              placement = p.0;
              planned = part.0;
              on = any_last (same_number p.0.node) c.committed k part.1;
              eviction = r.0;
              is_one = q.0;
              counted = counts_as c.world stopped kept.pool (node_name kept p.0.node) r.0 (ap (allocation_at c.world) (sym r.2) ∙ same ∙
                  ap (allocation_at stopped) r.2) q.1;
              of_it = r.2;
            })

    decide_stands : Stands (decide kept ps c k).committed (decide kept ps c k).world
    unfolding decide
    decide_stands = by (accepts_at kept (evict_all c.world (victims_of c.world kept (part_of k ps))) (node_name kept k) (part_of k ps) c.placed)
      where
        by : (b : Bool) → Stands (cond b (record {
          world = evict_all c.world (victims_of c.world kept (part_of k ps));
          placed = plus c.placed (size_of (part_of k ps));
          committed = c.committed ++ k ∷ [];
          dropped = c.dropped;
        }) (record c { dropped = c.dropped ++ k ∷ [] })).committed (cond b (record {
          world = evict_all c.world (victims_of c.world kept (part_of k ps));
          placed = plus c.placed (size_of (part_of k ps));
          committed = c.committed ++ k ∷ [];
          dropped = c.dropped;
        }) (record c { dropped = c.dropped ++ k ∷ [] })).world
        by true = evicted_stands
        by false = h

  decided_stands : (ks : List ℕ) (c : Commit) → Stands c.committed c.world →
      Stands (fold (decide kept ps) c ks).committed (fold (decide kept ps) c ks).world
  decided_stands [] c h = h
  decided_stands (k ∷ ks) c h = decided_stands ks (decide kept ps c k) (decide_stands c k h)

  -- ---- placements leave what is there

  abbrev pub Keeps : World → World → Type 0
  Keeps x y = (key : Key) (b : Allocation) → allocation_at x key ≡ Some b → allocation_at y key ≡ Some b

  placed_keeps : (p : Placement) (x : World) → Onward Counts w x → Keeps x (place_one kept x p)
  unfolding place_one
  placed_keeps p x numbered = job kept.job
    where
      row : (j : Job) (n : Node) (u : Tenant) → get x.tenants kept.namespace ≡ Some u → (m : ℕ) (b : Allocation) → get u.allocations m ≡ Some b →
          get (with_allocation (new_allocation kept j p n) u).allocations m ≡ Some b
      row j n u there m b at = by (same_number m (u.allocation_number + 1)) refl
        where
          by : (c : Bool) → same_number m (u.allocation_number + 1) ≡ c → get (with_allocation (new_allocation kept j p n) u).allocations m ≡ Some b
          by true e =
              let c = numbered kept.namespace u there in
              let h = c.2.below (below kept.namespace c.0 c.1) m b at in
              let same : m ≡ u.allocation_number + 1 = tied one_number m (u.allocation_number + 1) e in
              let never : ⊥ = omega (arith, h, same) in absurd never
          by false e = get_other numbers one_number u.allocations (u.allocation_number + 1) (new_allocation kept j p n) m e ∙ at

      tenant : (j : Job) (n : Node) (o : Option Tenant) → get x.tenants kept.namespace ≡ o →
          Keeps x (option_map_or (λ t. put_tenant kept.namespace (with_allocation (new_allocation kept j p n) t) x) o x)
      tenant j n None there = λ key b at. at
      tenant j n (Some u) there = λ key b at. moves_put (λ k o o'. (b : Allocation) → o ≡ Some b → o' ≡ Some b) (λ k o b e. e) x kept.namespace u
          (with_allocation (new_allocation kept j p n) u) there (λ m. row j n u there m) key b at

      counted : (y : World) (node : Node) → Keeps x y → (o : Option PoolRows) →
          Keeps x (option_map_or (λ p'. put_pool kept.pool (with_place (node_name kept p.node) node p') y) o y)
      counted y node h None = h
      counted y node h (Some p') = h

      node : (j : Job) (o : Option Node) → Keeps x (option_map_or (place_with kept p x j) o x)
      node j None = λ key b at. at
      node j (Some n) =
          let y = change_tenant kept.namespace (with_allocation (new_allocation kept j p n)) x in
          counted y n (tenant j n (get x.tenants kept.namespace) refl) (get y.pools kept.pool)

      job : (o : Option Job) → Keeps x (option_map_or (λ job. option_map_or (place_with kept p x job) (node_at x kept.pool (node_name kept p.node)) x) o x)
      job None = λ key b at. at
      job (Some j) = node j (node_at x kept.pool (node_name kept p.node))

  pub all_keep : (qs : List Placement) (x : World) → Onward Counts w x → Keeps x (place_all kept x qs)
  all_keep [] x numbered key b at = at
  all_keep (q ∷ qs) x numbered key b at = all_keep qs (place_one kept x q)
      (onward_then Counts counts_still counts_then w x (place_one kept x q) numbered (placed_count w step kept applies t is below q x))
      key b (placed_keeps q x numbered key b at)

  -- ---- the whole

  abbrev y : World
  y = place_all kept decided.world placed

  module _ (key : Key) (a : Allocation) (lives : IsLiveAt w key a) where
    abbrev stop_keys : List Key
    stop_keys = map (λ n. (kept.namespace, n)) live

    abbrev row : Bool → Allocation
    row b = cond b (stopped_row a) a

    after_stops : allocation_at stopped key ≡ Some (row (has_key stop_keys key))
    after_stops = ap (λ x. allocation_at x key) (stopped_are kept.namespace live w) ∙ allocation_then stopped_row (λ a. refl) w stop_keys key
        ∙ ap (option_map (λ a. cond (has_key stop_keys key) (stopped_row a) a)) lives.0

    not_evict : (b : Bool) → is_evict (row b).desired ≡ false
    not_evict true = stop_is_not
    not_evict false = evict_does_not_run a.desired (first_of_both (is_run a.desired) (is_held a.client) lives.1)

    its_job : (b : Bool) → (row b).job ≡ a.job
    its_job true = refl
    its_job false = refl

    its_pool : (b : Bool) → (row b).pool ≡ a.pool
    its_pool true = refl
    its_pool false = refl

    numbered : Onward Counts w decided.world
    numbered = decided_count w kept ps (nodes_in ps) (begun stopped)
        (onward_change Counts counts_still w kept.namespace (λ u. fold (λ x n. with_desired n DesiredStatus.Stop x) u live) (λ u _. stops_count live u))

    abbrev Evaluated : World → Type 0
    Evaluated x = (u : Tenant) × (get w.tenants key.0 ≡ Some u) × HasOne key.0 u a.job a.pool Trigger.Preemption x

    grown : (u : Tenant) → get w.tenants key.0 ≡ Some u → Grows key.0 u y
    grown u there = all_grow key.0 u kept placed decided.world (decided_world (Grows key.0 u) (λ vs x g. evicted_grows key.0 u vs x g) kept
        ps (nodes_in ps) (begun stopped)
        (grows_change key.0 u kept.namespace (λ u. fold (λ x n. with_desired n DesiredStatus.Stop x) u live) (stops_keep key.0 u live) w
        (record { rows = u; is_there = there; number = omega arith; jobs = refl })))

    fallen : Falls decided.committed key → Evaluated (make_up victims y)
    unfolding make_up
    fallen f =
        let c = counted_on stopped kept.pool (node_name kept f.placement.node) f.eviction f.counted in
        let same : c.0 ≡ row (has_key stop_keys key) =
        same_Some c.0 (row (has_key stop_keys key)) (sym c.1 ∙ ap (allocation_at stopped) (sym f.of_it) ∙ after_stops) in
        let job : c.0.job ≡ a.job = ap (λ (a : Allocation). a.job) same ∙ its_job (has_key stop_keys key) in
        let pool : kept.pool ≡ a.pool = sym (pool_of_live kept.pool (node_name kept f.placement.node) c.0 c.2)
        ∙ ap (λ (a : Allocation). a.pool) same ∙ its_pool (has_key stop_keys key) in
        let v : Victim = (f.eviction.namespace, (f.eviction.number, c.0)) in
        let among : Has victims v = filter_map_has (victim_at stopped) (victims_of stopped kept placed) f.eviction v
        (flat_has (victims_in stopped kept) f.eviction placed f.placement
        (filter_has (λ p. has_number decided.committed p.node) ps f.placement f.planned f.on)
        (filter_has (counts stopped kept.pool (node_name kept f.placement.node)) f.placement.evictions f.eviction f.is_one f.counted))
        (ap (option_map (λ a. (f.eviction.namespace, (f.eviction.number, a)))) c.1) in
        let r = one_first victims v among in
        let its = allocation_row w key a lives.0 in
        let here : r.0.0 ≡ key.0 = r.2 ∙ ap (λ (k : Key). k.0) (sym f.of_it) in
        let l = least_lived w kept.namespace live kept placed r.0
        (each_has (Has victims) (first_each same_victim_job victims) r.0 r.1 (each_first (Has victims) same_victim_job victims (has_each victims))) in (
          its.0,
          its.1,
          one_made key.0 its.0 a.job a.pool Trigger.Preemption (λ (v : Victim). v.0) (λ v t. evaluation_for t (least_of_job victims v) Trigger.Preemption)
              (first_each same_victim_job victims) r.0 r.1 here
              (pending_for its.0 l.0 (least_of_job victims r.0)
              (row_in w key.0 r.0.0 its.0 l.0 (least_of_job victims r.0) its.1 here l.1.0) l.1.1
              a.job a.pool (least_job victims r.0 ∙ r.3 ∙ job) (l.2 ∙ pool) Trigger.Preemption) y (grown its.0 its.1),
        )

    done_evaluates : (b : Allocation) → allocation_at (make_up victims y) key ≡ Some b → b.desired ≡ DesiredStatus.Evict → Evaluated (make_up victims y)
    done_evaluates b at evicts_ = by (decided_stands (nodes_in ps) (begun stopped) (λ key. inl refl) key)
      where
        by : (allocation_at decided.world key ≡ allocation_at stopped key) ⊎ Falls decided.committed key → Evaluated (make_up victims y)
        by (inr f) = fallen f
        by (inl e) =
            let there = made_up_same w step kept applies t is below victims y key
            ∙ all_keep placed decided.world numbered key (row (has_key stop_keys key)) (e ∙ after_stops) in
            not_both (ap (λ (a : Allocation). is_evict a.desired) (sym (same_Some b (row (has_key stop_keys key)) (sym at ∙ there)))
            ∙ ap is_evict evicts_ ∙ evict_is) (not_evict (has_key stop_keys key))

-- ---- Apply

abbrev Evaluates : World → World → Type 0
Evaluates w x = (key : Key) (a : Allocation) → IsLiveAt w key a → (b : Allocation) → allocation_at x key ≡ Some b → b.desired ≡ DesiredStatus.Evict →
    (u : Tenant) × (get w.tenants key.0 ≡ Some u) × HasOne key.0 u a.job a.pool Trigger.Preemption x

-- nothing is evicted where nothing changes
none_evicted : (w : World) → Evaluates w w
none_evicted w key a lives b at evicts_ = not_both (first_of_both (is_run a.desired) (is_held a.client) lives.1)
    (ap (λ (a : Allocation). is_run a.desired) (same_Some a b (sym lives.0 ∙ at)) ∙ ap is_run evicts_)

commit_evaluates : (w : World) (step : Step) (kept : Snapshot) → AppliesPlan w step kept.namespace kept → (t : Tenant) → get w.tenants kept.namespace ≡ Some t →
    ((k : Name) (u : Tenant) → get w.tenants k ≡ Some u → Below u) → Evaluates w (commit kept (plan kept) w t).world
unfolding commit
commit_evaluates w step kept applies t is below = by (still_stands kept.job (get t.jobs kept.evaluation.job))
  where
    by : (b : Bool) → Evaluates w (cond b (done kept (plan kept) w t) (refused_whole kept (plan kept) w)).world
    by true = λ key a lives b at evicts_. done_evaluates w step kept applies t is below key a lives b at evicts_
    by false = none_evicted w

has_plans : (ns : Name) (t : Tenant) (job pool : Name) (trigger : Trigger) (x : World) (keys : List Key) → HasOne ns t job pool trigger x →
    HasOne ns t job pool trigger (record x { plans = keys })
has_plans ns t job pool trigger x keys h = record {
  rows = h.rows;
  is_there = h.is_there;
  number = h.number;
  is_new = h.is_new;
  is_given = h.is_given;
  row = h.row;
  is_row = h.is_row;
  is_for = h.is_for;
}

apply_evaluates : (w : World) → IsSound w → (ns : Name) (number : ℕ) → Leads (Evaluates w) (apply number ns w)
unfolding apply
apply_evaluates w sound ns number = leads_keeping (Evaluates w) number ns w (apply_for number ns w) (λ t worker e kept is has _ keeps.
    leads_if (Evaluates w) (is_submitted worker.phase && is_served w w.plans (ns, worker.evaluation)) (applied number ns worker e (commit kept (plan kept) w t))
    NotEnabled (λ _. by worker e (commit kept (plan kept) w t) (committed t worker kept is has keeps)) (λ _. tt))
  where
    step : Step
    step = Step.Apply number ns

    by : (worker : Worker) (e : Evaluation) (a : Applied) → Evaluates w a.world → Leads (Evaluates w) (applied number ns worker e a)
    by worker e a h = λ key x lives b at evicts_.
        let r = h key x lives b (sym (same_change ns (with_worker number (applied_worker a worker e)) (λ t. refl) a.world key) ∙ at) evicts_ in (
          r.0,
          r.1,
          has_plans key.0 r.0 x.job x.pool Trigger.Preemption (change_tenant ns (with_worker number (applied_worker a worker e)) a.world)
              (without_key (ns, worker.evaluation) a.world.plans)
              (has_worker key.0 r.0 x.job x.pool Trigger.Preemption ns number (applied_worker a worker e) a.world r.2),
        )

    committed : (t : Tenant) (worker : Worker) (kept : Snapshot) → get w.tenants ns ≡ Some t → get t.workers number ≡ Some worker →
        worker.kept ≡ Some kept → Evaluates w (commit kept (plan kept) w t).world
    committed t worker kept is has keeps = which (still_stands kept.job (get t.jobs kept.evaluation.job)) refl
      where
        its : kept.namespace ≡ ns
        its = (((sound.tenant ns t is).worker number worker has).snapshot kept keeps).namespace

        which : (b : Bool) → still_stands kept.job (get t.jobs kept.evaluation.job) ≡ b → Evaluates w (commit kept (plan kept) w t).world
        which true stands = commit_evaluates w (Step.Apply number ns) kept
            (subst (λ k. AppliesPlan w (Step.Apply number ns) k kept) (sym its) (applies_plan w ns number t worker kept is has keeps stands)) t
            (ap (get w.tenants) its ∙ is) (λ k u at n a row. ((sound.tenant k u at).allocation n a row).below)
        which false stale = subst (Evaluates w) (sym (stale_leaves kept w t stale)) (none_evicted w)

does_leads : {S : Type 0} (P : S → Type 0) (Q : Content → S → Type 0) → ((content : Content) (x : S) → P x → Q content x) →
    (o : Outcome S) → Leads P o → Does Q o
does_leads P Q f NotEnabled h = tt
does_leads P Q f (Refused refusal) h = tt
does_leads P Q f (Done content x) h = f content x h

act_evaluates : (s : State) → IsSound s.world → (number : ℕ) (ns : Name) → Leads (λ (x : State). Evaluates s.world x.world) (act (Step.Apply number ns) s)
unfolding act
act_evaluates s sound number ns = leads_lift (λ (x : State). Evaluates s.world x.world) (with_world s.acl) (Evaluates s.world) (λ w h. h)
    (apply number ns s.world) (apply_evaluates s.world sound ns number)

pub evicted_is_evaluated : law.EvictedIsEvaluated
evicted_is_evaluated number ns s s' reply key a b valid made lives there evicts_ =
    after_does (Step.Apply number ns) s s' reply (λ r y. Ends y) made
    (does_leads (λ (x : State). Evaluates s.world x.world) _ (λ content x h. settled_too x h) (act (Step.Apply number ns) s)
    (act_evaluates s valid.world number ns)) b there evicts_
  where
    Ends : State → Type 0
    Ends y = (b : Allocation) → allocation_at y.world key ≡ Some b → b.desired ≡ DesiredStatus.Evict → IsEvaluatedAnew key.0 a Trigger.Preemption s y

    settled_too : (x : State) → Evaluates s.world x.world → (b : Allocation) → allocation_at (settle s.world x.world) key ≡ Some b →
        b.desired ≡ DesiredStatus.Evict → IsEvaluatedAnew key.0 a Trigger.Preemption s (record x { world = settle s.world x.world })
    settled_too x h b there evicts_ =
        let c = comes (allocation_at s.world key) (allocation_at x.world key) (allocation_at (settle s.world x.world) key) b
        (settled_at s.world x.world key) there in
        let r = h key a lives c.row c.is_own (sym (desired_kept (allocation_at s.world key) c.row b c.dates) ∙ evicts_) in
        evaluated_anew s x key.0 r.0 a Trigger.Preemption r.1 r.2
