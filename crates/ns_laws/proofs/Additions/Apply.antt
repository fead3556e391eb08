-- Apply: it adds one evaluation for each job of which it evicts an allocation, and no other.
use Rattle.std.specs.Prelude.{◌≡◌, ◌⊎◌, ℕ, Bool, true, false, cond, T, ◌&&◌, ◌||◌, List, [], ◌∷◌, ◌++◌, Option, Some, None, fold, map, option_map}
use Rattle.std.proofs.Common.{inl, inr, refl, sym, ap, subst, ◌∙◌}
use Rattle.std.specs.FinMap.{get, insert}
use Rattle.std.specs.Option.{option_map_or}
use Rattle.ns_types.specs.declared.allocation.Allocation.{Allocation}
use Rattle.ns_types.specs.declared.allocation.DesiredStatus.{DesiredStatus}
use Rattle.ns_types.specs.declared.evaluation.Evaluation.{Evaluation}
use Rattle.ns_types.specs.declared.evaluation.Trigger.{Trigger}
use Rattle.ns_types.specs.declared.job.Job.{Job}
use Rattle.ns_types.specs.declared.node.Node.{Node}
use Rattle.ns_types.specs.declared.plan.Eviction.{Eviction}
use Rattle.ns_types.specs.declared.plan.Placement.{Placement}
use Rattle.ns_types.specs.declared.snapshot.Snapshot.{Snapshot}
use Rattle.ns_types.specs.declared.step.Step.{Step}
use Rattle.ns_types.specs.Placing.Plan.{plan}
use Rattle.ns_types.specs.Settling.Making.{change_tenant, evaluation_for, put_pool, with_desired}
use Rattle.ns_types.specs.Settling.Outcome.{NotEnabled}
use Rattle.ns_types.specs.State.Lists.{Each, first_each}
use Rattle.ns_types.specs.State.Names.{Key, Name, has_key, has_number, same_key, same_number}
use Rattle.ns_types.specs.State.Rows.{PoolRows, Tenant, World, allocation_at, is_held, is_live, is_run, node_at}
use Rattle.ns_types.specs.Validity.{IsSound}
use Rattle.ns_types.specs.Working.Commit.{Applied, Commit, Victim, applied, applied_worker}
use Rattle.ns_types.specs.Working.Commit.{apply, apply_for, begun, commit, committed_placements, counts}
use Rattle.ns_types.specs.Working.Commit.{decide, done, evict, evict_all, evicted_rows, least_of_job, live_stops, make_up, new_allocation, node_name, nodes_in}
use Rattle.ns_types.specs.Working.Commit.{part_of, place_all, place_one, place_with, refused_whole, same_victim_job, still_stands, stop_all, victim_at}
use Rattle.ns_types.specs.Working.Commit.{victim_key, victims_in, victims_of, with_allocation, with_place}
use Rattle.ns_types.specs.Working.Queue.{is_served}
use Rattle.ns_types.specs.Working.Work.{is_submitted, with_worker, without_key}
use Rattle.ns_types.specs.Working.Worker.{Worker}
use Rattle.ns_types.proofs.Decided.{decided_world}
use Rattle.ns_types.proofs.Elements.{each_first, each_of}
use Rattle.ns_types.proofs.Gone.{evicted_are, evicted_row}
use Rattle.ns_types.proofs.Leads.{Leads, leads_if, leads_keeping}
use Rattle.ns_types.proofs.Less.{allocation_then}
use Rattle.ns_types.proofs.Named.{first_of_both, same_key_refl}
use Rattle.ns_types.proofs.TableRows.{any_append}
use Rattle.ns_types.proofs.Tests.{or_none, same_Some}
use Rattle.ns_audit.proofs.ValidAllocations.Going.{Onward, onward_change, onward_each, onward_same, onward_then}
use Rattle.ns_laws.specs.Ending.{AddedFor, AppliesPlan, HasLost}
use Rattle.ns_laws.proofs.Additions.Lists.{victims_distinct}
use Rattle.ns_laws.proofs.Additions.Steps.{Adds, SameRows, adds_made, adds_same, adds_then, for_lost, rows_still}
use Rattle.ns_laws.proofs.Elements.{Has, each_from_has, filter_has, flat_has, has_filter, has_filter_map, has_flat}
use Rattle.ns_laws.proofs.Endings.Apply.{Below, Counts, applies_plan, counts_still, decided_count, made_up_same}
use Rattle.ns_laws.proofs.Endings.Apply.{same_change, stale_leaves, stops_count}
use Rattle.ns_laws.proofs.Effect.Evaluations.{made_for}
use Rattle.ns_laws.proofs.Endings.Evictions.{all_keep, counts_as, least_job}
use Rattle.ns_laws.proofs.Endings.Rows.{Same}
use Rattle.ns_laws.proofs.Endings.Victims.{counted_on, was_live}
use Rattle.ns_laws.proofs.Plans.Deciding.{decide_all, decide_either}

-- ---- elements of lists

key_among : {A : Type 0} (f : A → Key) (xs : List A) (x : A) → Has xs x → has_key (map f xs) (f x) ≡ true
key_among f [] x h = absurd h
key_among f (y ∷ xs) x (inl e) = ap (λ b. b || has_key (map f xs) (f x)) (ap (λ z. same_key (f x) (f z)) e ∙ same_key_refl (f x))
key_among f (y ∷ xs) x (inr h) = ap (λ b. same_key (f x) (f y) || b) (key_among f xs x h) ∙ or_true (same_key (f x) (f y))
  where
    or_true : (b : Bool) → (b || true) ≡ true
    or_true true = refl
    or_true false = refl

-- ---- evicted allocations

-- the allocation at the key is to be evicted
record HasFallen (x : World) (key : Key) : Type 0 where
  row : Allocation
  is_row : allocation_at x key ≡ Some row
  falls : row.desired ≡ DesiredStatus.Evict

module _ (x : World) (vs : List Eviction) (key : Key) where
  row_of : Bool → Allocation → Allocation
  row_of b a = cond b (evicted_row a) a

  evicted_at : (b : Allocation) → allocation_at x key ≡ Some b → (c : Bool) → has_key (map victim_key vs) key ≡ c →
      allocation_at (evict_all x vs) key ≡ Some (cond c (evicted_row b) b)
  evicted_at b at c e = ap (λ x. allocation_at x key) (evicted_are vs x) ∙ allocation_then evicted_row (λ a. refl) x (map victim_key vs) key
      ∙ (λ i. option_map (λ a. cond (e i) (evicted_row a) a) (at i))

  evicted_none : allocation_at x key ≡ None → allocation_at (evict_all x vs) key ≡ None
  evicted_none none = ap (λ x. allocation_at x key) (evicted_are vs x) ∙ allocation_then evicted_row (λ a. refl) x (map victim_key vs) key
      ∙ ap (option_map (λ a. cond (has_key (map victim_key vs) key) (evicted_row a) a)) none

  fallen_stays : HasFallen x key → HasFallen (evict_all x vs) key
  fallen_stays f = by (has_key (map victim_key vs) key) refl
    where
      by : (c : Bool) → has_key (map victim_key vs) key ≡ c → HasFallen (evict_all x vs) key
      by true e = record { row = evicted_row f.row; is_row = evicted_at f.row f.is_row true e; falls = refl }
      by false e = record { row = f.row; is_row = evicted_at f.row f.is_row false e; falls = f.falls }

  falls_now : (b : Allocation) → allocation_at x key ≡ Some b → has_key (map victim_key vs) key ≡ true → HasFallen (evict_all x vs) key
  falls_now b at e = record { row = evicted_row b; is_row = evicted_at b at true e; falls = refl }

-- ---- what Apply decides

desired_leaves : (n : ℕ) (d : DesiredStatus) (t : Tenant) → SameRows t (with_desired n d t)
desired_leaves n d t = by (get t.allocations n)
  where
    by : (o : Option Allocation) → SameRows t (option_map_or (λ a. record t { allocations = insert t.allocations n (record a { desired = d }) }) o t)
    by None = refl
    by (Some a) = refl

rows_then : (t u v : Tenant) → SameRows t u → SameRows u v → SameRows t v
rows_then t u v f g = g ∙ f

stops_leave : (stops : List ℕ) (t : Tenant) → SameRows t (fold (λ x n. with_desired n DesiredStatus.Stop x) t stops)
stops_leave [] t = refl
stops_leave (n ∷ stops) t = stops_leave stops (with_desired n DesiredStatus.Stop t) ∙ desired_leaves n DesiredStatus.Stop t

evicted_leave : (vs : List Eviction) (x : World) → Onward SameRows x (evict_all x vs)
evicted_leave vs x = onward_each SameRows rows_still rows_then evict
    (λ x v. onward_change SameRows rows_still x v.namespace (with_desired v.number DesiredStatus.Evict)
    (λ t _. desired_leaves v.number DesiredStatus.Evict t)) vs x

placed_leaves : (kept : Snapshot) (p : Placement) (x : World) → Onward SameRows x (place_one kept x p)
unfolding place_one
placed_leaves kept p x = job kept.job
  where
    counted : (y : World) (node : Node) → Onward SameRows x y → (o : Option PoolRows) →
        Onward SameRows x (option_map_or (λ p'. put_pool kept.pool (with_place (node_name kept p.node) node p') y) o y)
    counted y node h None = h
    counted y node h (Some p') = h

    node : (j : Job) (o : Option Node) → Onward SameRows x (option_map_or (place_with kept p x j) o x)
    node j None = onward_same SameRows rows_still x x refl
    node j (Some n) =
        let y = change_tenant kept.namespace (with_allocation (new_allocation kept j p n)) x in
        counted y n (onward_change SameRows rows_still x kept.namespace (with_allocation (new_allocation kept j p n)) (λ u _. refl)) (get y.pools kept.pool)

    job : (o : Option Job) →
        Onward SameRows x (option_map_or (λ job. option_map_or (place_with kept p x job) (node_at x kept.pool (node_name kept p.node)) x) o x)
    job None = onward_same SameRows rows_still x x refl
    job (Some j) = node j (node_at x kept.pool (node_name kept p.node))

all_leave : (kept : Snapshot) (qs : List Placement) (x : World) → Onward SameRows x (place_all kept x qs)
all_leave kept qs x = onward_each SameRows rows_still rows_then (place_one kept) (λ x q. placed_leaves kept q x) qs x

module _ (w : World) (step : Step) (kept : Snapshot) (applies : AppliesPlan w step kept.namespace kept) (t : Tenant)
    (is : get w.tenants kept.namespace ≡ Some t) (below : (k : Name) (u : Tenant) → get w.tenants k ≡ Some u → Below u) where
  abbrev ps : List Placement
  ps = (plan kept).placing.placements

  abbrev live : List ℕ
  live = live_stops t (plan kept).stops

  abbrev stopped : World
  stopped = stop_all kept.namespace live w

  abbrev decided : Commit
  decided = fold (decide kept ps) (begun stopped) (nodes_in ps)

  abbrev placed : List Placement
  placed = committed_placements decided ps

  abbrev victims : List Victim
  victims = evicted_rows stopped kept placed

  -- each allocation is as the stops left it, or is evicted; those that a committed node evicts are
  record Falls (committed : List ℕ) (x : World) : Type 0 where
    turns : (key : Key) → (allocation_at x key ≡ allocation_at stopped key) ⊎ HasFallen x key
    done_ : (p : Placement) → Has ps p → has_number committed p.node ≡ true → (e : Eviction) → Has p.evictions e →
        counts stopped kept.pool (node_name kept p.node) e ≡ true → HasFallen x (victim_key e)

  module _ (c : Commit) (k : ℕ) (h : Falls c.committed c.world) where
    abbrev vs : List Eviction
    vs = victims_of c.world kept (part_of k ps)

    evicted_turns : (key : Key) → (allocation_at (evict_all c.world vs) key ≡ allocation_at stopped key) ⊎ HasFallen (evict_all c.world vs) key
    evicted_turns key = by (h.turns key) (allocation_at c.world key) refl (has_key (map victim_key vs) key) refl
      where
        by : (allocation_at c.world key ≡ allocation_at stopped key) ⊎ HasFallen c.world key → (o : Option Allocation) → allocation_at c.world key ≡ o →
            (b : Bool) → has_key (map victim_key vs) key ≡ b →
            (allocation_at (evict_all c.world vs) key ≡ allocation_at stopped key) ⊎ HasFallen (evict_all c.world vs) key
        by (inr f) o at b e = inr (fallen_stays c.world vs key f)
        by (inl same) None at b e = inl (evicted_none c.world vs key at ∙ sym at ∙ same)
        by (inl same) (Some a) at true e = inr (falls_now c.world vs key a at e)
        by (inl same) (Some a) at false e = inl (evicted_at c.world vs key a at false e ∙ sym at ∙ same)

    evicted_done : (p : Placement) → Has ps p → has_number (c.committed ++ k ∷ []) p.node ≡ true → (e : Eviction) → Has p.evictions e →
        counts stopped kept.pool (node_name kept p.node) e ≡ true → HasFallen (evict_all c.world vs) (victim_key e)
    evicted_done p planned on e is_one counted = by (any_append (same_number p.node) c.committed (k ∷ []) on)
      where
        its : same_number p.node k ≡ true → (allocation_at c.world (victim_key e) ≡ allocation_at stopped (victim_key e)) ⊎ HasFallen c.world (victim_key e) →
            HasFallen (evict_all c.world vs) (victim_key e)
        its same (inr f) = fallen_stays c.world vs (victim_key e) f
        its same (inl rests) =
            let counts_here = counts_as stopped c.world kept.pool (node_name kept p.node) e (sym rests) counted in
            let l = counted_on c.world kept.pool (node_name kept p.node) e counts_here in
            falls_now c.world vs (victim_key e) l.0 l.1 (key_among victim_key vs e
            (flat_has (victims_in c.world kept) e (part_of k ps) p (filter_has (λ p. same_number p.node k) ps p planned same)
            (filter_has (counts c.world kept.pool (node_name kept p.node)) p.evictions e is_one counts_here)))

        by : (has_number c.committed p.node ≡ true) ⊎ ((same_number p.node k || false) ≡ true) → HasFallen (evict_all c.world vs) (victim_key e)
        by (inl before) = fallen_stays c.world vs (victim_key e) (h.done_ p planned before e is_one counted)
        by (inr last) = its (sym (or_none (same_number p.node k)) ∙ last) (h.turns (victim_key e))

    decide_falls : Falls (decide kept ps c k).committed (decide kept ps c k).world
    decide_falls = decide_either kept ps (λ d. Falls d.committed d.world) c k (λ _. record { turns = evicted_turns; done_ = evicted_done })
        (record { turns = h.turns; done_ = h.done_ })

  all_fall : Falls decided.committed decided.world
  all_fall = decide_all kept ps (λ d. Falls d.committed d.world) decide_falls (nodes_in ps) (begun stopped) (record {
    turns = λ key. inl refl;
    done_ = λ p planned on e is_one counted. absurd (subst T (sym on) tt);
  })

  -- ---- the jobs that lose an allocation

  abbrev y : World
  y = place_all kept decided.world placed

  numbered : Onward Counts w decided.world
  numbered = decided_count w kept ps (nodes_in ps) (begun stopped)
      (onward_change Counts counts_still w kept.namespace (λ u. fold (λ x n. with_desired n DesiredStatus.Stop x) u live) (λ u _. stops_count live u))

  module _ (x : World) (later : Same y x) where
    fallen_ends : (d : DesiredStatus) (b : Bool) → d ≡ DesiredStatus.Evict → (is_run d && b) ≡ false
    fallen_ends d b e = ap (λ d. is_run d && b) e

    victim_loses : (v : Victim) → Has victims v → HasLost w x v.0 v.1.1.job
    victim_loses v among =
        let e = has_filter_map (victim_at stopped) (victims_of stopped kept placed) v among in
        let p = has_flat (victims_in stopped kept) e.0 placed e.1 in
        let q = has_filter (λ p. has_number decided.committed p.node) ps p.0 p.1 in
        let r = has_filter (counts stopped kept.pool (node_name kept p.0.node)) p.0.evictions e.0 p.2 in
        let l = counted_on stopped kept.pool (node_name kept p.0.node) e.0 r.1 in
        let f = all_fall.done_ p.0 q.0 q.1 e.0 r.0 r.1 in
        subst (λ (v : Victim). HasLost w x v.0 v.1.1.job) {x = (e.0.namespace, (e.0.number, l.0))}
        (same_Some (e.0.namespace, (e.0.number, l.0)) v (sym (ap (option_map (λ a. (e.0.namespace, (e.0.number, a)))) l.1) ∙ e.2))
        (record {
          number = e.0.number;
          before = l.0;
          was_live = was_live w kept.namespace live (victim_key e.0) l.0 l.1 (first_of_both (is_live l.0) _ l.2);
          of_job = refl;
          later = f.row;
          is_there = later (victim_key e.0) ∙ all_keep w step kept applies t is below placed decided.world numbered (victim_key e.0) f.row f.is_row;
          has_ended = fallen_ends f.row.desired (is_held f.row.client) f.falls;
        })

    abbrev Fit : Name → Victim → Type 0
    Fit ns v = v.0 ≡ ns → (u : Tenant) → AddedFor w x step ns (evaluation_for u (least_of_job victims v) Trigger.Preemption)

    victims_fit : (ns : Name) → Each (Fit ns) (first_each same_victim_job victims)
    victims_fit ns = each_first (Fit ns) same_victim_job victims (each_of (λ (v : Victim). HasLost w x v.0 v.1.1.job) (Fit ns)
        (λ v lost own u. for_lost w x step ns u (least_of_job victims v) Trigger.Preemption refl
        (subst (HasLost w x ns) (sym (least_job victims v)) (subst (λ k. HasLost w x k v.1.1.job) own lost))) victims
        (each_from_has (λ (v : Victim). HasLost w x v.0 v.1.1.job) victims victim_loses))

  placed_rows : Onward SameRows w y
  placed_rows = onward_then SameRows rows_still rows_then w decided.world y
      (decided_world (Onward SameRows w) (λ vs x h. onward_then SameRows rows_still rows_then w x (evict_all x vs) h (evicted_leave vs x))
      kept ps (nodes_in ps) (begun stopped)
      (onward_change SameRows rows_still w kept.namespace (λ u. fold (λ x n. with_desired n DesiredStatus.Stop x) u live) (λ u _. stops_leave live u)))
      (all_leave kept placed decided.world)

  done_adds : Adds w step (make_up victims y)
  unfolding make_up
  done_adds = adds_made w step (λ (v : Victim). v.0) (λ (v : Victim). v.1.1.job) (λ v u. evaluation_for u (least_of_job victims v) Trigger.Preemption)
      (λ v u. (made_for u (least_of_job victims v) Trigger.Preemption).of_job ∙ least_job victims v)
      y (first_each same_victim_job victims) (make_up victims y) refl
      placed_rows (victims_distinct victims) (victims_fit (make_up victims y) (made_up_same w step kept applies t is below victims y))

  commit_adds : Adds w step (commit kept (plan kept) w t).world
  unfolding commit
  commit_adds = by (still_stands kept.job (get t.jobs kept.evaluation.job))
    where
      by : (b : Bool) → Adds w step (cond b (done kept (plan kept) w t) (refused_whole kept (plan kept) w)).world
      by true = done_adds
      by false = adds_same w step w refl

pub apply_adds : (w : World) → IsSound w → (ns : Name) (number : ℕ) → Leads (Adds w (Step.Apply number ns)) (apply number ns w)
unfolding apply
apply_adds w sound ns number = leads_keeping (Adds w step) number ns w (apply_for number ns w) (λ t worker e kept is has _ keeps.
    leads_if (Adds w step) (is_submitted worker.phase && is_served w w.plans (ns, worker.evaluation)) (applied number ns worker e (commit kept (plan kept) w t))
    NotEnabled (λ _. by worker e (commit kept (plan kept) w t) (committed t worker kept is has keeps)) (λ _. tt))
  where
    step : Step
    step = Step.Apply number ns

    by : (worker : Worker) (e : Evaluation) (a : Applied) → Adds w step a.world → Leads (Adds w step) (applied number ns worker e a)
    by worker e a h = adds_then w step a.world
        (record (change_tenant ns (with_worker number (applied_worker a worker e)) a.world) { plans = without_key (ns, worker.evaluation) a.world.plans }) h
        (onward_change SameRows rows_still a.world ns (with_worker number (applied_worker a worker e)) (λ t _. refl))
        (same_change ns (with_worker number (applied_worker a worker e)) (λ t. refl) a.world)

    committed : (t : Tenant) (worker : Worker) (kept : Snapshot) → get w.tenants ns ≡ Some t → get t.workers number ≡ Some worker →
        worker.kept ≡ Some kept → Adds w step (commit kept (plan kept) w t).world
    committed t worker kept is has keeps = which (still_stands kept.job (get t.jobs kept.evaluation.job)) refl
      where
        its : kept.namespace ≡ ns
        its = (((sound.tenant ns t is).worker number worker has).snapshot kept keeps).namespace

        which : (b : Bool) → still_stands kept.job (get t.jobs kept.evaluation.job) ≡ b → Adds w step (commit kept (plan kept) w t).world
        which true stands = commit_adds w step kept
            (subst (λ k. AppliesPlan w step k kept) (sym its) (applies_plan w ns number t worker kept is has keeps stands)) t
            (ap (get w.tenants) its ∙ is) (λ k u at n a row. ((sound.tenant k u at).allocation n a row).below)
        which false stale = subst (Adds w step) (sym (stale_leaves kept w t stale)) (adds_same w step w refl)
