-- Apply: which allocations a plan stops and evicts, and which it places.
use Rattle.std.specs.Prelude.{◌≡◌, ◌⊎◌, ℕ, ◌+◌, ◌≤◌, Bool, true, false, cond, not, T, List, [], ◌∷◌, ◌++◌, Option, Some, None, ◌&&◌, ◌||◌}
use Rattle.std.specs.Prelude.{fold, map, option_map}
use Rattle.std.proofs.Common.{inl, inr, refl, sym, ap, subst, ◌∙◌, arith}
use Rattle.std.specs.FinMap.{get, insert}
use Rattle.std.specs.Option.{option_map_or, option_and_then}
use Rattle.ns_types.specs.declared.allocation.Allocation.{Allocation}
use Rattle.ns_types.specs.declared.allocation.DesiredStatus.{DesiredStatus}
use Rattle.ns_types.specs.declared.evaluation.Evaluation.{Evaluation}
use Rattle.ns_types.specs.declared.evaluation.Trigger.TheVariants as Trigger
use Rattle.ns_types.specs.declared.job.Job.{Job}
use Rattle.ns_types.specs.declared.node.Node.{Node}
use Rattle.ns_types.specs.declared.node.NodeStatus.{NodeStatus}
use Rattle.ns_types.specs.declared.plan.Eviction.{Eviction}
use Rattle.ns_types.specs.declared.plan.Placement.{Placement}
use Rattle.ns_types.specs.declared.resources.Resources.{Resources}
use Rattle.ns_types.specs.declared.snapshot.OwnAllocation.{OwnAllocation}
use Rattle.ns_types.specs.declared.snapshot.Snapshot.{Snapshot}
use Rattle.ns_types.specs.declared.step.Step.{Step}
use Rattle.ns_types.specs.Placing.Constraint.{is_feasible}
use Rattle.ns_types.specs.Placing.Plan.{plan, placing_of, quota_of, opening, constraints_of}
use Rattle.ns_types.specs.Placing.Planning.{place}
use Rattle.ns_types.specs.Placing.Wanted.{stopping, demands_from}
use Rattle.ns_types.specs.Settling.Making.{put_pool, put_tenant, change_tenant, with_desired, evaluation_for, make}
use Rattle.ns_types.specs.Settling.Outcome.{NotEnabled}
use Rattle.ns_types.specs.State.Names.{Name, Key, same_key, same_name, same_number, has_key, has_number}
use Rattle.ns_types.specs.State.Rows.{World, Tenant, PoolRows, is_live, is_live_on, is_ready, is_free, allocation_at, node_at}
use Rattle.ns_types.specs.Validity.{IsSound}
use Rattle.ns_types.specs.Working.Commit.{still_stands, live_stops, stop_all, node_name, nodes_in, part_of, counts, victims_in, victims_of, evict, evict_all}
use Rattle.ns_types.specs.Working.Commit.{Commit, begun, decide, new_allocation, with_allocation, with_place, place_with, place_one, committed_placements}
use Rattle.ns_types.specs.Working.Commit.{place_all, evicted_rows, Victim, victim_key, same_victim_job, least_of_job, make_up, Applied, refused_whole, done}
use Rattle.ns_types.specs.Working.Commit.{commit, applied_worker, applied, apply_for, apply, accepts, accepts_at, has_ended, same_version, size_of}
use Rattle.ns_types.specs.State.Resources.{plus}
use Rattle.ns_types.specs.Working.Queue.{is_served}
use Rattle.ns_types.specs.Working.Work.{with_worker, is_submitted}
use Rattle.ns_types.specs.Working.Worker.{Worker}
use Rattle.ns_types.specs.State.Lists.{first_each}
use Rattle.ns_types.proofs.Decided.{decide_world, decided_world}
use Rattle.ns_types.proofs.Gone.{evicted_row, stopped_row, evicted_are, stopped_are}
use Rattle.ns_types.proofs.Leads.{Leads, leads_if, leads_keeping}
use Rattle.ns_types.proofs.Less.{allocation_then, nodes_stay}
use Rattle.ns_types.proofs.Lists.{not_both}
use Rattle.ns_types.proofs.Named.{numbers, one_number, same_name_is, first_of_both, second_of_both}
use Rattle.ns_types.proofs.Once.{key_is}
use Rattle.ns_types.proofs.TableRows.{any_append, get_put, get_other, row_of_insert}
use Rattle.ns_types.proofs.Tables.{tied}
use Rattle.ns_types.proofs.Tests.{not_Some, same_Some, is_no}
use Rattle.ns_audit.proofs.ValidAllocations.Going.{Onward, onward_same, onward_change, onward_then, onward_each}
use Rattle.ns_laws.specs.Ending.{AppliesPlan, HasEnded, IsUnchangedJob, runs, ended, IsPlacedBy}
use Rattle.ns_laws.proofs.Elements.{Has, contains_from, has_filter, has_flat}
use Rattle.ns_laws.proofs.Endings.Rows.{moves_put, Same, same_still, same_then, same_put, same_make}
use Rattle.ns_laws.proofs.Endings.Change.{PlanEnds, left, stops, evicts, PlanChange, cuts, places, Moves, moves_same, moves_then, plans}

-- ---- elements of lists

module _ {A : Type 0} where
  -- a key of a list of elements' keys is the key of one of them
  pub of_keys : (f : A → Key) (xs : List A) (key : Key) → has_key (map f xs) key ≡ true → (x : A) × Has xs x × (key ≡ f x)
  of_keys f [] key e = absurd (subst T (sym e) tt)
  of_keys f (x ∷ xs) key e = by (of_keys f xs key) (same_key key (f x)) refl e
    where
      by : (has_key (map f xs) key ≡ true → (y : A) × Has xs y × (key ≡ f y)) → (b : Bool) → same_key key (f x) ≡ b →
          (b || has_key (map f xs) key) ≡ true → (y : A) × Has (x ∷ xs) y × (key ≡ f y)
      by later true t e = (x, inl refl, key_is key (f x) t)
      by later false t e = let r = later e in (r.0, inr r.1, r.2)

-- ---- numbers of allocations

-- the numbers of a namespace's allocations are not above the last one that it gave
abbrev pub Below : Tenant → Type 0
Below t = (n : ℕ) (a : Allocation) → get t.allocations n ≡ Some a → n ≤ t.allocation_number

pub record Counts (t t' : Tenant) : Type 0 where
  pub number : t.allocation_number ≤ t'.allocation_number
  pub below : Below t → Below t'

counts_quiet : (t t' : Tenant) → t'.allocations ≡ t.allocations → t'.allocation_number ≡ t.allocation_number → Counts t t'
counts_quiet t t' same number = record {
  number = omega (arith, number);
  below = λ below n a at. let h = below n a (sym (ap (λ m. get m n) same) ∙ at) in omega (arith, number, h);
}

pub counts_still : (t : Tenant) → Counts t t
counts_still t = counts_quiet t t refl refl

pub counts_then : (t u v : Tenant) → Counts t u → Counts u v → Counts t v
counts_then t u v a b = record {
  number = let h = a.number in let k = b.number in omega (arith, h, k);
  below = λ below. b.below (a.below below);
}

counts_desired : (n : ℕ) (d : DesiredStatus) (t : Tenant) → Counts t (with_desired n d t)
counts_desired n d t = by (get t.allocations n) refl
  where
    by : (o : Option Allocation) → get t.allocations n ≡ o →
        Counts t (option_map_or (λ a. record t { allocations = insert t.allocations n (record a { desired = d }) }) o t)
    by None is = counts_still t
    by (Some a) is = record { number = omega arith; below = λ below m x at. row below m x at }
      where
        row : Below t → (m : ℕ) (x : Allocation) → get (insert t.allocations n (record a { desired = d })) m ≡ Some x → m ≤ t.allocation_number
        row below m x at = which (row_of_insert numbers one_number t.allocations n (record a { desired = d }) m x at)
          where
            which : ((m ≡ n) × (record a { desired = d } ≡ x)) ⊎ (get t.allocations m ≡ Some x) → m ≤ t.allocation_number
            which (inl e) = below m a (ap (get t.allocations) e.0 ∙ is)
            which (inr old) = below m x old

pub stops_count : (ns_ : List ℕ) (t : Tenant) → Counts t (fold (λ x n. with_desired n DesiredStatus.Stop x) t ns_)
stops_count [] t = counts_still t
stops_count (n ∷ ns_) t = counts_then t (with_desired n DesiredStatus.Stop t)
    (fold (λ x n. with_desired n DesiredStatus.Stop x) (with_desired n DesiredStatus.Stop t) ns_) (counts_desired n DesiredStatus.Stop t)
    (stops_count ns_ (with_desired n DesiredStatus.Stop t))

evicted_count : (vs : List Eviction) (w : World) → Onward Counts w (evict_all w vs)
evicted_count vs w = onward_each Counts counts_still counts_then evict
    (λ x v. onward_change Counts counts_still x v.namespace (with_desired v.number DesiredStatus.Evict)
    (λ t _. counts_desired v.number DesiredStatus.Evict t)) vs w

pub decided_count : (w : World) (kept : Snapshot) (ps : List Placement) (ks : List ℕ) (c : Commit) → Onward Counts w c.world →
    Onward Counts w (fold (decide kept ps) c ks).world
decided_count w = decided_world (Onward Counts w) (λ vs x h. onward_then Counts counts_still counts_then w x (evict_all x vs) h (evicted_count vs x))

-- ---- stops

module _ (w : World) (step : Step) (kept : Snapshot) (applies : AppliesPlan w step kept.namespace kept) (t : Tenant)
    (is : get w.tenants kept.namespace ≡ Some t) (below : (k : Name) (u : Tenant) → get w.tenants k ≡ Some u → Below u) where
  abbrev ps : List Placement
  ps = (plan kept).placing.placements

  abbrev live : List ℕ
  live = live_stops t (plan kept).stops

  abbrev stop_keys : List Key
  stop_keys = map (λ n. (kept.namespace, n)) live

  abbrev stopped : World
  stopped = stop_all kept.namespace live w

  abbrev Cuts : World → Type 0
  Cuts x = (key : Key) → PlanEnds w step key (allocation_at w key) (allocation_at x key)

  stop_at : (key : Key) (o : Option Allocation) → allocation_at w key ≡ o → (b : Bool) → has_key stop_keys key ≡ b →
      PlanEnds w step key o (option_map (λ a. cond b (stopped_row a) a) o)
  stop_at key None at b e = left refl
  stop_at key (Some a) at false e = left refl
  stop_at key (Some a) at true e =
      let r = of_keys (λ n. (kept.namespace, n)) live key e in
      let q = has_filter (λ n. option_map_or is_live (get t.allocations n) false) (plan kept).stops r.0 r.1 in
      let ns_is : key.0 ≡ kept.namespace = ap (λ k. k.0) r.2 in
      let n_is : key.1 ≡ r.0 = ap (λ k. k.1) r.2 in
      let row : get t.allocations r.0 ≡ Some a =
      sym (ap (λ k. allocation_at w k) r.2 ∙ ap (option_and_then (λ (t : Tenant). get t.allocations r.0)) is) ∙ at in
      stops a refl (ap (λ o. option_map_or is_live o false) (sym row) ∙ q.1) refl (record {
        kept = kept;
        applies = subst (λ k. AppliesPlan w step k kept) (sym ns_is) applies;
        is_stop = contains_from (plan kept).stops key.1 (subst (Has (plan kept).stops) (sym n_is) q.0);
      })

  stopped_cuts : Cuts stopped
  stopped_cuts key = subst (PlanEnds w step key (allocation_at w key))
      (sym (ap (λ x. allocation_at x key) (stopped_are kept.namespace live w) ∙ allocation_then stopped_row (λ a. refl) w stop_keys key))
      (stop_at key (allocation_at w key) refl (has_key stop_keys key) refl)

  -- ---- evictions

  -- what is live on the way was as it is
  live_was : (key : Key) (o : Option Allocation) (a : Allocation) → PlanEnds w step key o (Some a) → is_live a ≡ true → o ≡ Some a
  live_was key o a (left e) lives = sym e
  live_was key o a (stops b was lived e by) lives = not_both lives (ap is_live (same_Some _ _ e))
  live_was key o a (evicts b was lived e by) lives = not_both lives (ap is_live (same_Some _ _ e))

  module _ (x : World) (h : Cuts x) (k : ℕ) where
    abbrev vs : List Eviction
    vs = victims_of x kept (part_of k ps)

    -- the row that counts
    counted_row : (o : Option Allocation) (a : Allocation) (pool node : Name) (n : ℕ) → o ≡ Some a →
        option_map_or (λ a. is_live_on pool node a && same_number a.priority n) o false ≡ true → (is_live_on pool node a && same_number a.priority n) ≡ true
    counted_row o a pool node n is e = ap (λ o. option_map_or (λ a. is_live_on pool node a && same_number a.priority n) o false) (sym is) ∙ e

    count_at : (key : Key) (a : Allocation) (e : Eviction) (node : Name) → key ≡ victim_key e → allocation_at x key ≡ Some a →
        counts x kept.pool node e ≡ true → (is_live_on kept.pool node a && same_number a.priority e.priority) ≡ true
    unfolding counts
    count_at key a e node same at counts =
        counted_row (allocation_at x (victim_key e)) a kept.pool node e.priority (sym (ap (allocation_at x) same) ∙ at) counts

    evict_at : (key : Key) (o : Option Allocation) → allocation_at x key ≡ o → (b : Bool) → has_key (map victim_key vs) key ≡ b →
        PlanEnds w step key (allocation_at w key) o → PlanEnds w step key (allocation_at w key) (option_map (λ a. cond b (evicted_row a) a) o)
    evict_at key None at b e was = was
    evict_at key (Some a) at false e was = was
    evict_at key (Some a) at true e was =
        let r = of_keys victim_key vs key e in
        let p = has_flat (victims_in x kept) r.0 (part_of k ps) r.1 in
        let q = has_filter (counts x kept.pool (node_name kept p.0.node)) p.0.evictions r.0 p.2 in
        let c = count_at key a r.0 (node_name kept p.0.node) r.2 at q.1 in
        let on = first_of_both (is_live_on kept.pool (node_name kept p.0.node) a) _ c in
        let there = second_of_both (is_live a) _ on in
        let lives = first_of_both (is_live a) _ on in
        evicts a (live_was key (allocation_at w key) a was lives) lives refl (record {
          ns = kept.namespace;
          kept = kept;
          applies = applies;
          placement = p.0;
          is_planned = contains_from ps p.0 (has_filter (λ p. same_number p.node k) ps p.0 p.1).0;
          pool = sym (same_name_is kept.pool a.pool (first_of_both (same_name kept.pool a.pool) _ there));
          node = sym (same_name_is (node_name kept p.0.node) a.node (second_of_both (same_name kept.pool a.pool) _ there));
          eviction = r.0;
          is_evicted = contains_from p.0.evictions r.0 q.0;
          namespace = ap (λ k. k.0) (sym r.2);
          number = ap (λ k. k.1) (sym r.2);
          priority = sym (tied one_number a.priority r.0.priority
              (second_of_both (is_live_on kept.pool (node_name kept p.0.node) a) (same_number a.priority r.0.priority) c));
        })

    evicted_cuts : Cuts (evict_all x vs)
    evicted_cuts key = subst (PlanEnds w step key (allocation_at w key))
        (sym (ap (λ x. allocation_at x key) (evicted_are vs x) ∙ allocation_then evicted_row (λ a. refl) x (map victim_key vs) key))
        (evict_at key (allocation_at x key) refl (has_key (map victim_key vs) key) refl (h key))

  decided_cuts : (ks : List ℕ) (c : Commit) → Cuts c.world → Cuts (fold (decide kept ps) c ks).world
  decided_cuts [] c h = h
  decided_cuts (k ∷ ks) c h = decided_cuts ks (decide kept ps c k) (decide_world Cuts kept ps c k (evicted_cuts c.world h k) h)

  -- ---- what may be placed

  -- the job is there, to run, and as it was in the snapshot
  record IsFresh (j : Job) : Type 0 where
    present : Job
    is_present : get t.jobs kept.evaluation.job ≡ Some present
    runs : present.stop ≡ false
    version : j.modify_index ≡ present.modify_index

  -- the node at that place of the snapshot is there, ready and eligible
  record IsFreeAt (k : ℕ) : Type 0 where
    node : Node
    there : node_at w kept.pool (node_name kept k) ≡ Some node
    ready : node.status ≡ NodeStatus.Ready
    eligible : node.eligible ≡ true

  record MayPlace (p : Placement) : Type 0 where
    planned : Has ps p
    free : IsFreeAt p.node
    fresh : (j : Job) → kept.job ≡ Some j → IsFresh j

  -- the nodes are as they were, and the committed ones are free
  record AreFree (c : Commit) : Type 0 where
    nodes : (name : Name) → node_at c.world kept.pool name ≡ node_at w kept.pool name
    free : (k : ℕ) → has_number c.committed k ≡ true → IsFreeAt k

  ready_is : (status : NodeStatus) → is_ready status ≡ true → status ≡ NodeStatus.Ready
  ready_is NodeStatus.Ready e = refl
  ready_is NodeStatus.Down e = absurd (subst T (sym e) tt)

  accepted_free : (x : World) (k : ℕ) (part : List Placement) (taken : Resources) → node_at x kept.pool (node_name kept k) ≡
      node_at w kept.pool (node_name kept k) →
      accepts_at kept x (node_name kept k) part taken ≡ true → IsFreeAt k
  accepted_free x k part taken same accepted = by (node_at x kept.pool (node_name kept k)) refl accepted
    where
      by : (o : Option Node) → node_at x kept.pool (node_name kept k) ≡ o →
          option_map_or (accepts kept x (node_name kept k) part taken) o false ≡ true → IsFreeAt k
      by None at e = absurd (subst T (sym e) tt)
      by (Some node) at e =
          let feasible = first_of_both (is_feasible (constraints_of kept.job) (node_name kept k) node) _ (first_of_both _ _ e) in
          let free = first_of_both (is_free node) _ feasible in record {
            node = node;
            there = sym same ∙ at;
            ready = ready_is node.status (first_of_both (is_ready node.status) node.eligible free);
            eligible = second_of_both (is_ready node.status) node.eligible free;
          }

  decide_free : (c : Commit) (k : ℕ) → AreFree c → AreFree (decide kept ps c k)
  unfolding decide
  decide_free c k h = by (accepts_at kept x (node_name kept k) (part_of k ps) c.placed) refl
    where
      x : World
      x = evict_all c.world (victims_of c.world kept (part_of k ps))

      nodes : (name : Name) → node_at (evict_all c.world (victims_of c.world kept (part_of k ps))) kept.pool name ≡ node_at w kept.pool name
      nodes name = ap (λ x. node_at x kept.pool name) (evicted_are (victims_of c.world kept (part_of k ps)) c.world)
          ∙ nodes_stay evicted_row (λ a. refl) c.world (map victim_key (victims_of c.world kept (part_of k ps))) kept.pool name ∙ h.nodes name

      by : (b : Bool) → accepts_at kept (evict_all c.world (victims_of c.world kept (part_of k ps))) (node_name kept k) (part_of k ps) c.placed ≡ b →
          AreFree (cond b (record {
            world = evict_all c.world (victims_of c.world kept (part_of k ps));
            placed = plus c.placed (size_of (part_of k ps));
            committed = c.committed ++ k ∷ [];
            dropped = c.dropped;
          }) (record c { dropped = c.dropped ++ k ∷ [] }))
      by false e = record { nodes = h.nodes; free = h.free }
      by true e = record { nodes = nodes; free = λ m has. which m (any_append (same_number m) c.committed (k ∷ []) has) }
        where
          here : (m : ℕ) (b : Bool) → same_number m k ≡ b → (b || false) ≡ true → IsFreeAt m
          here m true t _ = subst IsFreeAt (sym (tied one_number m k t))
              (accepted_free (evict_all c.world (victims_of c.world kept (part_of k ps))) k (part_of k ps) c.placed (nodes (node_name kept k)) e)
          here m false t none = absurd (subst T (sym none) tt)

          which : (m : ℕ) → (has_number c.committed m ≡ true) ⊎ (has_number (k ∷ []) m ≡ true) → IsFreeAt m
          which m (inl has) = h.free m has
          which m (inr last) = here m (same_number m k) refl last

  decided_free : (ks : List ℕ) (c : Commit) → AreFree c → AreFree (fold (decide kept ps) c ks)
  decided_free [] c h = h
  decided_free (k ∷ ks) c h = decided_free ks (decide kept ps c k) (decide_free c k h)

  begun_free : AreFree (begun stopped)
  begun_free = record {
    nodes = λ name. ap (λ x. node_at x kept.pool name) (stopped_are kept.namespace live w)
        ∙ nodes_stay stopped_row (λ a. refl) w stop_keys kept.pool name;
    free = λ k has. absurd (subst T (sym has) tt);
  }

  -- a plan for a stopped job places nothing
  stopped_places_none : (o : Option Job) (j : Job) → o ≡ Some j → j.stop ≡ true → (own : List OwnAllocation) → (placing_of kept o own).placements ≡ []
  stopped_places_none None j is stop own = refl
  stopped_places_none (Some i) j is stop own =
      ap (λ b. (place (quota_of kept) (cond b [] (demands_from 0 i kept.own i.document.groups)) (opening kept i own)).placements)
      (ap (λ (j : Job). j.stop) (same_Some i j is) ∙ stop)

  planned_runs : (p : Placement) → Has ps p → (j : Job) → kept.job ≡ Some j → j.stop ≡ false
  unfolding plan
  planned_runs p planned j is = by j.stop refl
    where
      by : (b : Bool) → j.stop ≡ b → b ≡ false
      by false e = refl
      by true e = absurd (subst (λ qs. Has qs p) (stopped_places_none kept.job j is e (stopping kept.job kept.own)) planned)

  stands_fresh : still_stands kept.job (get t.jobs kept.evaluation.job) ≡ true → (p : Placement) → Has ps p → (j : Job) → kept.job ≡ Some j → IsFresh j
  stands_fresh stands p planned j is = by (get t.jobs kept.evaluation.job) refl
      (ap (λ b. cond b (has_ended (get t.jobs kept.evaluation.job)) (not (has_ended (get t.jobs kept.evaluation.job)) &&
      same_version (Some j) (get t.jobs kept.evaluation.job))) (sym (planned_runs p planned j is))
      ∙ ap (λ o. still_stands o (get t.jobs kept.evaluation.job)) (sym is) ∙ stands)
    where
      by : (o : Option Job) → get t.jobs kept.evaluation.job ≡ o → (not (has_ended o) && same_version (Some j) o) ≡ true → IsFresh j
      by None at e = absurd (subst T (sym e) tt)
      by (Some i) at e = record {
        present = i;
        is_present = at;
        runs = is_no i.stop (first_of_both (not i.stop) _ e);
        version = tied one_number j.modify_index i.modify_index (second_of_both (not i.stop) _ e);
      }

  -- ---- placements

  abbrev Plans : World → Type 0
  Plans x = (key : Key) → PlanChange w step key (allocation_at w key) (allocation_at x key)

  none_was : (key : Key) (o o' : Option Allocation) → o' ≡ None → PlanChange w step key o o' → o ≡ None
  none_was key o o' none (cuts (left e)) = sym e ∙ none
  none_was key o o' none (cuts (stops b was lived e by)) = absurd (not_Some _ (sym none ∙ e))
  none_was key o o' none (cuts (evicts b was lived e by)) = absurd (not_Some _ (sym none ∙ e))
  none_was key o o' none (places b was e by) = absurd (not_Some _ (sym none ∙ e))

  module _ (p : Placement) (may : MayPlace p) (j : Job) (is_job : kept.job ≡ Some j) (node : Node) where
    abbrev new : Allocation
    new = new_allocation kept j p node

    module _ (x : World) (counts : Onward Counts w x) (u : Tenant) (there : get x.tenants kept.namespace ≡ Some u) where
      abbrev next : ℕ
      next = u.allocation_number + 1

      none_there : (n : ℕ) → n ≡ next → (o : Option Allocation) → get u.allocations n ≡ o → o ≡ None
      none_there n e None at = refl
      none_there n e (Some a) at =
          let c = counts kept.namespace u there in
          let h = c.2.below (below kept.namespace c.0 c.1) n a at in
          let no : ⊥ = omega (arith, h, e) in absurd no

      placed_by : (n : ℕ) → n ≡ next → IsPlacedBy w step (kept.namespace, n) new
      placed_by n e =
          let c = counts kept.namespace u there in
          let h : t.allocation_number ≤ u.allocation_number =
          subst (λ (v : Tenant). v.allocation_number ≤ u.allocation_number) (same_Some c.0 t (sym c.1 ∙ is)) c.2.number in
          let fresh = may.fresh j is_job in record {
            before = t;
            was_there = is;
            is_new = omega (arith, h, e);
            kept = kept;
            applies = applies;
            placement = p;
            is_planned = contains_from ps p may.planned;
            planned = j;
            is_in_snapshot = is_job;
            job = fresh.present;
            is_job = fresh.is_present;
            is_not_stopped = fresh.runs;
            row = may.free.node;
            is_row = may.free.there;
            is_ready = may.free.ready;
            is_eligible = may.free.eligible;
            is_of_job = refl;
            group = refl;
            evaluation = refl;
            pool = refl;
            node = refl;
            size = refl;
            priority = refl;
            version = fresh.version;
            is_to_run = refl;
            is_pending = refl;
          }

      placed_at : (n : ℕ) → PlanChange w step (kept.namespace, n) (allocation_at w (kept.namespace, n)) (get u.allocations n) →
          PlanChange w step (kept.namespace, n) (allocation_at w (kept.namespace, n)) (get (insert u.allocations next new) n)
      placed_at n was = by (same_number n next) refl
        where
          by : (b : Bool) → same_number n next ≡ b →
              PlanChange w step (kept.namespace, n) (allocation_at w (kept.namespace, n)) (get (insert u.allocations next new) n)
          by true e =
              let n_is : n ≡ next = tied one_number n next e in
              places new (none_was (kept.namespace, n) _ (get u.allocations n) (none_there n n_is (get u.allocations n) refl) was)
              (ap (get (insert u.allocations next new)) n_is ∙ get_put numbers one_number u.allocations next new) (placed_by n n_is)
          by false e = subst (PlanChange w step (kept.namespace, n) (allocation_at w (kept.namespace, n)))
              (sym (get_other numbers one_number u.allocations next new n e)) was

  module _ (p : Placement) where
    counts_new : (a : Allocation) (u : Tenant) → Counts u (with_allocation a u)
    counts_new a u = record { number = omega arith; below = λ below n x at. row below n x (row_of_insert numbers one_number u.allocations _ a n x at) }
      where
        row : Below u → (n : ℕ) (x : Allocation) → ((n ≡ u.allocation_number + 1) × (a ≡ x)) ⊎ (get u.allocations n ≡ Some x) → n ≤ u.allocation_number + 1
        row below n x (inl e) = let h = e.0 in omega (arith, h)
        row below n x (inr old) = let h = below n x old in omega (arith, h)

    counted_counts : (x y : World) (node : Node) → Onward Counts x y → (o : Option PoolRows) →
        Onward Counts x (option_map_or (λ p'. put_pool kept.pool (with_place (node_name kept p.node) node p') y) o y)
    counted_counts x y node h None = h
    counted_counts x y node h (Some p') = h

    pub placed_count : (x : World) → Onward Counts x (place_one kept x p)
    unfolding place_one
    placed_count x = job kept.job
      where
        node : (j : Job) (o : Option Node) → Onward Counts x (option_map_or (place_with kept p x j) o x)
        node j None = onward_same Counts counts_still x x refl
        node j (Some n) =
            let y = change_tenant kept.namespace (with_allocation (new_allocation kept j p n)) x in
            counted_counts x y n (onward_change Counts counts_still x kept.namespace (with_allocation (new_allocation kept j p n))
            (λ u _. counts_new (new_allocation kept j p n) u)) (get y.pools kept.pool)

        job : (o : Option Job) → Onward Counts x (option_map_or (λ job. option_map_or (place_with kept p x job)
            (node_at x kept.pool (node_name kept p.node)) x) o x)
        job None = onward_same Counts counts_still x x refl
        job (Some j) = node j (node_at x kept.pool (node_name kept p.node))

    counted_plans : (y : World) (node : Node) → Plans y → (o : Option PoolRows) →
        Plans (option_map_or (λ p'. put_pool kept.pool (with_place (node_name kept p.node) node p') y) o y)
    counted_plans y node h None = h
    counted_plans y node h (Some p') = h

    placed_plans : MayPlace p → (x : World) → Onward Counts w x → Plans x → Plans (place_one kept x p)
    unfolding place_one
    placed_plans may x counts h = job kept.job refl
      where
        tenant : (j : Job) → kept.job ≡ Some j → (n : Node) (o : Option Tenant) → get x.tenants kept.namespace ≡ o →
            Plans (option_map_or (λ t. put_tenant kept.namespace (with_allocation (new_allocation kept j p n) t) x) o x)
        tenant j e n None there = h
        tenant j e n (Some u) there = λ key. moves_put (λ k o o'. PlanChange w step k (allocation_at w k) o → PlanChange w step k (allocation_at w k) o')
            (λ k o was. was) x kept.namespace u (with_allocation (new_allocation kept j p n) u) there (placed_at p may j e n x counts u there) key (h key)

        node : (j : Job) → kept.job ≡ Some j → (o : Option Node) → Plans (option_map_or (place_with kept p x j) o x)
        node j e None = h
        node j e (Some n) =
            let y = change_tenant kept.namespace (with_allocation (new_allocation kept j p n)) x in
            counted_plans y n (tenant j e n (get x.tenants kept.namespace) refl) (get y.pools kept.pool)

        job : (o : Option Job) → kept.job ≡ o →
            Plans (option_map_or (λ job. option_map_or (place_with kept p x job) (node_at x kept.pool (node_name kept p.node)) x) o x)
        job None e = h
        job (Some j) e = node j e (node_at x kept.pool (node_name kept p.node))

  all_placed : (qs : List Placement) → ((q : Placement) → Has qs q → MayPlace q) → (x : World) → Onward Counts w x → Plans x →
      Plans (place_all kept x qs)
  all_placed [] planned x counts h = h
  all_placed (q ∷ qs) planned x counts h = all_placed qs (λ p is. planned p (inr is)) (place_one kept x q)
      (onward_then Counts counts_still counts_then w x (place_one kept x q) counts (placed_count q x))
      (placed_plans q (planned q (inl refl)) x counts h)

  -- ---- the whole

  plans_then : (x y : World) → Plans x → Same x y → Plans y
  plans_then x y h k key = subst (PlanChange w step key (allocation_at w key)) (sym (k key)) (h key)

  evaluated_same : (victims vs : List Victim) (x : World) →
      Same x (fold (λ x v. make v.0 (λ t. evaluation_for t (least_of_job victims v) Trigger.Preemption) x) x vs)
  evaluated_same victims [] x = same_still x
  evaluated_same victims (v ∷ vs) x = same_then x y (fold (λ x v. make v.0 (λ t. evaluation_for t (least_of_job victims v) Trigger.Preemption) x) y vs)
      (same_make v.0 (λ t. evaluation_for t (least_of_job victims v) Trigger.Preemption) x) (evaluated_same victims vs y)
    where
      y : World
      y = make v.0 (λ t. evaluation_for t (least_of_job victims v) Trigger.Preemption) x

  pub made_up_same : (victims : List Victim) (x : World) → Same x (make_up victims x)
  unfolding make_up
  made_up_same victims x = evaluated_same victims (first_each same_victim_job victims) x

  abbrev decided : Commit
  decided = fold (decide kept ps) (begun stopped) (nodes_in ps)

  abbrev placed : List Placement
  placed = committed_placements decided ps

  done_plans : still_stands kept.job (get t.jobs kept.evaluation.job) ≡ true → Plans (done kept (plan kept) w t).world
  done_plans stands = plans_then (place_all kept decided.world placed) (make_up (evicted_rows stopped kept placed) (place_all kept decided.world placed))
      (all_placed placed may decided.world
      (decided_count w kept ps (nodes_in ps) (begun stopped)
      (onward_change Counts counts_still w kept.namespace (λ u. fold (λ x n. with_desired n DesiredStatus.Stop x) u live) (λ u _. stops_count live u)))
      (λ key. cuts (decided_cuts (nodes_in ps) (begun stopped) stopped_cuts key)))
      (made_up_same (evicted_rows stopped kept placed) (place_all kept decided.world placed))
    where
      may : (q : Placement) → Has placed q → MayPlace q
      may q is =
          let r = has_filter (λ p. has_number decided.committed p.node) ps q is in
          record { planned = r.0; free = (decided_free (nodes_in ps) (begun stopped) begun_free).free q.node r.1; fresh = stands_fresh stands q r.0 }

  pub commit_plans : Plans (commit kept (plan kept) w t).world
  unfolding commit
  commit_plans = by (still_stands kept.job (get t.jobs kept.evaluation.job)) refl
    where
      by : (b : Bool) → still_stands kept.job (get t.jobs kept.evaluation.job) ≡ b →
          Plans (cond b (done kept (plan kept) w t) (refused_whole kept (plan kept) w)).world
      by true stands = done_plans stands
      by false _ = λ key. cuts (left refl)

pub same_change : (ns : Name) (f : Tenant → Tenant) → ((t : Tenant) → (f t).allocations ≡ t.allocations) → (x : World) → Same x (change_tenant ns f x)
same_change ns f keeps x = by (get x.tenants ns) refl
  where
    by : (o : Option Tenant) → get x.tenants ns ≡ o → Same x (option_map_or (λ t. put_tenant ns (f t) x) o x)
    by None is = same_still x
    by (Some t) is = same_put x (put_tenant ns (f t) x) ns t (f t) is (keeps t) refl

-- ---- the job is as it was in the snapshot

ended_is : (o : Option Job) → has_ended o ≡ true → HasEnded o
ended_is None e job is = absurd (not_Some job is)
ended_is (Some i) e job is = ap (λ (j : Job). j.stop) (sym (same_Some i job is)) ∙ e

pub stands_current : (planned present : Option Job) → still_stands planned present ≡ true → IsUnchangedJob planned present
stands_current None present h = ended (λ job is. absurd (not_Some job is)) (ended_is present h)
stands_current (Some a) present h = by a.stop refl h
  where
    now : (o : Option Job) → a.stop ≡ false → (not (has_ended o) && same_version (Some a) o) ≡ true → IsUnchangedJob (Some a) o
    now None e h = absurd (subst T (sym h) tt)
    now (Some b) e h = runs a b refl refl e (is_no b.stop (first_of_both (not b.stop) _ h))
        (tied one_number a.modify_index b.modify_index (second_of_both (not b.stop) _ h))

    by : (b : Bool) → a.stop ≡ b → cond b (has_ended present) (not (has_ended present) && same_version (Some a) present) ≡ true →
        IsUnchangedJob (Some a) present
    by true e h = ended (λ job is. ap (λ (j : Job). j.stop) (sym (same_Some a job is)) ∙ e) (ended_is present h)
    by false e h = now present e h

pub applies_plan : (w : World) (ns : Name) (number : ℕ) (t : Tenant) (worker : Worker) (kept : Snapshot) → get w.tenants ns ≡ Some t →
    get t.workers number ≡ Some worker → worker.kept ≡ Some kept → still_stands kept.job (get t.jobs kept.evaluation.job) ≡ true →
    AppliesPlan w (Step.Apply number ns) ns kept
applies_plan w ns number t worker kept is has keeps stands = record {
  number = number;
  is_apply = refl;
  worker = worker;
  is_worker = ap (option_and_then (λ (t : Tenant). get t.workers number)) is ∙ has;
  is_kept = keeps;
  is_current = subst (IsUnchangedJob kept.job) (sym (ap (option_and_then (λ (t : Tenant). get t.jobs kept.evaluation.job)) is))
      (stands_current kept.job (get t.jobs kept.evaluation.job) stands);
}

-- a plan that does not stand changes nothing
pub stale_leaves : (kept : Snapshot) (w : World) (t : Tenant) → still_stands kept.job (get t.jobs kept.evaluation.job) ≡ false →
    (commit kept (plan kept) w t).world ≡ w
unfolding commit
stale_leaves kept w t stale = ap (λ b. (cond b (done kept (plan kept) w t) (refused_whole kept (plan kept) w)).world) stale

pub apply_moves : (w : World) → IsSound w → (ns : Name) (number : ℕ) → Leads (Moves w (Step.Apply number ns)) (apply number ns w)
unfolding apply
apply_moves w sound ns number = leads_keeping (Moves w step) number ns w (apply_for number ns w) (λ t worker e kept is has _ keeps.
    leads_if (Moves w step) (is_submitted worker.phase && is_served w w.plans (ns, worker.evaluation))
    (applied number ns worker e (commit kept (plan kept) w t))
    NotEnabled (λ _. by worker e (commit kept (plan kept) w t) (committed t worker kept is has keeps)) (λ _. tt))
  where
    step : Step
    step = Step.Apply number ns

    by : (worker : Worker) (e : Evaluation) (a : Applied) → Moves w step a.world → Leads (Moves w step) (applied number ns worker e a)
    by worker e a h = moves_then w step a.world (change_tenant ns (with_worker number (applied_worker a worker e)) a.world) h
        (same_change ns (with_worker number (applied_worker a worker e)) (λ t. refl) a.world)

    committed : (t : Tenant) (worker : Worker) (kept : Snapshot) → get w.tenants ns ≡ Some t → get t.workers number ≡ Some worker →
        worker.kept ≡ Some kept → Moves w step (commit kept (plan kept) w t).world
    committed t worker kept is has keeps = which (still_stands kept.job (get t.jobs kept.evaluation.job)) refl
      where
        its : kept.namespace ≡ ns
        its = (((sound.tenant ns t is).worker number worker has).snapshot kept keeps).namespace

        which : (b : Bool) → still_stands kept.job (get t.jobs kept.evaluation.job) ≡ b → Moves w step (commit kept (plan kept) w t).world
        which true stands = λ key.
            plans (commit_plans w step kept (subst (λ k. AppliesPlan w step k kept) (sym its) (applies_plan w ns number t worker kept is has keeps stands)) t
            (ap (get w.tenants) its ∙ is) (λ k u at n a row. ((sound.tenant k u at).allocation n a row).below) key)
        which false stale = subst (Moves w step) (sym (stale_leaves kept w t stale)) (moves_same w step w (same_still w))
