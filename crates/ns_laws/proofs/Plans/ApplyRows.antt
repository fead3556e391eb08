-- What Apply places becomes new allocations, node by node.
use Rattle.std.specs.Prelude.{◌≡◌, ℕ, zero, suc, ◌+◌, ◌≤◌, Bool, true, false, cond, ◌&&◌, List, [], ◌∷◌, ◌++◌}
use Rattle.std.specs.Prelude.{Option, Some, None, filter, fold, is_some, length, map, not, option_map, slice_get, ◌||◌, ◌⊎◌}
use Rattle.std.proofs.Common.{refl, sym, ap, subst, ◌∙◌, arith, inl, inr}
use Rattle.std.specs.FinMap.{contains_key-keys, from_entries, get, get-from_entries, get-insert, insert}
use Rattle.std.specs.FinMap.Entries.{find}
use Rattle.std.proofs.lemmas.Bool.{or_right}
use Rattle.std.proofs.lemmas.List.Folds.{list_any-append}
use Rattle.std.specs.Option.{option_and_then, option_map_or}
use Rattle.ns_types.specs.declared.allocation.Allocation.{Allocation}
use Rattle.ns_types.specs.declared.allocation.DesiredStatus.{DesiredStatus}
use Rattle.ns_types.specs.declared.evaluation.Evaluation.{Evaluation}
use Rattle.ns_types.specs.declared.evaluation.Trigger.TheVariants as Trigger
use Rattle.ns_types.specs.declared.job.Group.{Group}
use Rattle.ns_types.specs.declared.job.Job.{Job}
use Rattle.ns_types.specs.declared.node.Node.{Node}
use Rattle.ns_types.specs.declared.plan.Eviction.{Eviction}
use Rattle.ns_types.specs.declared.plan.Placement.{Placement}
use Rattle.ns_types.specs.declared.reply.Content as content
use Rattle.ns_types.specs.declared.reply.Content.TheVariants as Content
use Rattle.ns_types.specs.declared.reply.Reply.{Reply}
use Rattle.ns_types.specs.declared.snapshot.PoolNode.{PoolNode}
use Rattle.ns_types.specs.declared.snapshot.Snapshot.{Snapshot}
use Rattle.ns_types.specs.Placing.Constraint.{is_feasible}
use Rattle.ns_types.specs.Placing.Plan.{constraints_of, plan}
use Rattle.ns_types.specs.Settling.Making.{change_tenant, evaluation_for, make, make_in, put_pool, put_tenant, with_desired}
use Rattle.ns_types.specs.Settling.Releases.{woken}
use Rattle.ns_types.specs.Settling.Settle.{changes_allocation, created_at, is_touched, settle, stamp_tenant, stamped, stamped_allocation, unblocked_in}
use Rattle.ns_types.specs.State.Lists.{Each, first_each, sorted_names}
use Rattle.ns_types.specs.State.Names.{Name, has_name, has_number, name_cmp, same_name, same_number}
use Rattle.ns_types.specs.State.Rows.{State, World, Tenant, PoolRows, node_at}
use Rattle.ns_types.specs.Validity.{IsValid}
use Rattle.ns_types.specs.Working.Commit.{Commit, Victim, applied_worker, begun, commit, committed_placements, counted}
use Rattle.ns_types.specs.Working.Commit.{decide, done, evict, evict_all, evicted_rows, least_of_job, live_stops, make_up, new_allocation}
use Rattle.ns_types.specs.Working.Commit.{names_in, node_name, nodes_in, numbers_after, part_of}
use Rattle.ns_types.specs.Working.Commit.{place_all, place_one, place_with, refused_whole, same_victim_job}
use Rattle.ns_types.specs.Working.Commit.{still_stands, stop_all, victims_of, with_allocation, with_place}
use Rattle.ns_types.specs.Working.Work.{with_worker}
use Rattle.ns_types.specs.Working.Worker.{Worker}
use Rattle.ns_types.proofs.Elements.{any_kept, each_append, each_kept, each_still}
use Rattle.ns_types.proofs.Lists.{each, each_map, filter_none, not_both}
use Rattle.ns_types.proofs.Named.{names, numbers, one_number, other_number, same_name_refl, same_number_refl}
use Rattle.ns_types.proofs.TableRows.{get_put, get_other}
use Rattle.ns_types.proofs.Tables.{get-map_rows, tied}
use Rattle.ns_types.proofs.Tests.{either_of, not_Some, same_Some}
use Rattle.ns_audit.proofs.ValidAllocations.Going.{Onward, onward_change, onward_each, onward_make_in, onward_same, onward_then}
use Rattle.ns_audit.proofs.ValidAllocations.Placing.{all_placed_last, none_placed}
use Rattle.ns_audit.proofs.ValidAllocations.Room.{each_has}
use Rattle.ns_laws.specs.Planning as law
use Rattle.ns_laws.proofs.Effect.Rows.{put_there, settled_rows, settled_tenant}
use Rattle.ns_laws.proofs.Plans.ApplyStep.{after_apply, marked}
use Rattle.ns_laws.proofs.Plans.Deciding.{accepted, committing, decide_all, decide_either, is_accepted, left_by}
use Rattle.ns_laws.proofs.Plans.Planning.{fit_is, places_groups, places_on_fit_nodes}

-- ---- what leaves the allocations as they are

abbrev Leaves : Tenant → Tenant → Type 0
Leaves t u = (u.allocations ≡ t.allocations) × (u.allocation_number ≡ t.allocation_number)

leaves_still : (t : Tenant) → Leaves t t
leaves_still t = (refl, refl)

leaves_then : (t u v : Tenant) → Leaves t u → Leaves u v → Leaves t v
leaves_then t u v a b = (b.0 ∙ a.0, b.1 ∙ a.1)

made_leaves : (ns : Name) (evaluation : Tenant → Evaluation) (w : World) → Onward Leaves w (make ns evaluation w)
made_leaves ns evaluation w = by (get w.tenants ns) refl
  where
    by : (o : Option Tenant) → get w.tenants ns ≡ o → Onward Leaves w (option_map_or (λ t. make_in ns (evaluation t) w t) o w)
    by None is = onward_same Leaves leaves_still w w refl
    by (Some t) is = onward_make_in Leaves leaves_still w ns (evaluation t) t t is (refl, refl)

made_up_leaves : (victims : List Victim) (w : World) → Onward Leaves w (make_up victims w)
unfolding make_up
made_up_leaves victims w = onward_each Leaves leaves_still leaves_then (λ x v. make v.0 (λ t. evaluation_for t (least_of_job victims v) Trigger.Preemption) x)
    (λ x v. made_leaves v.0 (λ t. evaluation_for t (least_of_job victims v) Trigger.Preemption) x) (first_each same_victim_job victims) w

marked_leaves : (ns : Name) (number : ℕ) (row : Worker) (w : World) → Onward Leaves w (change_tenant ns (with_worker number row) w)
marked_leaves ns number row w = onward_change Leaves leaves_still w ns (with_worker number row) (λ t _. (refl, refl))

-- ---- the end of a step

-- of the allocation only the indexes are others
record HasRow (a : Allocation) (t : Tenant) (n : ℕ) : Type 0 where
  row : Allocation
  is_row : get t.allocations n ≡ Some row
  same : row ≡ record a { create_index = row.create_index; modify_index = row.modify_index }

stamped_row : (o : Option Tenant) (t : Tenant) (n : ℕ) (a : Allocation) → get t.allocations n ≡ Some a → HasRow a (stamp_tenant o t) n
unfolding stamp_tenant
stamped_row None t n a at = record { row = a; is_row = at; same = refl }
stamped_row (Some o) t n a at = by (is_touched o t)
  where
    still : (b : Bool) → get (stamped (o.index + 1) o t).allocations n ≡ Some (cond b (record a {
      create_index = created_at (o.index + 1) (get o.allocations n) (λ (a : Allocation). a.create_index);
      modify_index = o.index + 1;
    }) a) → HasRow a (stamped (o.index + 1) o t) n
    still true at = record {
      row = record a { create_index = created_at (o.index + 1) (get o.allocations n) (λ (a : Allocation). a.create_index); modify_index = o.index + 1 };
      is_row = at;
      same = refl;
    }
    still false at = record { row = a; is_row = at; same = refl }

    by : (b : Bool) → HasRow a (cond b (stamped (o.index + 1) o t) t) n
    by true = still (changes_allocation o n a)
        (get-map_rows numbers one_number (stamped_allocation (o.index + 1) o) t.allocations n ∙ ap (option_map (stamped_allocation (o.index + 1) o n)) at)
    by false = record { row = a; is_row = at; same = refl }

stamped_number : (o : Option Tenant) (t : Tenant) → (stamp_tenant o t).allocation_number ≡ t.allocation_number
unfolding stamp_tenant
stamped_number None t = refl
stamped_number (Some o) t = elim (is_touched o t) as (λ b. (cond b (stamped (o.index + 1) o t) t).allocation_number ≡ t.allocation_number) [
  | true ↦ refl
  | false ↦ refl
]

settled_from : (w x : World) (ns : Name) (u : Tenant) → get (settle w x).tenants ns ≡ Some u → (t : Tenant) × (get x.tenants ns ≡ Some t) ×
    (settled_rows w x ns t ≡ u)
settled_from w x ns u is = by (get x.tenants ns) refl
  where
    by : (o : Option Tenant) → get x.tenants ns ≡ o → (t : Tenant) × (get x.tenants ns ≡ Some t) × (settled_rows w x ns t ≡ u)
    by None was = absurd (not_Some u (sym (settled_tenant w x ns ∙ ap (option_map (settled_rows w x ns)) was) ∙ is))
    by (Some t) was = (t, was, same_Some (settled_rows w x ns t) u (sym (settled_tenant w x ns ∙ ap (option_map (settled_rows w x ns)) was) ∙ is))

-- ---- stops and evictions

abbrev Numbers : Tenant → Tenant → Type 0
Numbers t u = u.allocation_number ≡ t.allocation_number

desired_numbers : (n : ℕ) (desired : DesiredStatus) (t : Tenant) → Numbers t (with_desired n desired t)
desired_numbers n desired t = by (get t.allocations n)
  where
    by : (o : Option Allocation) → (option_map_or (λ a. record t { allocations = insert t.allocations n (record a { desired = desired }) })
        o t).allocation_number
        ≡ t.allocation_number
    by None = refl
    by (Some a) = refl

stops_numbers : (stops : List ℕ) (t : Tenant) → Numbers t (fold (λ x n. with_desired n DesiredStatus.Stop x) t stops)
stops_numbers [] t = refl
stops_numbers (n ∷ stops) t = stops_numbers stops (with_desired n DesiredStatus.Stop t) ∙ desired_numbers n DesiredStatus.Stop t

numbers_still : (t : Tenant) → Numbers t t
numbers_still t = refl

numbers_then : (t u v : Tenant) → Numbers t u → Numbers u v → Numbers t v
numbers_then t u v a b = b ∙ a

evicts_numbers : (victims : List Eviction) (w : World) → Onward Numbers w (evict_all w victims)
evicts_numbers victims w = onward_each Numbers numbers_still numbers_then evict (λ x e. onward_change Numbers numbers_still x e.namespace
    (with_desired e.number DesiredStatus.Evict) (λ t _. desired_numbers e.number DesiredStatus.Evict t)) victims w

change_pools : (ns : Name) (f : Tenant → Tenant) (w : World) → (change_tenant ns f w).pools ≡ w.pools
change_pools ns f w = by (get w.tenants ns)
  where
    by : (o : Option Tenant) → (option_map_or (λ t. put_tenant ns (f t) w) o w).pools ≡ w.pools
    by None = refl
    by (Some t) = refl

evicts_pools : (victims : List Eviction) (w : World) → (evict_all w victims).pools ≡ w.pools
evicts_pools [] w = refl
evicts_pools (e ∷ es) w = evicts_pools es (evict w e) ∙ change_pools e.namespace (with_desired e.number DesiredStatus.Evict) w

-- ---- the numbers in the reply

-- the number of the first element, and of a later one
pub first_number : (n : ℕ) → n + (0 + 1) ≡ n + 1
first_number n = omega arith

pub later_number : (n i : ℕ) → n + (suc i + 1) ≡ n + 1 + (i + 1)
later_number n i = omega arith

module _ {X : Type 0} where
  numbers_at : (xs : List X) (n i : ℕ) (x : X) → slice_get xs i ≡ Some x → slice_get (numbers_after n xs) i ≡ Some (n + (i + 1))
  numbers_at [] n i x e = absurd (not_Some x e)
  numbers_at (y ∷ xs) n zero x e = ap Some (sym (first_number n))
  numbers_at (y ∷ xs) n (suc i) x e = numbers_at xs (n + 1) i x e ∙ ap Some (sym (later_number n i))

  numbers_count : (xs : List X) (n : ℕ) → length (numbers_after n xs) ≡ length xs
  numbers_count [] n = refl
  numbers_count (x ∷ xs) n = ap suc (numbers_count xs (n + 1))

-- ---- placements, one by one

module _ (kept : Snapshot) where
  -- the node at that place of the snapshot is there
  abbrev HasNode : World → ℕ → Type 0
  HasNode w k = is_some (node_at w kept.pool (node_name kept k)) ≡ true

  node_of : (w : World) (k : ℕ) → HasNode w k → (node : Node) × (node_at w kept.pool (node_name kept k) ≡ Some node)
  node_of w k h = by (node_at w kept.pool (node_name kept k)) refl h
    where
      by : (o : Option Node) → node_at w kept.pool (node_name kept k) ≡ o → is_some o ≡ true →
          (node : Node) × (node_at w kept.pool (node_name kept k) ≡ Some node)
      by None is e = not_both e refl
      by (Some node) is e = (node, is)

  counted_tenants : (name : Name) (node : Node) (w : World) → (counted kept.pool name node w).tenants ≡ w.tenants
  counted_tenants name node w = by (get w.pools kept.pool)
    where
      by : (o : Option PoolRows) → (option_map_or (λ p. put_pool kept.pool (with_place name node p) w) o w).tenants ≡ w.tenants
      by None = refl
      by (Some p) = refl

  counted_nodes : (name : Name) (node : Node) (w : World) (k : ℕ) → HasNode w k → HasNode (counted kept.pool name node w) k
  counted_nodes name node w k h = by (get w.pools kept.pool) refl
    where
      now : (p : PoolRows) (b : Bool) → is_some (get p.nodes (node_name kept k)) ≡ true →
          is_some (cond b (Some (record node { places = node.places + 1 })) (get p.nodes (node_name kept k))) ≡ true
      now p true e = refl
      now p false e = e

      by : (o : Option PoolRows) → get w.pools kept.pool ≡ o → HasNode (option_map_or (λ p. put_pool kept.pool (with_place name node p) w) o w) k
      by None is = h
      by (Some p) is = ap (λ o. is_some (option_and_then (λ (p : PoolRows). get p.nodes (node_name kept k)) o))
          (put_there w.pools kept.pool (with_place name node p))
          ∙ ap (λ (o : Option Node). is_some o) (get-insert names p.nodes name (record node { places = node.places + 1 }) (node_name kept k))
          ∙ now p (same_name (node_name kept k) name) (sym (ap (λ o. is_some (option_and_then (λ (p : PoolRows). get p.nodes (node_name kept k)) o)) is) ∙ h)

  module _ (j : Job) (has_job : kept.job ≡ Some j) where
    -- the placements became allocations with the next numbers
    record Adds (ps : List Placement) (u v : Tenant) : Type 0 where
      number : v.allocation_number ≡ u.allocation_number + length ps
      each_new : (i : ℕ) (p : Placement) → slice_get ps i ≡ Some p → (node : Node) ×
          (get v.allocations (u.allocation_number + (i + 1)) ≡ Some (new_allocation kept j p node))
      former : (m : ℕ) → m ≤ u.allocation_number → get v.allocations m ≡ get u.allocations m

    place_is : (p : Placement) (w : World) (node : Node) → node_at w kept.pool (node_name kept p.node) ≡ Some node → place_one kept w p ≡
        place_with kept p w j node
    unfolding place_one
    place_is p w node at = ap (λ o. option_map_or (λ job. option_map_or (place_with kept p w job) (node_at w kept.pool (node_name kept p.node)) w) o w) has_job
        ∙ ap (λ o. option_map_or (place_with kept p w j) o w) at

    one_tenant : (p : Placement) (w : World) (node : Node) (u : Tenant) → get w.tenants kept.namespace ≡ Some u
        → get (place_with kept p w j node).tenants kept.namespace ≡ Some (with_allocation (new_allocation kept j p node) u)
    one_tenant p w node u is = ap (λ m. get m kept.namespace) (counted_tenants (node_name kept p.node) node
        (change_tenant kept.namespace (with_allocation (new_allocation kept j p node)) w))
        ∙ ap (λ o. get (option_map_or (λ t. put_tenant kept.namespace (with_allocation (new_allocation kept j p node) t) w) o w).tenants kept.namespace) is
        ∙ put_there w.tenants kept.namespace (with_allocation (new_allocation kept j p node) u)

    one_nodes : (p : Placement) (w : World) (node : Node) (k : ℕ) → HasNode w k → HasNode (place_with kept p w j node) k
    one_nodes p w node k h = counted_nodes (node_name kept p.node) node (change_tenant kept.namespace (with_allocation (new_allocation kept j p node)) w) k
        (ap (λ m. is_some (option_and_then (λ (p : PoolRows). get p.nodes (node_name kept k)) (get m kept.pool)))
        (change_pools kept.namespace (with_allocation (new_allocation kept j p node)) w) ∙ h)

    first_adds : (p : Placement) (ps : List Placement) (node : Node) (u v : Tenant) →
        Adds ps (with_allocation (new_allocation kept j p node) u) v → Adds (p ∷ ps) u v
    first_adds p ps node u v h = record {
      number = let n = h.number in omega (arith, n);
      each_new = each_new;
      former = λ m le. h.former m (omega (arith, le)) ∙ get_other numbers one_number u.allocations (u.allocation_number + 1) (new_allocation kept j p node) m
          (other_number m (u.allocation_number + 1) (λ e. absurd (omega (arith, e, le))));
    }
      where
        le_next : (n : ℕ) → n + 1 ≤ n + 1
        le_next n = omega arith

        each_new : (i : ℕ) (x : Placement) → slice_get (p ∷ ps) i ≡ Some x → (node : Node) ×
            (get v.allocations (u.allocation_number + (i + 1)) ≡ Some (new_allocation kept j x node))
        each_new zero x e = (
          node,
          ap (get v.allocations) (first_number u.allocation_number) ∙ h.former (u.allocation_number + 1) (le_next u.allocation_number)
              ∙ get_put numbers one_number u.allocations (u.allocation_number + 1) (new_allocation kept j p node) ∙
              ap (λ x. Some (new_allocation kept j x node)) (same_Some p x e),
        )
        each_new (suc i) x e = let r = h.each_new i x e in (r.0, ap (get v.allocations) (later_number u.allocation_number i) ∙ r.1)

    adds_all : (ps : List Placement) (w : World) (u : Tenant) → get w.tenants kept.namespace ≡ Some u → Each (λ p. HasNode w p.node) ps →
        (v : Tenant) × (get (place_all kept w ps).tenants kept.namespace ≡ Some v) × Adds ps u v
    adds_all [] w u is h = (u, is, record { number = none u.allocation_number; each_new = λ i p e. absurd (not_Some p e); former = λ m le. refl })
      where
        none : (n : ℕ) → n ≡ n + 0
        none n = omega arith
    adds_all (p ∷ ps) w u is h =
        let node = node_of w p.node h.0 in
        let x = place_with kept p w j node.0 in
        let rest = adds_all ps x (with_allocation (new_allocation kept j p node.0) u) (one_tenant p w node.0 u is)
        (each_map (λ y g. one_nodes p w node.0 y.node g) ps h.1) in
        (rest.0, ap (λ y. get (place_all kept y ps).tenants kept.namespace) (place_is p w node.0 node.1) ∙ rest.1, first_adds p ps node.0 u rest.0 rest.2)

-- ---- what is decided

module _ (kept : Snapshot) (ps : List Placement) where
  -- the node is there, and the job may use it
  FitAt : World → ℕ → Type 0
  FitAt w k = (node : Node) × (node_at w kept.pool (node_name kept k) ≡ Some node) × (is_feasible (constraints_of kept.job) (node_name kept k) node ≡ true)

  -- the committed nodes are fit, and nodes and numbers are as they were
  record Stands (w : World) (c : Commit) : Type 0 where
    nodes : Each (FitAt w) c.committed
    pools : c.world.pools ≡ w.pools
    numbers_on : Onward Numbers w c.world

  decide_stands : (w : World) (c : Commit) (k : ℕ) → Stands w c → Stands w (decide kept ps c k)
  unfolding FitAt
  decide_stands w c k h = decide_either kept ps (Stands w) c k commits (record { nodes = h.nodes; pools = h.pools; numbers_on = h.numbers_on })
    where
      left_pools : (left_by kept ps c k).pools ≡ w.pools
      left_pools = evicts_pools (victims_of c.world kept (part_of k ps)) c.world ∙ h.pools

      commits : is_accepted kept ps c k ≡ true → Stands w (committing kept ps c k)
      commits e = let fit = accepted kept ps c k e in record {
        nodes = each_append (FitAt w) c.committed (k ∷ []) h.nodes (
          (
            fit.0,
            ap (λ m. option_and_then (λ (p : PoolRows). get p.nodes (node_name kept k)) (get m kept.pool)) (sym left_pools) ∙ fit.1,
            fit.2,
          ),
          tt,
        );
        pools = left_pools;
        numbers_on = onward_then Numbers numbers_still numbers_then w c.world (left_by kept ps c k) h.numbers_on
            (evicts_numbers (victims_of c.world kept (part_of k ps)) c.world);
      }

-- ---- the nodes that are dropped

-- what the reply names
names_found : (list : List Name) (q : Name) → is_some (find name_cmp q (map (λ n. (n, n)) list)) ≡ has_name list q
names_found [] q = refl
names_found (n ∷ ns) q = by (same_name q n) (names_found ns q)
  where
    by : (b : Bool) → is_some (find name_cmp q (map (λ n. (n, n)) ns)) ≡ has_name ns q
        → is_some (cond b (Some n) (find name_cmp q (map (λ n. (n, n)) ns))) ≡ (b || has_name ns q)
    by true rest = refl
    by false rest = rest

pub sorted_has : (list : List Name) (q : Name) → has_name (sorted_names list) q ≡ has_name list q
sorted_has list q = sym (contains_key-keys (from_entries {R = name_cmp} (map (λ n. (n, n)) list)) q)
    ∙ ap (λ (o : Option Name). is_some o) (get-from_entries names (map (λ n. (n, n)) list) q) ∙ names_found list q

pub has_or : (xs ys : List ℕ) (n : ℕ) → has_number (xs ++ ys) n ≡ (has_number xs n || has_number ys n)
has_or xs ys n = list_any-append (same_number n) xs ys

has_named : (kept : Snapshot) (ks : List ℕ) (n : ℕ) → has_number ks n ≡ true → has_name (map (node_name kept) ks) (node_name kept n) ≡ true
has_named kept [] n e = not_both e refl
has_named kept (k ∷ ks) n e = by (same_number n k) refl e (has_named kept ks n)
  where
    by : (b : Bool) → same_number n k ≡ b → (b || has_number ks n) ≡ true
        → (has_number ks n ≡ true → has_name (map (node_name kept) ks) (node_name kept n) ≡ true)
        → (same_name (node_name kept n) (node_name kept k) || has_name (map (node_name kept) ks) (node_name kept n)) ≡ true
    by true same e rest = ap (λ b. b || has_name (map (node_name kept) ks) (node_name kept n))
        (ap (λ k. same_name (node_name kept n) (node_name kept k)) (sym (tied one_number n k same)) ∙ same_name_refl (node_name kept n))
    by false same e rest = or_right (same_name (node_name kept n) (node_name kept k)) _ (rest e)

first_has : (xs : List ℕ) (n : ℕ) → has_number xs n ≡ true → has_number (first_each same_number xs) n ≡ true
first_has [] n e = e
first_has (x ∷ xs) n e = by (same_number n x) refl e (first_has xs n)
  where
    unlike : same_number n x ≡ false → (y : ℕ) → same_number n y ≡ true → not (same_number x y) ≡ true
    unlike differ y same = ap not (other_number x y (λ e. not_both (ap (same_number n) e ∙ same) differ))

    by : (b : Bool) → same_number n x ≡ b → (b || has_number xs n) ≡ true → (has_number xs n ≡ true → has_number (first_each same_number xs) n ≡ true)
        → (b || has_number (filter (λ y. not (same_number x y)) (first_each same_number xs)) n) ≡ true
    by true same e rest = refl
    by false differ e rest = any_kept (same_number n) (λ y. not (same_number x y)) true (unlike differ) (first_each same_number xs)
        ∙ ap (λ b. b && true) (rest e)

nodes_has : (ps : List Placement) → Each (λ p. has_number (nodes_in ps) p.node ≡ true) ps
nodes_has ps = each_map (λ p e. first_has (map (λ p. p.node) ps) p.node e) ps (all ps)
  where
    all : (ps : List Placement) → Each (λ p. has_number (map (λ p. p.node) ps) p.node ≡ true) ps
    all [] = tt
    all (p ∷ ps) = (
      ap (λ b. b || has_number (map (λ p. p.node) ps) p.node) (same_number_refl p.node),
      each_map (λ x e. or_right (same_number x.node p.node) _ e) ps (all ps),
    )

module _ (kept : Snapshot) (ps : List Placement) where
  IsDecided : Commit → ℕ → Type 0
  IsDecided c n = (has_number c.committed n ≡ true) ⊎ (has_number c.dropped n ≡ true)

  decide_keeps : (c : Commit) (k n : ℕ) → IsDecided c n ⊎ (same_number n k ≡ true) → IsDecided (decide kept ps c k) n
  unfolding IsDecided
  decide_keeps c k n h = decide_either kept ps (λ d. IsDecided d n) c k (λ _. commits h) (drops h)
    where
      old : (ks : List ℕ) → has_number ks n ≡ true → has_number (ks ++ k ∷ []) n ≡ true
      old ks e = has_or ks (k ∷ []) n ∙ ap (λ b. b || has_number (k ∷ []) n) e

      new : (ks : List ℕ) → same_number n k ≡ true → has_number (ks ++ k ∷ []) n ≡ true
      new ks e = has_or ks (k ∷ []) n ∙ or_right (has_number ks n) _ (ap (λ b. b || false) e)

      commits : ((has_number c.committed n ≡ true) ⊎ (has_number c.dropped n ≡ true)) ⊎ (same_number n k ≡ true)
          → (has_number (c.committed ++ k ∷ []) n ≡ true) ⊎ (has_number c.dropped n ≡ true)
      commits (inl (inl e)) = inl (old c.committed e)
      commits (inl (inr e)) = inr e
      commits (inr e) = inl (new c.committed e)

      drops : ((has_number c.committed n ≡ true) ⊎ (has_number c.dropped n ≡ true)) ⊎ (same_number n k ≡ true)
          → (has_number c.committed n ≡ true) ⊎ (has_number (c.dropped ++ k ∷ []) n ≡ true)
      drops (inl (inl e)) = inl e
      drops (inl (inr e)) = inr (old c.dropped e)
      drops (inr e) = inr (new c.dropped e)

  all_decided : (ks : List ℕ) (c : Commit) (n : ℕ) → IsDecided c n ⊎ (has_number ks n ≡ true) → IsDecided (fold (decide kept ps) c ks) n
  all_decided [] c n (inl h) = h
  all_decided [] c n (inr e) = not_both e refl
  all_decided (k ∷ ks) c n (inl h) = all_decided ks (decide kept ps c k) n (inl (decide_keeps c k n (inl h)))
  all_decided (k ∷ ks) c n (inr e) = by (either_of (same_number n k) (has_number ks n) e) (all_decided ks (decide kept ps c k) n)
    where
      by : (same_number n k ≡ true) ⊎ (has_number ks n ≡ true)
          → (IsDecided (decide kept ps c k) n ⊎ (has_number ks n ≡ true) → IsDecided (fold (decide kept ps) (decide kept ps c k) ks) n)
          → IsDecided (fold (decide kept ps) (decide kept ps c k) ks) n
      by (inl here) rest = rest (inl (decide_keeps c k n (inr here)))
      by (inr later) rest = rest (inr later)

-- a node that is among the dropped ones is named
named_dropped : (kept : Snapshot) (ks : List ℕ) (n : ℕ) → has_number ks n ≡ true → (seen : PoolNode) → slice_get kept.nodes n ≡ Some seen →
    has_name (names_in kept ks) seen.name ≡ true
named_dropped kept ks n has seen is = ap (has_name (names_in kept ks)) (sym (ap (λ o. option_map_or (λ (n : PoolNode). n.name) o []) is))
    ∙ sorted_has (map (node_name kept) ks) (node_name kept n) ∙ has_named kept ks n has

-- ---- the whole

pub each_slice : {X : Type 0} (P : X → Type 0) (xs : List X) → Each P xs → (i : ℕ) (x : X) → slice_get xs i ≡ Some x → P x
each_slice P [] h i x e = absurd (not_Some x e)
each_slice P (y ∷ xs) h zero x e = subst P (same_Some y x e) h.0
each_slice P (y ∷ xs) h (suc i) x e = each_slice P xs h.1 i x e

-- without placements that are done
none_done : (s : State) (kept : Snapshot) (made : List ℕ) (dropped : List Name) (before now : Tenant) → made ≡ [] → now.allocation_number ≡
    before.allocation_number →
    ((seen : PoolNode) (n : ℕ) → has_number (nodes_in (plan kept).placing.placements) n ≡ true → slice_get kept.nodes n ≡ Some seen →
    has_name dropped seen.name ≡ true) →
    law.IsDoneByNode s kept made dropped before now
none_done s kept made dropped before now empty same told = record {
  does = λ _. false;
  fit = each _ (λ _ no. not_both no refl) (plan kept).placing.placements;
  count = ap length empty ∙ sym (ap length nothing);
  each_made = λ i p e. absurd (not_Some p (ap (λ xs. slice_get xs i) (sym nothing) ∙ e));
  others_named = each_map (λ p has no seen is. told seen p.node has is) (plan kept).placing.placements (nodes_has (plan kept).placing.placements);
  last = let l = ap length empty in omega (arith, l, same);
}
  where
    nothing : filter (λ _. false) (plan kept).placing.placements ≡ []
    nothing = filter_none (λ _. false) (plan kept).placing.placements (each _ (λ _. refl) (plan kept).placing.placements)

module _ (s : State) (valid : IsValid s) (number : ℕ) (ns : Name) (before : Tenant) (is : get s.world.tenants ns ≡ Some before)
    (worker : Worker) (kept : Snapshot) (same_namespace : kept.namespace ≡ ns) (e : Evaluation) where
  abbrev pub ps : List Placement
  ps = (plan kept).placing.placements

  abbrev pub stopped : World
  stopped = stop_all kept.namespace (live_stops before (plan kept).stops) s.world

  abbrev pub decided : Commit
  decided = fold (decide kept ps) (begun stopped) (nodes_in ps)

  abbrev pub placed : List Placement
  placed = committed_placements decided ps

  abbrev pub whole : World
  whole = place_all kept decided.world placed

  all_stands : Stands kept ps s.world decided
  all_stands = decide_all kept ps (Stands kept ps s.world) (decide_stands kept ps s.world) (nodes_in ps) (begun stopped) (record {
    nodes = tt;
    pools = change_pools kept.namespace (λ u. fold (λ x n. with_desired n DesiredStatus.Stop x) u (live_stops before (plan kept).stops)) s.world;
    numbers_on = onward_change Numbers numbers_still s.world kept.namespace
        (λ u. fold (λ x n. with_desired n DesiredStatus.Stop x) u (live_stops before (plan kept).stops))
        (λ u _. stops_numbers (live_stops before (plan kept).stops) u);
  })

  placed_nodes : Each (λ p. HasNode kept decided.world p.node) placed
  unfolding FitAt
  placed_nodes = each_map (λ p h. let fit = each_has (FitAt kept ps s.world) decided.committed all_stands.nodes p.node h.1 in
      ap (λ m. is_some (option_and_then (λ (x : PoolRows). get x.nodes (node_name kept p.node)) (get m kept.pool))) all_stands.pools
      ∙ ap (λ (o : Option Node). is_some o) fit.1) placed
      (each_kept (λ _. Unit {0}) (λ p. has_number decided.committed p.node) ps (each _ (λ _. tt) ps))

  fit_now : (p : Placement) → law.OfRunningJob kept (λ job. law.IsOnFitNode kept job p) → has_number decided.committed p.node ≡ true →
      law.IsFitNow s kept p.node
  unfolding FitAt
  fit_now p on has =
      let fit = each_has (FitAt kept ps s.world) decided.committed all_stands.nodes p.node has in
      let seen = on.holds.node in
      let name : node_name kept p.node ≡ seen.name = ap (λ o. option_map_or (λ (n : PoolNode). n.name) o []) on.holds.is_node in record {
        seen = seen;
        is_seen = on.holds.is_node;
        node = fit.0;
        is_there = ap (node_at s.world kept.pool) (sym name) ∙ fit.1;
        fit = λ job is_job. fit_is job seen.name fit.0 (ap (λ n. is_feasible job.document.constraints n fit.0) (sym name)
            ∙ ap (λ o. is_feasible (constraints_of o) (node_name kept p.node) fit.0) (sym is_job) ∙ fit.2);
      }

  -- the namespace's rows after each part of the step
  pub record Ends (now : Tenant) : Type 0 where
    own : Tenant
    is_own : get decided.world.tenants kept.namespace ≡ Some own
    number_on : own.allocation_number ≡ before.allocation_number
    later : Tenant
    is_later : get whole.tenants kept.namespace ≡ Some later
    last : Tenant
    leaves : Leaves later last
    settles : settled_rows s.world (marked number ns worker e (done kept (plan kept) s.world before)) ns last ≡ now

  in_namespace : (w : World) (t : Tenant) → get w.tenants ns ≡ Some t → get w.tenants kept.namespace ≡ Some t
  in_namespace w t at = ap (get w.tenants) same_namespace ∙ at

  own_number : (t : Tenant) → get decided.world.tenants ns ≡ Some t → t.allocation_number ≡ before.allocation_number
  own_number t at =
      let n = all_stands.numbers_on ns t at in
      n.2 ∙ ap (λ (t : Tenant). t.allocation_number) (same_Some n.0 before (sym n.1 ∙ is))

  pub ends : (now : Tenant) → get (settle s.world (marked number ns worker e (done kept (plan kept) s.world before))).tenants ns ≡ Some now → Ends now
  ends now there =
      let a = done kept (plan kept) s.world before in
      let f = settled_from s.world (marked number ns worker e a) ns now there in
      let l = onward_then Leaves leaves_still leaves_then whole a.world (marked number ns worker e a) (made_up_leaves (evicted_rows stopped kept placed) whole)
      (marked_leaves ns number (applied_worker a worker e) a.world) ns f.0 f.1 in
      let o = all_placed_last kept placed decided.world ns l.0 l.1 in record {
        own = o.0;
        is_own = in_namespace decided.world o.0 o.1;
        number_on = own_number o.0 o.1;
        later = l.0;
        is_later = in_namespace whole l.0 l.1;
        last = f.0;
        leaves = l.2;
        settles = f.2;
      }

  last_number : (now : Tenant) (h : Ends now) → now.allocation_number ≡ h.later.allocation_number
  last_number now h = sym (ap (λ (t : Tenant). t.allocation_number) h.settles)
      ∙ stamped_number (get s.world.tenants ns) (unblocked_in (woken s.world (marked number ns worker e (done kept (plan kept) s.world before))) ns h.last)
      ∙ h.leaves.1

  -- an allocation of the namespace after the placements is there after the step
  last_row : (now : Tenant) (h : Ends now) (n : ℕ) (a : Allocation) → get h.later.allocations n ≡ Some a → HasRow a now n
  last_row now h n a at = subst (λ t. HasRow a t n) h.settles
      (stamped_row (get s.world.tenants ns) (unblocked_in (woken s.world (marked number ns worker e (done kept (plan kept) s.world before))) ns h.last) n a
      (ap (λ m. get m n) h.leaves.0 ∙ at))

  -- a number that is above the namespace's last one is new
  new_number : (i : ℕ) → get before.allocations (before.allocation_number + (i + 1)) ≡ None
  new_number i = by (get before.allocations (before.allocation_number + (i + 1))) refl
    where
      above : (n : ℕ) → n + (i + 1) ≤ n → ⊥
      above n h = omega (arith, h)

      by : (o : Option Allocation) → get before.allocations (before.allocation_number + (i + 1)) ≡ o → o ≡ None
      by None at = refl
      by (Some a) at = absurd (above before.allocation_number ((valid.world.tenant ns before is).allocation (before.allocation_number + (i + 1)) a at).below)

  module _ (j : Job) (has_job : kept.job ≡ Some j) (now : Tenant) (h : Ends now) where
    own_adds : (v : Tenant) × (get whole.tenants kept.namespace ≡ Some v) × Adds kept j has_job placed h.own v
    own_adds = adds_all kept j has_job placed decided.world h.own h.is_own placed_nodes

    adds : Adds kept j has_job placed h.own h.later
    adds = subst (λ v. Adds kept j has_job placed h.own v) (same_Some own_adds.0 h.later (sym own_adds.1 ∙ h.is_later)) own_adds.2

    pub made_for : (i : ℕ) (p : Placement) → slice_get placed i ≡ Some p → law.IsMadeFor kept p (before.allocation_number + (i + 1)) before now
    made_for i p at =
        let new = adds.each_new i p at in
        let row = last_row now h (before.allocation_number + (i + 1)) (new_allocation kept j p new.0)
        (ap (λ n. get h.later.allocations (n + (i + 1))) (sym h.number_on) ∙ new.1) in
        let of = each_slice (λ p. law.OfRunningJob kept (λ job. law.IsOfGroup job p)) placed
        (each_still (λ p. law.OfRunningJob kept (λ job. law.IsOfGroup job p)) (λ p. has_number decided.committed p.node) ps (places_groups kept)) i p at in
        let on = each_slice (λ p. law.OfRunningJob kept (λ job. law.IsOnFitNode kept job p)) placed
        (each_still (λ p. law.OfRunningJob kept (λ job. law.IsOnFitNode kept job p)) (λ p. has_number decided.committed p.node) ps
        (places_on_fit_nodes kept)) i p at in
        let part : law.IsOfGroup j p = subst (λ job. law.IsOfGroup job p) (same_Some of.job j (sym of.is_job ∙ has_job)) of.holds in record {
          is_new = new_number i;
          row = row.row;
          is_row = row.is_row;
          job = j;
          is_job = has_job;
          of_job = ap (λ (a : Allocation). a.job) row.same;
          version = ap (λ (a : Allocation). a.job_modify_index) row.same;
          priority = ap (λ (a : Allocation). a.priority) row.same;
          group = part.group;
          is_group = part.is_group;
          of_group = ap (λ (a : Allocation). a.group) row.same ∙ ap (λ o. option_map_or (λ (g : Group). g.name) o []) part.is_group;
          node = on.holds.node;
          is_node = on.holds.is_node;
          on_node = ap (λ (a : Allocation). a.node) row.same ∙ ap (λ o. option_map_or (λ (n : PoolNode). n.name) o []) on.holds.is_node;
          in_pool = ap (λ (a : Allocation). a.pool) row.same;
          size = ap (λ (a : Allocation). a.size) row.same;
          to_run = ap (λ (a : Allocation). a.desired) row.same;
          pending = ap (λ (a : Allocation). a.client) row.same;
        }

    told : (p : Placement) → has_number (nodes_in ps) p.node ≡ true → has_number decided.committed p.node ≡ false → (seen : PoolNode)
        → slice_get kept.nodes p.node ≡ Some seen → has_name (names_in kept decided.dropped) seen.name ≡ true
    unfolding IsDecided
    told p has out seen is = by (all_decided kept ps (nodes_in ps) (begun stopped) p.node (inr has))
      where
        by : IsDecided kept ps decided p.node → has_name (names_in kept decided.dropped) seen.name ≡ true
        by (inl into) = not_both into out
        by (inr dropped) = named_dropped kept decided.dropped p.node dropped seen is

    done_for_job : law.IsDoneByNode s kept (numbers_after before.allocation_number placed) (names_in kept decided.dropped) before now
    done_for_job = record {
      does = λ k. has_number decided.committed k;
      fit = each_map fit_now ps (places_on_fit_nodes kept);
      others_named = each_map told ps (nodes_has ps);
      count = numbers_count placed before.allocation_number;
      each_made = λ i p at. (before.allocation_number + (i + 1), numbers_at placed before.allocation_number i p at, made_for i p at);
      last =
          let n = last_number now h in
          let a = adds.number in
          let o = h.number_on in
          let c = numbers_count placed before.allocation_number in
          omega (arith, n, a, o, c);
    }

  no_plan : kept.job ≡ None → ps ≡ []
  no_plan none = by ps (places_groups kept)
    where
      by : (xs : List Placement) → Each (λ p. law.OfRunningJob kept (λ job. law.IsOfGroup job p)) xs → xs ≡ []
      by [] h = refl
      by (p ∷ xs) h = absurd (not_Some h.0.job (sym none ∙ h.0.is_job))

  pub no_placements : kept.job ≡ None → placed ≡ []
  no_placements none = ap (filter (λ p. has_number decided.committed p.node)) (no_plan none)

  is_done : (now : Tenant) → Ends now → law.IsDoneByNode s kept (numbers_after before.allocation_number placed) (names_in kept decided.dropped) before now
  is_done now h = by kept.job refl
    where
      by : (o : Option Job) → kept.job ≡ o → law.IsDoneByNode s kept (numbers_after before.allocation_number placed) (names_in kept decided.dropped) before now
      by (Some j) has_job = done_for_job j has_job now h
      by None none = none_done s kept (numbers_after before.allocation_number placed) (names_in kept decided.dropped) before now
          (ap (numbers_after before.allocation_number) (no_placements none))
          (last_number now h ∙ ap (λ (t : Tenant). t.allocation_number) (same_Some h.later h.own (sym h.is_later
          ∙ ap (λ w. get w.tenants kept.namespace) (none_placed kept none placed decided.world) ∙ h.is_own)) ∙ h.number_on)
          (λ seen n has is. not_both has (ap (λ xs. has_number (nodes_in xs) n) (no_plan none)))

  -- where the plan is refused, nothing is placed
  refused : (now : Tenant) → get (settle s.world (marked number ns worker e (refused_whole kept (plan kept) s.world))).tenants ns ≡ Some now →
      law.IsDoneByNode s kept [] (names_in kept (nodes_in ps)) before now
  refused now there =
      let a = refused_whole kept (plan kept) s.world in
      let f = settled_from s.world (marked number ns worker e a) ns now there in
      let l = marked_leaves ns number (applied_worker a worker e) s.world ns f.0 f.1 in
      none_done s kept [] (names_in kept (nodes_in ps)) before now refl (sym (ap (λ (t : Tenant). t.allocation_number) f.2)
      ∙ stamped_number (get s.world.tenants ns) (unblocked_in (woken s.world (marked number ns worker e a)) ns f.0) ∙ l.2.1
      ∙ ap (λ (t : Tenant). t.allocation_number) (same_Some l.0 before (sym l.1 ∙ is)))
      (λ seen n has at. named_dropped kept (nodes_in ps) n has seen at)

  commits : (made : List ℕ) (names : List Name) (now : Tenant) → (commit kept (plan kept) s.world before).made ≡ made →
      (commit kept (plan kept) s.world before).dropped ≡ names →
      get (settle s.world (marked number ns worker e (commit kept (plan kept) s.world before))).tenants ns ≡ Some now →
      law.IsDoneByNode s kept made names before now
  unfolding commit
  commits made names now same same_names there = by (still_stands kept.job (get before.jobs kept.evaluation.job)) same same_names there
    where
      by : (b : Bool) → (cond b (done kept (plan kept) s.world before) (refused_whole kept (plan kept) s.world)).made ≡ made
          → (cond b (done kept (plan kept) s.world before) (refused_whole kept (plan kept) s.world)).dropped ≡ names
          → get (settle s.world (marked number ns worker e (cond b (done kept (plan kept) s.world before)
          (refused_whole kept (plan kept) s.world)))).tenants ns ≡ Some now
          → law.IsDoneByNode s kept made names before now
      by true same same_names there = subst (λ m. law.IsDoneByNode s kept m names before now) same
          (subst (λ x. law.IsDoneByNode s kept (numbers_after before.allocation_number placed) x before now) same_names (is_done now (ends now there)))
      by false same same_names there = subst (λ m. law.IsDoneByNode s kept m names before now) same
          (subst (λ x. law.IsDoneByNode s kept [] x before now) same_names (refused now there))

-- what the law says of what an Apply says and leaves
IsByNode : State → ℕ → Name → Reply → State → Type 0
IsByNode s number ns reply t = (made : List ℕ) (dropped : List Name) (now : Tenant) → reply.content ≡ Content.Applied made dropped →
    get t.world.tenants ns ≡ Some now
    → (before : Tenant) (worker : Worker) (kept : Snapshot) → get s.world.tenants ns ≡ Some before → get before.workers number ≡
    Some worker → worker.kept ≡ Some kept
    → law.IsDoneByNode s kept made dropped before now

pub made_is : (a b : List ℕ) (x y : List Name) → ◌≡◌ {A = content.Content} (Content.Applied a x) (Content.Applied b y) → a ≡ b
made_is a b x y e = cc

pub dropped_is : (a b : List ℕ) (x y : List Name) → ◌≡◌ {A = content.Content} (Content.Applied a x) (Content.Applied b y) → x ≡ y
dropped_is a b x y e = cc

pub applies_by_node : law.AppliesByNode
unfolding IsByNode
applies_by_node s t number ns worker kept reply made dropped before now valid is told is_before is_now has keeps =
    after_apply number ns s t reply (IsByNode s number ns) is
    (λ u w e k there is_worker keeps made dropped now told now_there before worker kept is_before has kept_is.
    let sound = ((valid.world.tenant ns u there).worker number w is_worker).snapshot k keeps in
    let same_u = same_Some u before (sym there ∙ is_before) in
    let same_w = same_Some w worker (sym is_worker ∙ ap (λ (t : Tenant). get t.workers number) same_u ∙ has) in
    let same_k = same_Some k kept (sym keeps ∙ ap (λ (x : Worker). x.kept) same_w ∙ kept_is) in
    subst (λ b. law.IsDoneByNode s kept made dropped b now) same_u (subst (λ k. law.IsDoneByNode s k made dropped u now) same_k
    (commits s valid number ns u there w k sound.namespace e made dropped now
    (made_is (commit k (plan k) s.world u).made made (commit k (plan k) s.world u).dropped dropped told)
    (dropped_is (commit k (plan k) s.world u).made made (commit k (plan k) s.world u).dropped dropped told) now_there)))
    made dropped now told is_now before worker kept is_before has keeps
