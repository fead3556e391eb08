-- What an Apply of a plan that stands leaves.
use Rattle.std.specs.Prelude.{◌≡◌, ◌++◌, ℕ, ◌+◌, Bool, true, false, cond, List, [], Option, Some, None, filter, fold, is_some, length, option_map}
use Rattle.std.specs.Prelude.{slice_get, take}
use Rattle.std.proofs.Common.{refl, sym, ap, subst, ◌∙◌, arith}
use Rattle.std.proofs.lemmas.List.{length-map}
use Rattle.std.proofs.lemmas.Option.{slice_get-map}
use Rattle.std.specs.FinMap.{get}
use Rattle.std.specs.Option.{option_and_then}
use Rattle.ns_types.specs.declared.allocation.Allocation.{Allocation}
use Rattle.ns_types.specs.declared.evaluation.Evaluation.{Evaluation}
use Rattle.ns_types.specs.declared.job.Job.{Job}
use Rattle.ns_types.specs.declared.node.Node.{Node}
use Rattle.ns_types.specs.declared.plan.Placement.{Placement}
use Rattle.ns_types.specs.declared.plan.Plan.{Plan}
use Rattle.ns_types.specs.declared.snapshot.Snapshot.{Snapshot}
use Rattle.ns_types.specs.State.Lists.{Each}
use Rattle.ns_types.specs.State.Names.{ByName, ByNumber, Key, Name, has_key, has_number, same_name}
use Rattle.ns_types.specs.State.Rows.{PoolRows, Tenant, World, allocation_at, evaluation_at, node_at}
use Rattle.ns_types.specs.State.Tables.{map_rows}
use Rattle.ns_types.specs.Settling.Making.{with_evaluation}
use Rattle.ns_types.specs.Working.Commit.{Commit, Victim, begun, decide, done, new_allocation, node_name, nodes_in, place_all}
use Rattle.ns_types.proofs.Elements.{each_of}
use Rattle.ns_types.specs.Settling.Gone.{gone_in, gone_row, rows_gone}
use Rattle.ns_types.proofs.Gone.{evicted_row, gone_all, stopped_are, stopped_row}
use Rattle.ns_types.proofs.Named.{names, numbers, one_name, one_number, same_name_refl}
use Rattle.ns_types.proofs.Tables.{get-map_rows}
use Rattle.ns_types.proofs.Tests.{not_Some, same_Some}
use Rattle.ns_applier.specs.Laws.{IsRestKept}
use Rattle.ns_applier.specs.Parts.{IsForJob, IsNew, IsOutside, counted_rows, evicted, left_row, losers, losers_in, placed, placed_in}
use Rattle.ns_applier.specs.HeadroomApplying.{places_on}
use Rattle.ns_applier.specs.Raising.{with_places}
use Rattle.ns_types.specs.Working.Parts.{stopped}
use Rattle.ns_applier.specs.Parts.{standing, stops, victims}
use Rattle.ns_applier.proofs.Deciding.{committed_there, decided_there, decided_world}
use Rattle.ns_applier.proofs.Numbered.{added, added_outside, added_row, evaluations_added}
use Rattle.ns_applier.proofs.Placing.{IsPlaced, is_placed, own_rows, placed_keeps, with_rows}
use Rattle.ns_applier.proofs.Renewing.{evaluations_of, made_for, made_up_keeps, made_up_ready, made_up_tenants}

abbrev pub with_evaluations : List Evaluation → Tenant → Tenant
with_evaluations es t = record t { evaluation_number = t.evaluation_number + length es; evaluations = added t.evaluation_number es t.evaluations }

module _ (kept : Snapshot) (p : Plan) (w : World) (t : Tenant) where
  abbrev ps : List Placement
  ps = p.placing.placements

  abbrev then : World
  then = (done kept p w t).world

  abbrev decided : Commit
  decided = fold (decide kept ps) (begun (stopped kept p w t)) (nodes_in ps)

  abbrev its_stops : List Key
  its_stops = stops kept p w t

  abbrev its_victims : List Key
  its_victims = victims kept p w t

  -- ---- those that end

  ended_world : decided.world ≡ rows_gone evicted_row (rows_gone stopped_row w its_stops) its_victims
  ended_world = decided_world kept ps (stopped kept p w t) (nodes_in ps)
      ∙ ap (λ x. rows_gone evicted_row x its_victims) (stopped_are kept.namespace (done kept p w t).checked.stops w)

  abbrev pub ended_in : Name → Tenant → Tenant
  ended_in q u = gone_in evicted_row its_victims q (gone_in stopped_row its_stops q u)

  gone_tenants : (g : Allocation → Allocation) (idle : (a : Allocation) → g (g a) ≡ g a) (keys : List Key) (x : World) (q : Name) →
      get (rows_gone g x keys).tenants q ≡ option_map (gone_in g keys q) (get x.tenants q)
  gone_tenants g idle keys x q = ap (λ x. get x.tenants q) (gone_all g idle keys x) ∙ get-map_rows names one_name (gone_in g keys) x.tenants q

  ended_tenants : (q : Name) → get decided.world.tenants q ≡ option_map (ended_in q) (get w.tenants q)
  ended_tenants q = ap (λ x. get x.tenants q) ended_world
      ∙ gone_tenants evicted_row (λ a. refl) its_victims (rows_gone stopped_row w its_stops) q
      ∙ ap (option_map (gone_in evicted_row its_victims q)) (gone_tenants stopped_row (λ a. refl) its_stops w q) ∙ by (get w.tenants q)
    where
      by : (o : Option Tenant) → option_map (gone_in evicted_row its_victims q) (option_map (gone_in stopped_row its_stops q) o) ≡ option_map (ended_in q) o
      by None = refl
      by (Some u) = refl

  ended_keeps : {A : Type 0} (part : World → A) → ((w : World) (m : ByName Tenant) → part (record w { tenants = m }) ≡ part w) →
      part decided.world ≡ part w
  ended_keeps part tenants = ap part ended_world ∙ one evicted_row (λ a. refl) its_victims (rows_gone stopped_row w its_stops)
      ∙ one stopped_row (λ a. refl) its_stops w
    where
      one : (g : Allocation → Allocation) (idle : (a : Allocation) → g (g a) ≡ g a) (keys : List Key) (x : World) → part (rows_gone g x keys) ≡ part x
      one g idle keys x = ap part (gone_all g idle keys x) ∙ tenants x (map_rows (gone_in g keys) x.tenants)

  -- ---- those that are placed

  pub its_placed : IsPlaced kept (placed kept p w t) decided.world
  its_placed = is_placed kept (placed kept p w t) decided.world

  abbrev pub rows : List Allocation
  rows = its_placed.rows

  abbrev IsThere : World → Placement → Type 0
  IsThere x q = is_some (node_at x kept.pool (node_name kept q.node)) ≡ true

  ended_nodes : (x y : World) → y.pools ≡ x.pools → (q : Placement) → IsThere x q → IsThere y q
  ended_nodes x y same q there =
      ap (λ m. is_some (option_and_then (λ (rows : PoolRows). get rows.nodes (node_name kept q.node)) (get m kept.pool))) same ∙ there

  -- their nodes are there
  stopped_pools : (stopped kept p w t).pools ≡ w.pools
  stopped_pools = ap (λ x. x.pools) (stopped_are kept.namespace (done kept p w t).checked.stops w ∙ gone_all stopped_row (λ a. refl) its_stops w)

  there : Each (IsThere decided.world) (placed kept p w t)
  there = each_of (IsThere (stopped kept p w t)) (IsThere decided.world) (ended_nodes (stopped kept p w t) decided.world
      (ended_keeps (λ x. x.pools) (λ x m. refl) ∙ sym stopped_pools)) (placed kept p w t) (decided_there kept ps (stopped kept p w t) (nodes_in ps))

  pub committed_are_there : (k : ℕ) → has_number (done kept p w t).checked.committed k ≡ true → is_some (node_at w kept.pool (node_name kept k)) ≡ true
  committed_are_there k e = ap (λ m. is_some (option_and_then (λ (rows : PoolRows). get rows.nodes (node_name kept k)) (get m kept.pool))) (sym stopped_pools)
      ∙ committed_there kept ps (stopped kept p w t) (nodes_in ps) k e

  none_placed : IsForJob kept p → kept.job ≡ None → placed kept p w t ≡ []
  none_placed for_job none = ap (λ ps. committed ps) (for_job none)
    where
      committed : List Placement → List Placement
      committed qs = filter (λ q. has_number (done kept p w t).checked.committed q.node) qs

  -- ---- all

  abbrev pub made_in : Name → Tenant → List Evaluation
  made_in q u = evaluations_of (evicted kept p w t) q (losers kept p w t) u

  abbrev pub after : Name → Tenant → Tenant
  after q u = with_evaluations (made_in q u) (with_rows (own_rows kept rows q) (ended_in q u))

  pub tenants_after : (q : Name) → get then.tenants q ≡ option_map (after q) (get w.tenants q)
  tenants_after q = made_up_tenants (evicted kept p w t) (place_all kept decided.world (placed kept p w t)) q
      ∙ ap (option_map (λ u. fold (λ u e. with_evaluation e u) u (made_in q u))) (its_placed.tenants q
      ∙ ap (option_map (λ u. with_rows (own_rows kept rows q) u)) (ended_tenants q)) ∙ by (get w.tenants q)
    where
      by : (o : Option Tenant) → option_map (λ u. fold (λ u e. with_evaluation e u) u (made_in q u))
          (option_map (λ u. with_rows (own_rows kept rows q) u) (option_map (ended_in q) o)) ≡ option_map (after q) o
      by None = refl
      by (Some u) = ap Some (evaluations_added (made_in q u) (with_rows (own_rows kept rows q) (ended_in q u)))

  pub tenant_after : (q : Name) (u : Tenant) → get w.tenants q ≡ Some u → get then.tenants q ≡ Some (after q u)
  tenant_after q u is = tenants_after q ∙ ap (option_map (after q)) is

  pub namespaces_stay : (q : Name) → option_map standing (get then.tenants q) ≡ option_map standing (get w.tenants q)
  namespaces_stay q = ap (option_map standing) (tenants_after q) ∙ by (get w.tenants q)
    where
      by : (o : Option Tenant) → option_map standing (option_map (after q) o) ≡ option_map standing o
      by None = refl
      by (Some u) = refl

  -- ---- numbers

  module _ (for_job : IsForJob kept p) where
    pub counted : length rows ≡ length (placed kept p w t)
    counted = its_placed.counted (none_placed for_job) there

    owned : (q : Name) → length (own_rows kept rows q) ≡ placed_in kept p w t q
    owned q = by (same_name q kept.namespace)
      where
        by : (b : Bool) → length (cond b rows []) ≡ cond b (length (placed kept p w t)) 0
        by true = counted
        by false = refl

  made_counted : (q : Name) (u : Tenant) → length (made_in q u) ≡ length (losers_in kept p w t q)
  made_counted q u = length-map (losers_in kept p w t q) (λ v. made_for (evicted kept p w t) v u)

  pub numbers_go_on : IsForJob kept p → (q : Name) (u v : Tenant) → get w.tenants q ≡ Some u → get then.tenants q ≡ Some v →
      (v.allocation_number ≡ u.allocation_number + placed_in kept p w t q) × (v.evaluation_number ≡ u.evaluation_number + length (losers_in kept p w t q))
  numbers_go_on for_job q u v is is_then = (
    ap (λ v. v.allocation_number) v_is ∙ ap (λ n. u.allocation_number + n) (owned for_job q),
    ap (λ v. v.evaluation_number) v_is ∙ ap (λ n. u.evaluation_number + n) (made_counted q u),
  )
    where
      v_is : v ≡ after q u
      v_is = same_Some v (after q u) (sym is_then ∙ tenant_after q u is)

  -- ---- allocations

  abbrev ended_rows : Name → Tenant → ByNumber Allocation
  ended_rows q u = (ended_in q u).allocations

  allocation_was : (q : Name) (u : Tenant) (n : ℕ) → get (ended_rows q u) n ≡ option_map (left_row its_stops its_victims (q, n)) (get u.allocations n)
  allocation_was q u n = get-map_rows numbers one_number (gone_row evicted_row its_victims q) (map_rows (gone_row stopped_row its_stops q) u.allocations) n
      ∙ ap (option_map (gone_row evicted_row its_victims q n)) (get-map_rows numbers one_number (gone_row stopped_row its_stops q) u.allocations n)
      ∙ by (get u.allocations n)
    where
      row : (a : Allocation) (v s : Bool) → cond v (evicted_row (cond s (stopped_row a) a)) (cond s (stopped_row a) a)
          ≡ cond v (evicted_row a) (cond s (stopped_row a) a)
      row a true true = refl
      row a true false = refl
      row a false s = refl

      by : (o : Option Allocation) → option_map (gone_row evicted_row its_victims q n) (option_map (gone_row stopped_row its_stops q n) o)
          ≡ option_map (left_row its_stops its_victims (q, n)) o
      by None = refl
      by (Some a) = ap Some (row a (has_key its_victims (q, n)) (has_key its_stops (q, n)))

  abbrev allocation_of : ℕ → Option Tenant → Option Allocation
  allocation_of n o = option_and_then (λ u. get u.allocations n) o

  pub allocations_stay : IsForJob kept p → (q : Name) (u : Tenant) → get w.tenants q ≡ Some u → (n : ℕ) →
      IsOutside u.allocation_number (placed_in kept p w t q) n →
      allocation_at then (q, n) ≡ option_map (left_row its_stops its_victims (q, n)) (allocation_at w (q, n))
  allocations_stay for_job q u is n out = ap (allocation_of n) (tenant_after q u is)
      ∙ added_outside u.allocation_number (own_rows kept rows q) (ended_rows q u) n
      (subst (λ count. IsOutside u.allocation_number count n) (sym (owned for_job q)) out)
      ∙ allocation_was q u n ∙ ap (λ o. option_map (left_row its_stops its_victims (q, n)) (allocation_of n o)) (sym is)

  pub allocations_made : get w.tenants kept.namespace ≡ Some t → (job : Job) → kept.job ≡ Some job → (i : ℕ) (q : Placement) →
      slice_get (placed kept p w t) i ≡ Some q → (node : Node) → node_at w kept.pool (node_name kept q.node) ≡ Some node →
      allocation_at then (kept.namespace, t.allocation_number + (i + 1)) ≡ Some (new_allocation kept job q
      (with_places (places_on kept (take i (placed kept p w t)) kept.pool (node_name kept q.node)) node))
  allocations_made is job has i q at node row = ap (allocation_of (t.allocation_number + (i + 1))) (tenant_after kept.namespace t is)
      ∙ added_row t.allocation_number (own_rows kept rows kept.namespace) (ended_rows kept.namespace t) i _
      (ap (λ b. slice_get (cond b rows []) i) (same_name_refl kept.namespace)
      ∙ its_placed.in_order job has there i q at node
      (ap (λ m. option_and_then (λ (rows : PoolRows). get rows.nodes (node_name kept q.node)) (get m kept.pool))
      (ended_keeps (λ x. x.pools) (λ x m. refl)) ∙ row))
      (t.allocation_number + (i + 1)) refl

  -- ---- evaluations

  abbrev evaluation_of : ℕ → Option Tenant → Option Evaluation
  evaluation_of n o = option_and_then (λ u. get u.evaluations n) o

  pub evaluations_stay : (q : Name) (u : Tenant) → get w.tenants q ≡ Some u → (n : ℕ) →
      IsOutside u.evaluation_number (length (losers_in kept p w t q)) n → evaluation_at then (q, n) ≡ evaluation_at w (q, n)
  evaluations_stay q u is n out = ap (evaluation_of n) (tenant_after q u is)
      ∙ added_outside u.evaluation_number (made_in q u) u.evaluations n
      (subst (λ count. IsOutside u.evaluation_number count n) (sym (made_counted q u)) out)
      ∙ ap (evaluation_of n) (sym is)

  pub evaluations_made : (q : Name) (u : Tenant) → get w.tenants q ≡ Some u → (i : ℕ) (v : Victim) → slice_get (losers_in kept p w t q) i ≡ Some v →
      evaluation_at then (q, u.evaluation_number + (i + 1)) ≡ Some (made_for (evicted kept p w t) v u)
  evaluations_made q u is i v at = ap (evaluation_of (u.evaluation_number + (i + 1))) (tenant_after q u is)
      ∙ added_row u.evaluation_number (made_in q u) u.evaluations i (made_for (evicted kept p w t) v u)
      (slice_get-map (λ v. made_for (evicted kept p w t) v u) (losers_in kept p w t q) i ∙ ap (option_map (λ v. made_for (evicted kept p w t) v u)) at)
      (u.evaluation_number + (i + 1)) refl

  -- ---- pools and lists

  abbrev with_placed : World
  with_placed = place_all kept decided.world (placed kept p w t)

  pub places_counted : IsForJob kept p → then.pools ≡ map_rows (counted_rows kept (placed kept p w t)) w.pools
  places_counted for_job = made_up_keeps (evicted kept p w t) (λ x. x.pools) (λ x keys. refl) (λ x m. refl) with_placed
      ∙ its_placed.pools (none_placed for_job) ∙ ap (map_rows (counted_rows kept (placed kept p w t))) (ended_keeps (λ x. x.pools) (λ x m. refl))

  module _ {A : Type 0} (part : World → A) (tenants : (w : World) (m : ByName Tenant) → part (record w { tenants = m }) ≡ part w)
      (pools : (w : World) (m : ByName PoolRows) → part (record w { pools = m }) ≡ part w) where
    before_renewal : part with_placed ≡ part w
    before_renewal = placed_keeps kept part tenants pools (placed kept p w t) decided.world ∙ ended_keeps part tenants

    all_keep : ((w : World) (keys : List Key) → part (record w { ready = keys }) ≡ part w) → part then ≡ part w
    all_keep ready = made_up_keeps (evicted kept p w t) part ready tenants with_placed ∙ before_renewal

  -- the numbers are those before it
  before_numbers : (q : Name) (count n : ℕ) → IsNew count (get with_placed.tenants q) n → IsNew count (get w.tenants q) n
  before_numbers q count n (v, at, low, high) = by (get w.tenants q) refl
      (sym (its_placed.tenants q ∙ ap (option_map (λ u. with_rows (own_rows kept rows q) u)) (ended_tenants q)) ∙ at)
    where
      same : (u : Tenant) → with_rows (own_rows kept rows q) (ended_in q u) ≡ v → u.evaluation_number ≡ v.evaluation_number
      same u is = ap (λ (v : Tenant). v.evaluation_number) is

      by : (o : Option Tenant) → get w.tenants q ≡ o →
          option_map (λ u. with_rows (own_rows kept rows q) u) (option_map (ended_in q) o) ≡ Some v → IsNew count (get w.tenants q) n
      by None was is = absurd (not_Some v is)
      by (Some u) was is = let number = same u (same_Some _ v is) in (u, was, omega (arith, number, low), omega (arith, number, high))

  pub rest_stays : IsRestKept (λ ns. length (losers_in kept p w t ns)) w then
  rest_stays = record {
    quotas = all_keep (λ x. x.quotas) (λ x m. refl) (λ x m. refl) (λ x keys. refl);
    plans = all_keep (λ x. x.plans) (λ x m. refl) (λ x m. refl) (λ x keys. refl);
    blocked = all_keep (λ x. x.blocked) (λ x m. refl) (λ x m. refl) (λ x keys. refl);
    more = (made_up_ready (evicted kept p w t) with_placed).0;
    ready = (made_up_ready (evicted kept p w t) with_placed).1
        ∙ ap (λ l. l ++ (made_up_ready (evicted kept p w t) with_placed).0) (before_renewal (λ x. x.ready) (λ x m. refl) (λ x m. refl));
    new = λ key e. before_numbers key.0 (length (losers_in kept p w t key.0)) key.1 ((made_up_ready (evicted kept p w t) with_placed).2 key e);
  }
