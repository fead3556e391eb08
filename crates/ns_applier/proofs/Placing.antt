-- Placements one after another: each is the namespace's next allocation, and counts a place on its node.
use Rattle.std.specs.Prelude.{◌≡◌, ℕ, ◌+◌, ◌&&◌, ◌++◌, zero, suc, Bool, true, false, cond, List, [], ◌∷◌, Option, Some, None, filter, fold, is_some, length}
use Rattle.std.specs.Prelude.{option_map, slice_get, take}
use Rattle.std.proofs.Common.{refl, sym, ap, ◌∙◌, arith, Ordering}
use Rattle.std.proofs.lemmas.List.Sums.{fold-append}
use Rattle.std.specs.Cmp.{IsTotalOrder}
use Rattle.std.specs.FinMap.{FinMap, IsAntisymmetric, get, get-insert, insert, same_map}
use Rattle.std.specs.Option.{option_and_then, option_map_or}
use Rattle.ns_types.specs.declared.allocation.Allocation.{Allocation}
use Rattle.ns_types.specs.declared.job.Job.{Job}
use Rattle.ns_types.specs.declared.node.Node.{Node}
use Rattle.ns_types.specs.declared.plan.Placement.{Placement}
use Rattle.ns_types.specs.declared.snapshot.Snapshot.{Snapshot}
use Rattle.ns_types.specs.Settling.Making.{change_tenant, put_pool, put_tenant}
use Rattle.ns_types.specs.State.Lists.{Each}
use Rattle.ns_types.specs.State.Names.{ByName, Name, same_name}
use Rattle.ns_types.specs.State.Rows.{PoolRows, Tenant, World, node_at}
use Rattle.ns_types.specs.State.Tables.{map_rows}
use Rattle.ns_types.specs.Working.Commit.{new_allocation, node_name, place_all, place_one, place_with, with_allocation, with_place}
use Rattle.ns_types.proofs.Elements.{each_of}
use Rattle.ns_types.proofs.Lists.{not_both}
use Rattle.ns_types.proofs.Named.{names, one_name}
use Rattle.ns_types.proofs.Tables.{get-map_rows, map_rows_idle, tied}
use Rattle.ns_types.proofs.Tests.{not_Some, same_Some, some_mapped}
use Rattle.ns_types.specs.Working.Parts.{goes_to}
use Rattle.ns_applier.specs.HeadroomApplying.{places_on}
use Rattle.ns_applier.specs.Raising.{with_places}
use Rattle.ns_applier.specs.Parts.{counted_rows}
use Rattle.ns_applier.proofs.Numbered.{added, allocations_added}

-- ---- tables

module _ {K X : Type 0} {R : K → K → Ordering} (o : IsTotalOrder R) (same : IsAntisymmetric R) where
  -- rows changed twice
  pub map_rows_then : (f g h : K → X → X) → ((k : K) (x : X) → f k (g k x) ≡ h k x) → (m : FinMap R X) → map_rows f (map_rows g m) ≡ map_rows h m
  map_rows_then f g h both m = same_map o same _ _ (λ q. get-map_rows o same f (map_rows g m) q
      ∙ ap (option_map (f q)) (get-map_rows o same g m q) ∙ by q (get m q) ∙ sym (get-map_rows o same h m q))
    where
      by : (q : K) (r : Option X) → option_map (f q) (option_map (g q) r) ≡ option_map (h q) r
      by q None = refl
      by q (Some x) = ap Some (both q x)

-- ---- one namespace changed

idle : (b : Bool) (f : Tenant → Tenant) → b ≡ false → (o : Option Tenant) → o ≡ option_map (λ t. cond b (f t) t) o
idle b f e None = refl
idle b f e (Some t) = ap (λ b. Some (cond b (f t) t)) (sym e)

pub get_changed : (ns : Name) (f : Tenant → Tenant) (w : World) (q : Name) →
    get (change_tenant ns f w).tenants q ≡ option_map (λ t. cond (same_name q ns) (f t) t) (get w.tenants q)
get_changed ns f w q = by (get w.tenants ns) refl (same_name q ns) refl
  where
    by : (o : Option Tenant) → get w.tenants ns ≡ o → (b : Bool) → same_name q ns ≡ b →
        get (option_map_or (λ t. put_tenant ns (f t) w) o w).tenants q ≡ option_map (λ t. cond (same_name q ns) (f t) t) (get w.tenants q)
    by None at true e = (ap (get w.tenants) (tied one_name q ns e) ∙ at)
        ∙ ap (option_map (λ t. cond (same_name q ns) (f t) t)) (sym (ap (get w.tenants) (tied one_name q ns e) ∙ at))
    by None at false e = idle (same_name q ns) f e (get w.tenants q)
    by (Some t) at true e = get-insert names w.tenants ns (f t) q ∙ ap (λ b. cond b (Some (f t)) (get w.tenants q)) e
        ∙ ap (λ b. Some (cond b (f t) t)) (sym e)
        ∙ ap (option_map (λ t. cond (same_name q ns) (f t) t)) (sym (ap (get w.tenants) (tied one_name q ns e) ∙ at))
    by (Some t) at false e = get-insert names w.tenants ns (f t) q ∙ ap (λ b. cond b (Some (f t)) (get w.tenants q)) e
        ∙ idle (same_name q ns) f e (get w.tenants q)

module _ {A : Type 0} (part : World → A) (keeps : (w : World) (m : ByName Tenant) → part (record w { tenants = m }) ≡ part w) where
  pub changed_keeps : (ns : Name) (f : Tenant → Tenant) (w : World) → part (change_tenant ns f w) ≡ part w
  changed_keeps ns f w = by (get w.tenants ns)
    where
      by : (o : Option Tenant) → part (option_map_or (λ t. put_tenant ns (f t) w) o w) ≡ part w
      by None = refl
      by (Some t) = keeps w (insert w.tenants ns (f t))

-- ---- places

counted_then : (kept : Snapshot) (p : Placement) (ps : List Placement) (pool name : Name) (node : Node) →
    with_places (places_on kept ps pool name) (with_places (places_on kept (p ∷ []) pool name) node) ≡ with_places (places_on kept (p ∷ ps) pool name) node
counted_then kept p ps pool name node = λ i. record node { places = by (goes_to kept pool name p) i }
  where
    by : (b : Bool) → node.places + length (cond b (p ∷ []) []) + places_on kept ps pool name
        ≡ node.places + length (cond b (p ∷ filter (goes_to kept pool name) ps) (filter (goes_to kept pool name) ps))
    by true = omega arith
    by false = omega arith

none_more : (node : Node) → with_places 0 node ≡ node
none_more node = λ i. record node { places = by i }
  where
    by : node.places + 0 ≡ node.places
    by = omega arith

module _ (kept : Snapshot) (p : Placement) where
  abbrev own : Name
  own = node_name kept p.node

  abbrev one : Name → Name → ℕ
  one pool name = places_on kept (p ∷ []) pool name

  none_of : (pool name : Name) → goes_to kept pool name p ≡ false → (node : Node) → with_places (one pool name) node ≡ node
  none_of pool name e node = ap (λ b. with_places (length (cond b (p ∷ []) [])) node) e ∙ none_more node

  one_of : (pool name : Name) → goes_to kept pool name p ≡ true → (node : Node) → with_places (one pool name) node ≡ with_places 1 node
  one_of pool name e node = ap (λ b. with_places (length (cond b (p ∷ []) [])) node) e

  -- the nodes of the plan's pool
  nodes_then : (m : ByName Node) (pool : Name) → same_name pool kept.pool ≡ true →
      map_rows (λ name node. with_places (one pool name) node) m ≡ option_map_or (λ node. insert m own (with_places 1 node)) (get m own) m
  nodes_then m pool here = same_map names one_name _ _ (λ name. get-map_rows names one_name (λ name node. with_places (one pool name) node) m name
      ∙ by (get m own) refl name (same_name name own) refl)
    where
      goes : (name : Name) (b : Bool) → same_name name own ≡ b → goes_to kept pool name p ≡ b
      goes name b e = λ i. here i && e i

      other : (name : Name) → same_name name own ≡ false → (r : Option Node) → option_map (with_places (one pool name)) r ≡ r
      other name e None = refl
      other name e (Some node) = ap Some (none_of pool name (goes name false e) node)

      by : (o : Option Node) → get m own ≡ o → (name : Name) (b : Bool) → same_name name own ≡ b →
          option_map (with_places (one pool name)) (get m name) ≡ get (option_map_or (λ node. insert m own (with_places 1 node)) o m) name
      by None at name true e = ap (option_map (with_places (one pool name))) (ap (get m) (tied one_name name own e) ∙ at)
          ∙ sym (ap (get m) (tied one_name name own e) ∙ at)
      by None at name false e = other name e (get m name)
      by (Some node) at name true e = ap (option_map (with_places (one pool name))) (ap (get m) (tied one_name name own e) ∙ at)
          ∙ ap Some (one_of pool name (goes name true e) node)
          ∙ sym (get-insert names m own (with_places 1 node) name ∙ ap (λ b. cond b (Some (with_places 1 node)) (get m name)) e)
      by (Some node) at name false e = other name e (get m name)
          ∙ sym (get-insert names m own (with_places 1 node) name ∙ ap (λ b. cond b (Some (with_places 1 node)) (get m name)) e)

  -- the other pools
  others_stay : (pool : Name) → same_name pool kept.pool ≡ false → (rows : PoolRows) → counted_rows kept (p ∷ []) pool rows ≡ rows
  others_stay pool other rows = λ i. record rows {
    nodes = map_rows_idle names one_name (λ name node. with_places (one pool name) node) rows.nodes
        (λ name node _. none_of pool name (ap (λ b. b && same_name name own) other) node) i;
  }

-- no placement counts anywhere
pub none_counted : (kept : Snapshot) (m : ByName PoolRows) → map_rows (counted_rows kept []) m ≡ m
none_counted kept m = map_rows_idle names one_name (counted_rows kept []) m (λ pool rows _. λ i. record rows {
  nodes = map_rows_idle names one_name (λ _ node. with_places 0 node) rows.nodes (λ _ node _. none_more node) i;
})

pub node_counted : (kept : Snapshot) (x w : World) (ps : List Placement) → x.pools ≡ map_rows (counted_rows kept ps) w.pools → (pool name : Name) →
    node_at x pool name ≡ option_map (with_places (places_on kept ps pool name)) (node_at w pool name)
node_counted kept x w ps pools pool name = ap (λ m. option_and_then (λ rows. get rows.nodes name) (get m pool)) pools
    ∙ ap (option_and_then (λ rows. get rows.nodes name)) (get-map_rows names one_name (counted_rows kept ps) w.pools pool) ∙ by (get w.pools pool)
  where
    by : (o : Option PoolRows) → option_and_then (λ rows. get rows.nodes name) (option_map (counted_rows kept ps pool) o)
        ≡ option_map (with_places (places_on kept ps pool name)) (option_and_then (λ rows. get rows.nodes name) o)
    by None = refl
    by (Some rows) = get-map_rows names one_name (λ name node. with_places (places_on kept ps pool name) node) rows.nodes name

-- ---- one placement

module _ (kept : Snapshot) (job : Job) (has : kept.job ≡ Some job) where
  -- the node as it is then, if it is there
  abbrev pub seen : World → Placement → Option Node
  seen w p = node_at w kept.pool (node_name kept p.node)

  abbrev allocated : World → Placement → Node → World
  allocated w p node = change_tenant kept.namespace (with_allocation (new_allocation kept job p node)) w

  abbrev placed_in : World → Placement → Option Node → World
  placed_in w p o = option_map_or (place_with kept p w job) o w

  one_is : (w : World) (p : Placement) → place_one kept w p ≡ placed_in w p (seen w p)
  unfolding place_one
  one_is w p = ap (λ o. option_map_or (λ job. option_map_or (place_with kept p w job) (seen w p) w) o w) has

  one_pools : (w : World) (p : Placement) → (place_one kept w p).pools ≡ map_rows (counted_rows kept (p ∷ [])) w.pools
  one_pools w p = ap (λ x. x.pools) (one_is w p) ∙ by (get w.pools kept.pool) refl
    where
      after : ByName PoolRows
      after = map_rows (counted_rows kept (p ∷ [])) w.pools

      here : (rows : PoolRows) → get w.pools kept.pool ≡ Some rows → (nodes : ByName Node) →
          option_map_or (λ node. insert rows.nodes (node_name kept p.node) (with_places 1 node)) (get rows.nodes (node_name kept p.node)) rows.nodes ≡ nodes →
          insert w.pools kept.pool (record rows { nodes = nodes }) ≡ after
      here rows at nodes is = same_map names one_name _ _ (λ q. get-insert names w.pools kept.pool (record rows { nodes = nodes }) q
          ∙ row q (same_name q kept.pool) refl ∙ sym (get-map_rows names one_name (counted_rows kept (p ∷ [])) w.pools q))
        where
          left : (q : Name) → same_name q kept.pool ≡ false → (r : Option PoolRows) → r ≡ option_map (counted_rows kept (p ∷ []) q) r
          left q e None = refl
          left q e (Some other) = ap Some (sym (others_stay kept p q e other))

          row : (q : Name) (b : Bool) → same_name q kept.pool ≡ b →
              cond b (Some (record rows { nodes = nodes })) (get w.pools q) ≡ option_map (counted_rows kept (p ∷ []) q) (get w.pools q)
          row q true e = (λ i. Some (record rows { nodes = (sym is ∙ sym (nodes_then kept p rows.nodes q e)) i }))
              ∙ ap (option_map (counted_rows kept (p ∷ []) q)) (sym (ap (get w.pools) (tied one_name q kept.pool e) ∙ at))
          row q false e = left q e (get w.pools q)

      same_row : (rows : PoolRows) → get w.pools kept.pool ≡ Some rows → insert w.pools kept.pool rows ≡ w.pools
      same_row rows at = same_map names one_name _ _ (λ q. get-insert names w.pools kept.pool rows q ∙ row q (same_name q kept.pool) refl)
        where
          row : (q : Name) (b : Bool) → same_name q kept.pool ≡ b → cond b (Some rows) (get w.pools q) ≡ get w.pools q
          row q true e = sym (ap (get w.pools) (tied one_name q kept.pool e) ∙ at)
          row q false e = refl

      node : (rows : PoolRows) → get w.pools kept.pool ≡ Some rows → (n : Option Node) → get rows.nodes (node_name kept p.node) ≡ n →
          (placed_in w p n).pools ≡ after
      node rows at None is = sym (same_row rows at)
          ∙ here rows at rows.nodes (ap (λ n. option_map_or (λ node. insert rows.nodes (node_name kept p.node) (with_places 1 node)) n rows.nodes) is)
      node rows at (Some n) is =
          (λ i. (option_map_or (λ q. put_pool kept.pool (with_place (node_name kept p.node) n q) (allocated w p n))
          ((ap (λ m. get m kept.pool) (changed_keeps (λ x. x.pools) (λ x m. refl) kept.namespace (with_allocation (new_allocation kept job p n)) w) ∙ at) i)
          (allocated w p n)).pools)
          ∙ ap (λ m. insert m kept.pool (with_place (node_name kept p.node) n rows))
          (changed_keeps (λ x. x.pools) (λ x m. refl) kept.namespace (with_allocation (new_allocation kept job p n)) w)
          ∙ here rows at (insert rows.nodes (node_name kept p.node) (with_places 1 n))
          (ap (λ n. option_map_or (λ node. insert rows.nodes (node_name kept p.node) (with_places 1 node)) n rows.nodes) is)

      none : get w.pools kept.pool ≡ None → w.pools ≡ after
      none at = same_map names one_name _ _ (λ q. row q (same_name q kept.pool) refl (get w.pools q) refl
          ∙ sym (get-map_rows names one_name (counted_rows kept (p ∷ [])) w.pools q))
        where
          row : (q : Name) (b : Bool) → same_name q kept.pool ≡ b → (r : Option PoolRows) → get w.pools q ≡ r →
              get w.pools q ≡ option_map (counted_rows kept (p ∷ []) q) (get w.pools q)
          row q true e r is = (ap (get w.pools) (tied one_name q kept.pool e) ∙ at)
              ∙ ap (option_map (counted_rows kept (p ∷ []) q)) (sym (ap (get w.pools) (tied one_name q kept.pool e) ∙ at))
          row q false e None is = is ∙ ap (option_map (counted_rows kept (p ∷ []) q)) (sym is)
          row q false e (Some rows) is = is ∙ ap Some (sym (others_stay kept p q e rows)) ∙ ap (option_map (counted_rows kept (p ∷ []) q)) (sym is)

      by : (o : Option PoolRows) → get w.pools kept.pool ≡ o →
          (placed_in w p (option_and_then (λ rows. get rows.nodes (node_name kept p.node)) (get w.pools kept.pool))).pools ≡ after
      by None at = ap (λ o. (placed_in w p (option_and_then (λ rows. get rows.nodes (node_name kept p.node)) o)).pools) at ∙ none at
      by (Some rows) at = ap (λ o. (placed_in w p (option_and_then (λ rows. get rows.nodes (node_name kept p.node)) o)).pools) at
          ∙ node rows at (get rows.nodes (node_name kept p.node)) refl

  -- ---- all

  pub all_pools : (ps : List Placement) (w : World) → (place_all kept w ps).pools ≡ map_rows (counted_rows kept ps) w.pools
  all_pools [] w = sym (none_counted kept w.pools)
  all_pools (p ∷ ps) w = all_pools ps (place_one kept w p) ∙ ap (map_rows (counted_rows kept ps)) (one_pools w p)
      ∙ map_rows_then names one_name (counted_rows kept ps) (counted_rows kept (p ∷ [])) (counted_rows kept (p ∷ ps)) (λ pool rows i. record rows {
        nodes = map_rows_then names one_name (λ name node. with_places (places_on kept ps pool name) node)
            (λ name node. with_places (places_on kept (p ∷ []) pool name) node) (λ name node. with_places (places_on kept (p ∷ ps) pool name) node)
            (λ name node. counted_then kept p ps pool name node) rows.nodes i;
      }) w.pools

  -- ---- the new allocations

  abbrev put_rows : List Allocation → Tenant → Tenant
  put_rows rows t = fold (λ t a. with_allocation a t) t rows

  abbrev new_row : Placement → Option Node → List Allocation
  new_row p o = option_map_or (λ node. new_allocation kept job p node ∷ []) o []

  -- each as it is put
  abbrev pub new_rows : World → List Placement → List Allocation
  new_rows w [] = []
  new_rows w (p ∷ ps) = new_row p (seen w p) ++ new_rows (place_one kept w p) ps

  abbrev in_own : List Allocation → Name → Tenant → Tenant
  in_own rows q t = cond (same_name q kept.namespace) (put_rows rows t) t

  idle_own : (q : Name) (o : Option Tenant) → o ≡ option_map (in_own [] q) o
  idle_own q None = refl
  idle_own q (Some t) = ap Some (by (same_name q kept.namespace))
    where
      by : (b : Bool) → t ≡ cond b t t
      by true = refl
      by false = refl

  one_tenants : (w : World) (p : Placement) (q : Name) → get (place_one kept w p).tenants q ≡ option_map (in_own (new_row p (seen w p)) q) (get w.tenants q)
  one_tenants w p q = ap (λ x. get x.tenants q) (one_is w p) ∙ by (seen w p)
    where
      counts : (x : World) (n : Node) (o : Option PoolRows) →
          (option_map_or (λ q. put_pool kept.pool (with_place (node_name kept p.node) n q) x) o x).tenants ≡ x.tenants
      counts x n None = refl
      counts x n (Some rows) = refl

      by : (o : Option Node) → get (placed_in w p o).tenants q ≡ option_map (in_own (new_row p o) q) (get w.tenants q)
      by None = idle_own q (get w.tenants q)
      by (Some n) = ap (λ m. get m q) (counts (allocated w p n) n (get (allocated w p n).pools kept.pool))
          ∙ get_changed kept.namespace (with_allocation (new_allocation kept job p n)) w q

  pub all_tenants : (ps : List Placement) (w : World) (q : Name) → get (place_all kept w ps).tenants q ≡ option_map (in_own (new_rows w ps) q) (get w.tenants q)
  all_tenants [] w q = idle_own q (get w.tenants q)
  all_tenants (p ∷ ps) w q = all_tenants ps (place_one kept w p) q ∙ ap (option_map (in_own (new_rows (place_one kept w p) ps) q)) (one_tenants w p q)
      ∙ by (get w.tenants q)
    where
      first : List Allocation
      first = new_row p (seen w p)

      rest : List Allocation
      rest = new_rows (place_one kept w p) ps

      then : (b : Bool) (t : Tenant) →
          cond b (put_rows rest (cond b (put_rows first t) t)) (cond b (put_rows first t) t) ≡ cond b (put_rows (first ++ rest) t) t
      then true t = sym (fold-append (λ t a. with_allocation a t) t first rest)
      then false t = refl

      by : (o : Option Tenant) → option_map (in_own rest q) (option_map (in_own first q) o) ≡ option_map (in_own (first ++ rest) q) o
      by None = refl
      by (Some t) = ap Some (then (same_name q kept.namespace) t)

  -- ---- where their nodes are there

  abbrev pub IsThere : World → Placement → Type 0
  IsThere w p = is_some (seen w p) ≡ true

  there_still : (w : World) (p q : Placement) → IsThere w q → IsThere (place_one kept w p) q
  there_still w p q there = ap is_some (node_counted kept (place_one kept w p) w (p ∷ []) (one_pools w p) kept.pool (node_name kept q.node))
      ∙ some_mapped (with_places (places_on kept (p ∷ []) kept.pool (node_name kept q.node))) (seen w q) ∙ there

  pub rows_counted : (ps : List Placement) (w : World) → Each (IsThere w) ps → length (new_rows w ps) ≡ length ps
  rows_counted [] w h = refl
  rows_counted (p ∷ ps) w h = by (seen w p) h.0
      (rows_counted ps (place_one kept w p) (each_of (IsThere w) (IsThere (place_one kept w p)) (λ q. there_still w p q) ps h.1))
    where
      by : (o : Option Node) → is_some o ≡ true → length (new_rows (place_one kept w p) ps) ≡ length ps →
          length (new_row p o ++ new_rows (place_one kept w p) ps) ≡ length (p ∷ ps)
      by None e rest = not_both e refl
      by (Some n) e rest = ap suc rest

  -- each has its node as the ones before it leave it
  pub rows_in_order : (ps : List Placement) (w : World) → Each (IsThere w) ps → (i : ℕ) (p : Placement) → slice_get ps i ≡ Some p →
      (node : Node) → seen w p ≡ Some node →
      slice_get (new_rows w ps) i ≡ Some (new_allocation kept job p (with_places (places_on kept (take i ps) kept.pool (node_name kept p.node)) node))
  rows_in_order [] w h i p is node at = absurd (not_Some p is)
  rows_in_order (q ∷ ps) w h zero p is node at = ap (λ o. slice_get (new_row q o ++ new_rows (place_one kept w q) ps) 0) (ap (seen w) (same_Some q p is) ∙ at)
      ∙ (λ i. Some (new_allocation kept job (same_Some q p is i) (sym (none_more node) i)))
  rows_in_order (q ∷ ps) w h (suc i) p is node at = by (seen w q) h.0
      (rows_in_order ps (place_one kept w q) (each_of (IsThere w) (IsThere (place_one kept w q)) (λ r. there_still w q r) ps h.1) i p is
      (with_places (places_on kept (q ∷ []) kept.pool (node_name kept p.node)) node)
      (node_counted kept (place_one kept w q) w (q ∷ []) (one_pools w q) kept.pool (node_name kept p.node)
      ∙ ap (option_map (with_places (places_on kept (q ∷ []) kept.pool (node_name kept p.node)))) at)
      ∙ ap (λ n. Some (new_allocation kept job p n)) (counted_then kept q (take i ps) kept.pool (node_name kept p.node) node))
    where
      last : Option Allocation
      last = Some (new_allocation kept job p (with_places (places_on kept (take (suc i) (q ∷ ps)) kept.pool (node_name kept p.node)) node))

      by : (o : Option Node) → is_some o ≡ true → slice_get (new_rows (place_one kept w q) ps) i ≡ last →
          slice_get (new_row q o ++ new_rows (place_one kept w q) ps) (suc i) ≡ last
      by None e rest = not_both e refl
      by (Some n) e rest = rest

-- ---- for a job or for none

abbrev pub own_rows : Snapshot → List Allocation → Name → List Allocation
own_rows kept rows q = cond (same_name q kept.namespace) rows []

abbrev pub with_rows : List Allocation → Tenant → Tenant
with_rows rows t = record t { allocation_number = t.allocation_number + length rows; allocations = added t.allocation_number rows t.allocations }

-- one row for each placement, with the node as those before it leave it
pub record IsPlaced (kept : Snapshot) (ps : List Placement) (w : World) : Type 0 where
  pub rows : List Allocation
  pub tenants : (q : Name) → get (place_all kept w ps).tenants q ≡ option_map (λ t. with_rows (own_rows kept rows q) t) (get w.tenants q)
  pub pools : (kept.job ≡ None → ps ≡ []) → (place_all kept w ps).pools ≡ map_rows (counted_rows kept ps) w.pools
  pub counted : (kept.job ≡ None → ps ≡ []) → Each (λ p. is_some (node_at w kept.pool (node_name kept p.node)) ≡ true) ps → length rows ≡ length ps
  pub in_order : (job : Job) → kept.job ≡ Some job → Each (λ p. is_some (node_at w kept.pool (node_name kept p.node)) ≡ true) ps →
      (i : ℕ) (p : Placement) → slice_get ps i ≡ Some p → (node : Node) → node_at w kept.pool (node_name kept p.node) ≡ Some node →
      slice_get rows i ≡ Some (new_allocation kept job p (with_places (places_on kept (take i ps) kept.pool (node_name kept p.node)) node))

module _ (kept : Snapshot) where
  placed_for : (job : Job) → kept.job ≡ Some job → (ps : List Placement) (w : World) → IsPlaced kept ps w
  placed_for job has ps w = record {
    rows = rows;
    tenants = λ q. all_tenants kept job has ps w q ∙ by q (get w.tenants q);
    pools = λ _. all_pools kept job has ps w;
    counted = λ _ there. rows_counted kept job has ps w there;
    in_order = λ j has_j there i p is node at. rows_in_order kept job has ps w there i p is node at
        ∙ ap (λ j. Some (new_allocation kept j p (with_places (places_on kept (take i ps) kept.pool (node_name kept p.node)) node)))
        (same_Some job j (sym has ∙ has_j));
  }
    where
      rows : List Allocation
      rows = new_rows kept job has w ps

      then : (b : Bool) (t : Tenant) → cond b (fold (λ t a. with_allocation a t) t rows) t ≡ with_rows (cond b rows []) t
      then true t = allocations_added rows t
      then false t = allocations_added [] t

      by : (q : Name) (o : Option Tenant) →
          option_map (λ t. cond (same_name q kept.namespace) (fold (λ t a. with_allocation a t) t rows) t) o
          ≡ option_map (λ t. with_rows (own_rows kept rows q) t) o
      by q None = refl
      by q (Some t) = ap Some (then (same_name q kept.namespace) t)

  none_is : kept.job ≡ None → (w : World) (p : Placement) → place_one kept w p ≡ w
  unfolding place_one
  none_is none w p = ap (λ o. option_map_or (λ job. option_map_or (place_with kept p w job) (node_at w kept.pool (node_name kept p.node)) w) o w) none

  none_are : kept.job ≡ None → (ps : List Placement) (w : World) → place_all kept w ps ≡ w
  none_are none [] w = refl
  none_are none (p ∷ ps) w = none_are none ps (place_one kept w p) ∙ none_is none w p

  placed_for_none : kept.job ≡ None → (ps : List Placement) (w : World) → IsPlaced kept ps w
  placed_for_none none ps w = record {
    rows = [];
    tenants = λ q. ap (λ x. get x.tenants q) (none_are none ps w) ∙ by q (get w.tenants q);
    pools = λ empty. ap (λ x. x.pools) (none_are none ps w) ∙ sym (none_counted kept w.pools) ∙ ap (λ ps. map_rows (counted_rows kept ps) w.pools)
        (sym (empty none));
    counted = λ empty _. sym (ap length (empty none));
    in_order = λ job has _ _ _ _ _ _. absurd (not_Some job (sym none ∙ has));
  }
    where
      then : (b : Bool) (t : Tenant) → t ≡ with_rows (cond b [] []) t
      then true t = allocations_added [] t
      then false t = allocations_added [] t

      by : (q : Name) (o : Option Tenant) → o ≡ option_map (λ t. with_rows (own_rows kept [] q) t) o
      by q None = refl
      by q (Some t) = ap Some (then (same_name q kept.namespace) t)

  pub is_placed : (ps : List Placement) (w : World) → IsPlaced kept ps w
  is_placed ps w = by kept.job refl
    where
      by : (o : Option Job) → kept.job ≡ o → IsPlaced kept ps w
      by None none = placed_for_none none ps w
      by (Some job) has = placed_for job has ps w

  -- ---- the rest

  module _ {A : Type 0} (part : World → A) (tenants : (w : World) (m : ByName Tenant) → part (record w { tenants = m }) ≡ part w)
      (pools : (w : World) (m : ByName PoolRows) → part (record w { pools = m }) ≡ part w) where
    one_keeps : (w : World) (p : Placement) → part (place_one kept w p) ≡ part w
    unfolding place_one
    one_keeps w p = job kept.job
      where
        counts : (x : World) (n : Node) (o : Option PoolRows) →
            part (option_map_or (λ q. put_pool kept.pool (with_place (node_name kept p.node) n q) x) o x) ≡ part x
        counts x n None = refl
        counts x n (Some rows) = pools x (insert x.pools kept.pool (with_place (node_name kept p.node) n rows))

        put : (f : Tenant → Tenant) (o : Option Tenant) → part (option_map_or (λ t. put_tenant kept.namespace (f t) w) o w) ≡ part w
        put f None = refl
        put f (Some t) = tenants w (insert w.tenants kept.namespace (f t))

        node : (j : Job) (o : Option Node) → part (option_map_or (place_with kept p w j) o w) ≡ part w
        node j None = refl
        node j (Some n) = counts (change_tenant kept.namespace (with_allocation (new_allocation kept j p n)) w) n
            (get (change_tenant kept.namespace (with_allocation (new_allocation kept j p n)) w).pools kept.pool)
            ∙ put (with_allocation (new_allocation kept j p n)) (get w.tenants kept.namespace)

        job : (o : Option Job) →
            part (option_map_or (λ job. option_map_or (place_with kept p w job) (node_at w kept.pool (node_name kept p.node)) w) o w) ≡ part w
        job None = refl
        job (Some j) = node j (node_at w kept.pool (node_name kept p.node))

    pub placed_keeps : (ps : List Placement) (w : World) → part (place_all kept w ps) ≡ part w
    placed_keeps [] w = refl
    placed_keeps (p ∷ ps) w = placed_keeps ps (place_one kept w p) ∙ one_keeps w p
