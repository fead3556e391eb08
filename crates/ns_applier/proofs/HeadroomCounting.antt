-- How an Apply is judged: counts that are not made, and nodes in place of placements.
use Rattle.std.specs.Prelude.{◌≡◌, ℕ, ◌+◌, ◌≤◌, Bool, true, false, cond, ◌&&◌, ◌||◌, List, [], ◌∷◌, Option, Some, None, filter, length, nat_lt}
use Rattle.std.proofs.Common.{refl, sym, ap, ◌∙◌, arith}
use Rattle.std.proofs.lemmas.Bool.{le-ltb, ltb-false}
use Rattle.std.specs.Option.{option_and_then, option_map_or}
use Rattle.std.specs.List.{list_any}
use Rattle.std.specs.FinMap.{get}
use Rattle.ns_types.specs.declared.node.Node.{Node}
use Rattle.ns_types.specs.declared.plan.Placement.{Placement}
use Rattle.ns_types.specs.declared.snapshot.Snapshot.{Snapshot}
use Rattle.ns_types.specs.State.Names.{Name, has_number, same_name, same_number}
use Rattle.ns_types.specs.State.Rows.{World, PoolRows, Tenant, node_at}
use Rattle.ns_types.specs.Steps.{greatest, is_past_bound}
use Rattle.ns_types.specs.Working.Commit.{node_name}
use Rattle.ns_types.proofs.Elements.{filter_shorter}
use Rattle.ns_types.proofs.Lists.{left_none, not_both, right_none}
use Rattle.ns_types.proofs.Named.{one_number, same_name_is, same_name_refl, second_of_both}
use Rattle.ns_types.proofs.Tables.{tied}
use Rattle.ns_counters.specs.Bounds.{is_at_bound, is_last_index}
use Rattle.ns_applier.specs.HeadroomApplying.{place_passes, place_passes_on, places_on}
use Rattle.ns_types.specs.Working.Parts.{goes_to, placed_on}
use Rattle.ns_applier.specs.Judging.{allocations_pass, committed_passes, node_passes}
use Rattle.ns_applier.proofs.Applied.{one_node, place_within}
use Rattle.ns_applier.proofs.Raised.{together}

-- ---- as many as could pass, or fewer

fewer : (g n k m : ℕ) → k ≤ m → nat_lt g (n + m) ≡ false → nat_lt g (n + k) ≡ false
fewer g n k m below none =
    let within = ltb-false g (n + m) none in
    le-ltb g (n + k) (omega arith)

pub fewer_allocations : (w : World) (ns : Name) (k m : ℕ) → k ≤ m → allocations_pass w ns m ≡ false → allocations_pass w ns k ≡ false
fewer_allocations w ns k m below = by (get w.tenants ns)
  where
    by : (o : Option Tenant) → option_map_or (λ t. nat_lt greatest (t.allocation_number + m)) o false ≡ false →
        option_map_or (λ t. nat_lt greatest (t.allocation_number + k)) o false ≡ false
    by None none = refl
    by (Some t) none = fewer greatest t.allocation_number k m below none

pub fewer_places : (w : World) (pool name : Name) (k m : ℕ) → k ≤ m → node_passes w pool name m ≡ false → node_passes w pool name k ≡ false
fewer_places w pool name k m below = by (node_at w pool name)
  where
    by : (o : Option Node) → option_map_or (λ node. nat_lt greatest (node.places + m)) o false ≡ false →
        option_map_or (λ node. nat_lt greatest (node.places + k)) o false ≡ false
    by None none = refl
    by (Some node) none = fewer greatest node.places k m below none

pub few_placed : (committed : List ℕ) (placements : List Placement) → length (placed_on committed placements) ≤ length placements
few_placed committed placements = filter_shorter (λ p. has_number committed p.node) placements

pub few_places : (kept : Snapshot) (committed : List ℕ) (placements : List Placement) (pool name : Name) →
    places_on kept (placed_on committed placements) pool name ≤ length placements
few_places kept committed placements pool name =
    let on = filter_shorter (goes_to kept pool name) (placed_on committed placements) in
    let placed = few_placed committed placements in
    omega arith

-- ---- what the words say of lists

pub own_is : (w : World) (ns : Name) (count : ℕ) (does : Bool) → (allocations_pass w ns count || (is_last_index w ns && does))
    ≡ option_map_or (λ t. nat_lt greatest (t.allocation_number + count) || (is_at_bound t.index && does)) (get w.tenants ns) false
own_is w ns count does = by (get w.tenants ns)
  where
    by : (o : Option Tenant) →
        (option_map_or (λ t. nat_lt greatest (t.allocation_number + count)) o false || (option_map_or (λ t. is_at_bound t.index) o false && does))
        ≡ option_map_or (λ t. nat_lt greatest (t.allocation_number + count) || (is_at_bound t.index && does)) o false
    by None = refl
    by (Some t) = refl

-- ---- places on a node

module _ (kept : Snapshot) (committed : List ℕ) where
  pub counted_on : (name : Name) (placements : List Placement) →
      length (filter (λ p. has_number committed p.node && same_name name (node_name kept p.node)) placements)
      ≡ places_on kept (placed_on committed placements) kept.pool name
  counted_on name placements = ap length (by placements)
    where
      on : Placement → Bool
      on p = same_name name (node_name kept p.node)

      goes : (p : Placement) → on p ≡ goes_to kept kept.pool name p
      goes p = ap (λ b. b && same_name name (node_name kept p.node)) (sym (same_name_refl kept.pool))

      of : (c b d : Bool) (p : Placement) (xs ys : List Placement) → b ≡ d → xs ≡ filter (goes_to kept kept.pool name) ys → goes_to kept kept.pool name p ≡ d →
          cond (c && b) (p ∷ xs) xs ≡ filter (goes_to kept kept.pool name) (cond c (p ∷ ys) ys)
      of false b d p xs ys same rest is = rest
      of true b d p xs ys same rest is = (λ i. cond (same i) (p ∷ rest i) (rest i))
          ∙ ap (λ b. cond b (p ∷ filter (goes_to kept kept.pool name) ys) (filter (goes_to kept kept.pool name) ys)) (sym is)

      by : (xs : List Placement) → filter (λ p. has_number committed p.node && on p) xs ≡ filter (goes_to kept kept.pool name) (placed_on committed xs)
      by [] = refl
      by (p ∷ xs) = of (has_number committed p.node) (on p) (goes_to kept kept.pool name p) p (filter (λ p. has_number committed p.node && on p) xs)
          (placed_on committed xs) (goes p) (by xs) refl

-- ---- a node that does its part is asked once

module _ (w : World) (within : is_past_bound w ≡ false) (kept : Snapshot) (committed : List ℕ) (placements : List Placement) where
  abbrev placed : List Placement
  placed = placed_on committed placements

  abbrev passes : ℕ → Bool
  passes k = committed_passes w kept placed k

  none_among : (xs : List ℕ) (k : ℕ) → list_any passes xs ≡ false → has_number xs k ≡ true → passes k ≡ false
  none_among [] k none is = not_both is refl
  none_among (x ∷ xs) k none is = by (none_among xs k (right_none (passes x) _ none)) (same_number k x) refl is
    where
      by : (has_number xs k ≡ true → passes k ≡ false) → (b : Bool) → same_number k x ≡ b → (b || has_number xs k) ≡ true → passes k ≡ false
      by later true same is = ap passes (tied one_number k x same) ∙ left_none (passes x) _ none
      by later false other is = later is

  none_placed : list_any passes committed ≡ false → list_any (place_passes w kept placed) placed ≡ false
  none_placed none = by placements
    where
      by : (xs : List Placement) → list_any (place_passes w kept placed) (placed_on committed xs) ≡ false
      by [] = refl
      by (p ∷ xs) = of (has_number committed p.node) refl (by xs)
        where
          of : (b : Bool) → has_number committed p.node ≡ b → list_any (place_passes w kept placed) (placed_on committed xs) ≡ false →
              list_any (place_passes w kept placed) (cond b (p ∷ placed_on committed xs) (placed_on committed xs)) ≡ false
          of true is rest = (λ i. none_among committed p.node none is i || rest i)
          of false is rest = rest

  -- a placement goes to a node of that name
  by_name : (k : ℕ) (xs : List Placement) → list_any (place_passes w kept placed) xs ≡ false → list_any (goes_to kept kept.pool (node_name kept k)) xs ≡ true →
      passes k ≡ false
  by_name k [] none is = not_both is refl
  by_name k (p ∷ xs) none is = by (by_name k xs (right_none (place_passes w kept placed p) _ none)) (goes_to kept kept.pool (node_name kept k) p) refl is
    where
      by : (list_any (goes_to kept kept.pool (node_name kept k)) xs ≡ true → passes k ≡ false) → (b : Bool) →
          goes_to kept kept.pool (node_name kept k) p ≡ b → (b || list_any (goes_to kept kept.pool (node_name kept k)) xs) ≡ true → passes k ≡ false
      by later true goes is = ap (λ name. option_map_or (place_passes_on kept placed name) (node_at w kept.pool name) false)
          (same_name_is (node_name kept k) (node_name kept p.node) (second_of_both (same_name kept.pool kept.pool) _ goes))
          ∙ left_none (place_passes w kept placed p) _ none
      by later false other is = later is

  by_none : (k : ℕ) → list_any (goes_to kept kept.pool (node_name kept k)) placed ≡ false → passes k ≡ false
  by_none k none = by (get w.pools kept.pool) refl
    where
      of : (p : PoolRows) → get w.pools kept.pool ≡ Some p → (o : Option Node) → get p.nodes (node_name kept k) ≡ o →
          option_map_or (place_passes_on kept placed (node_name kept k)) o false ≡ false
      of p is None at = refl
      of p is (Some node) at = one_node w within kept (record { stops = []; placed = placed; victims = [] }) kept.pool (node_name kept k) node
          (place_within w within kept (record { stops = []; placed = placed; victims = [] }) kept.pool p is (node_name kept k) node at)
          ∙ ap (λ b. b && place_passes_on kept placed (node_name kept k) node) none

      by : (o : Option PoolRows) → get w.pools kept.pool ≡ o →
          option_map_or (place_passes_on kept placed (node_name kept k)) (option_and_then (λ p. get p.nodes (node_name kept k)) o) false ≡ false
      by None is = refl
      by (Some p) is = of p is (get p.nodes (node_name kept k)) refl

  none_committed : list_any (place_passes w kept placed) placed ≡ false → list_any passes committed ≡ false
  none_committed none = by committed
    where
      one : (k : ℕ) (b : Bool) → list_any (goes_to kept kept.pool (node_name kept k)) placed ≡ b → passes k ≡ false
      one k true is = by_name k placed none is
      one k false is = by_none k is

      by : (ks : List ℕ) → list_any passes ks ≡ false
      by [] = refl
      by (k ∷ ks) = (λ i. one k (list_any (goes_to kept kept.pool (node_name kept k)) placed) refl i || by ks i)

  pub by_committed : list_any (committed_passes w kept placed) committed ≡ list_any (place_passes w kept placed) placed
  by_committed = together (list_any passes committed) (list_any (place_passes w kept placed) placed) none_committed none_placed
