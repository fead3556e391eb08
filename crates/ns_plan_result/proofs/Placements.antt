-- A placement, and what is left for the others after it.
use Rattle.std.specs.Prelude.{◌≡◌, ℕ, ◌+◌, ◌<◌, ◌≤◌, ◌^◌, Bool, true, false, cond, List, [], ◌∷◌, Option, Some, None, drop, length}
use Rattle.std.proofs.Common.{add-one, get_or, refl, sym, ap, subst, arith, ◌∙◌}
use Rattle.std.proofs.Math.Seq.{drop-cons}
use Rattle.std.specs.FinMap.{get, get-insert}
use Rattle.std.specs.Option.{option_and_then, option_map_or}
use Rattle.ns_types.specs.declared.allocation.Allocation.{Allocation}
use Rattle.ns_types.specs.declared.job.Job.{Job}
use Rattle.ns_types.specs.declared.node.Node.{Node}
use Rattle.ns_types.specs.declared.plan.Placement.{Placement}
use Rattle.ns_types.specs.declared.snapshot.Snapshot.{Snapshot}
use Rattle.ns_types.specs.Settling.Making.{change_tenant, put_pool, put_tenant}
use Rattle.ns_types.specs.State.Names.{Name, has_number, same_name}
use Rattle.ns_types.specs.State.Rows.{PoolRows, Tenant, World, node_at}
use Rattle.ns_types.specs.Working.Commit.{new_allocation, node_name, place_all, place_one, place_with, with_allocation, with_place}
use Rattle.ns_types.proofs.Named.{names, one_name, same_name_is, same_name_refl}
use Rattle.ns_types.proofs.TableRows.{get_put}
use Rattle.ns_types.proofs.Tests.{not_Some, same_Some}
use Rattle.ns_change.specs.Changed.{HasAllocationLeft, HasPlaceLeft, change_pool, count_place}
use Rattle.ns_plan_result.specs.Placing.{CanPlace, on_node}
use Rattle.ns_types.specs.Working.Parts.{placed_on}
use Rattle.ns_change.proofs.Nothing.{pool_alone}

-- a change of a namespace leaves the pools
pub pools_stay : (ns : Name) (f : Tenant → Tenant) (w : World) → (change_tenant ns f w).pools ≡ w.pools
pools_stay ns f w = by (get w.tenants ns)
  where
    by : (o : Option Tenant) → (option_map_or (λ t. put_tenant ns (f t) w) o w).pools ≡ w.pools
    by None = refl
    by (Some t) = refl

module _ (kept : Snapshot) (p : Placement) (w : World) where
  abbrev name : Name
  name = node_name kept p.node

  pub placed_nowhere : node_at w kept.pool name ≡ None → (job : Job) → kept.job ≡ Some job → w ≡ place_one kept w p
  unfolding place_one
  placed_nowhere is job at = λ i. option_map_or (λ job. option_map_or (place_with kept p w job) (sym is i) w) (sym at i) w

  module _ (job : Job) (at : kept.job ≡ Some job) (node : Node) (is : node_at w kept.pool name ≡ Some node) where
    abbrev added : World
    added = change_tenant kept.namespace (with_allocation (new_allocation kept job p node)) w

    pub one_placed : place_one kept w p ≡ change_pool kept.pool (with_place name node) added
    unfolding place_one
    one_placed = λ i. option_map_or (λ job. option_map_or (place_with kept p w job) (is i) w) (at i) w

    node_stays : node_at added kept.pool name ≡ Some node
    node_stays = ap (λ m. option_and_then (λ (p : PoolRows). get p.nodes name) (get m kept.pool))
        (pools_stay kept.namespace (with_allocation (new_allocation kept job p node)) w) ∙ is

    pub counted_once : count_place kept.pool name added ≡ place_one kept w p
    counted_once = ap (λ o. option_map_or (λ row. change_pool kept.pool (with_place name row) added) o added) node_stays ∙ sym one_placed

  -- a plan that is for no job places nothing
  pub no_job : kept.job ≡ None → place_one kept w p ≡ w
  unfolding place_one
  no_job at = λ i. option_map_or (λ job. option_map_or (place_with kept p w job) (node_at w kept.pool name) w) (at i) w

pub none_placed : (kept : Snapshot) → kept.job ≡ None → (ps : List Placement) (w : World) → w ≡ place_all kept w ps
none_placed kept at [] w = refl
none_placed kept at (p ∷ ps) w = none_placed kept at ps w ∙ ap (λ x. place_all kept x ps) (sym (no_job kept p w at))

-- ---- what is left

node_then : (x : World) (pool name : Name) (node : Node) → node_at x pool name ≡ Some node → (q : Name) →
    node_at (change_pool pool (with_place name node) x) pool q ≡ cond (same_name q name) (Some (record node { places = node.places + 1 })) (node_at x pool q)
node_then x pool name node is q = by (get x.pools pool) is
  where
    by : (o : Option PoolRows) → option_and_then (λ p. get p.nodes name) o ≡ Some node →
        option_and_then (λ p. get p.nodes q) (get (option_map_or (λ p. put_pool pool (with_place name node p) x) o x).pools pool)
        ≡ cond (same_name q name) (Some (record node { places = node.places + 1 })) (option_and_then (λ p. get p.nodes q) o)
    by None is = absurd (not_Some node is)
    by (Some rows) is = ap (option_and_then (λ (p : PoolRows). get p.nodes q)) (get_put names one_name x.pools pool (with_place name node rows))
        ∙ get-insert names rows.nodes name (record node { places = node.places + 1 }) q

module _ (kept : Snapshot) (p : Placement) (rest : List Placement) where
  -- whatever the name
  counted_or_not : (q : Name) → length (on_node kept q (p ∷ rest)) ≡
      cond (same_name (node_name kept p.node) q) (length (on_node kept q rest) + 1) (length (on_node kept q rest))
  counted_or_not q = elim (same_name (node_name kept p.node) q) as (λ b. length (cond b (p ∷ on_node kept q rest) (on_node kept q rest)) ≡
      cond b (length (on_node kept q rest) + 1) (length (on_node kept q rest))) [ true ↦ omega arith | false ↦ refl ]

  fewer : (q : Name) → length (on_node kept q rest) ≤ length (on_node kept q (p ∷ rest))
  fewer q = subst (λ n. length (on_node kept q rest) ≤ n) (sym (counted_or_not q)) (by (same_name (node_name kept p.node) q))
    where
      by : (b : Bool) → length (on_node kept q rest) ≤ cond b (length (on_node kept q rest) + 1) (length (on_node kept q rest))
      by true = omega arith
      by false = omega arith

  one_of_it : (q : Name) → same_name (node_name kept p.node) q ≡ true → length (on_node kept q (p ∷ rest)) ≡ length (on_node kept q rest) + 1
  one_of_it q e = counted_or_not q ∙ ap (λ b. cond b (length (on_node kept q rest) + 1) (length (on_node kept q rest))) e

  module _ (w : World) (can : CanPlace kept (p ∷ rest) w) where
    pub number_left : HasAllocationLeft w kept.namespace
    number_left t is = let h = can.numbers t is in omega arith

    pub place_left : HasPlaceLeft w kept.pool (node_name kept p.node)
    place_left node is =
        let h = can.places (node_name kept p.node) node is in
        let one = one_of_it (node_name kept p.node) (same_name_refl (node_name kept p.node)) in
        omega arith

    pub left_without : CanPlace kept rest w
    left_without = record {
      numbers = λ t is. let h = can.numbers t is in omega arith;
      places = λ q node is. let h = can.places q node is in let f = fewer q in omega arith;
    }

    module _ (node : Node) (there : node_at w kept.pool (node_name kept p.node) ≡ Some node) (a : Allocation) where
      abbrev and_added : World
      and_added = change_tenant kept.namespace (with_allocation a) w

      abbrev then : World
      then = change_pool kept.pool (with_place (node_name kept p.node) node) and_added

      node_before : (q : Name) → node_at and_added kept.pool q ≡ node_at w kept.pool q
      node_before q = ap (λ m. option_and_then (λ (p : PoolRows). get p.nodes q) (get m kept.pool)) (pools_stay kept.namespace (with_allocation a) w)

      numbers_then : (t : Tenant) → get then.tenants kept.namespace ≡ Some t → t.allocation_number + length rest < 2 ^ 64
      numbers_then t is = by (get w.tenants kept.namespace) refl (sym (ap (λ m. get m kept.namespace) (pool_alone kept.pool _ and_added)) ∙ is)
        where
          by : (o : Option Tenant) → get w.tenants kept.namespace ≡ o →
              get (option_map_or (λ t. put_tenant kept.namespace (with_allocation a t) w) o w).tenants kept.namespace ≡ Some t →
              t.allocation_number + length rest < 2 ^ 64
          by None at is = let h = can.numbers t is in omega arith
          by (Some u) at is =
              let h = can.numbers u at in
              let more : u.allocation_number + 1 ≡ t.allocation_number = ap (λ (t : Tenant). t.allocation_number)
              (same_Some _ _ (sym (get_put names one_name w.tenants kept.namespace (with_allocation a u)) ∙ is)) in
              omega arith

      places_then : (q : Name) (n : Node) → node_at then kept.pool q ≡ Some n → n.places + length (on_node kept q rest) < 2 ^ 64
      places_then q n is = by (same_name q (node_name kept p.node)) refl
          (sym (node_then and_added kept.pool (node_name kept p.node) node (node_before (node_name kept p.node) ∙ there) q) ∙ is)
        where
          by : (b : Bool) → same_name q (node_name kept p.node) ≡ b →
              cond b (Some (record node { places = node.places + 1 })) (node_at and_added kept.pool q) ≡ Some n →
              n.places + length (on_node kept q rest) < 2 ^ 64
          by true same is =
              let it = same_name_is q (node_name kept p.node) same in
              let h = can.places q node (ap (λ q. node_at w kept.pool q) it ∙ there) in
              let one = one_of_it q (ap (same_name (node_name kept p.node)) it ∙ same_name_refl (node_name kept p.node)) in
              let more : node.places + 1 ≡ n.places = ap (λ (n : Node). n.places) (same_Some _ _ is) in
              omega arith
          by false other is =
              let h = can.places q n (sym (node_before q) ∙ is) in
              let f = fewer q in
              omega arith

      pub left_then : CanPlace kept rest then
      left_then = record { numbers = numbers_then; places = places_then }

-- one placement, and the others can be placed still
pub still_left : (kept : Snapshot) (p : Placement) (rest : List Placement) (w : World) (job : Job) → kept.job ≡ Some job → CanPlace kept (p ∷ rest) w →
    CanPlace kept rest (place_one kept w p)
still_left kept p rest w job at can = by (node_at w kept.pool (node_name kept p.node)) refl
  where
    by : (o : Option Node) → node_at w kept.pool (node_name kept p.node) ≡ o → CanPlace kept rest (place_one kept w p)
    by None is = subst (CanPlace kept rest) (placed_nowhere kept p w is job at) (left_without kept p rest w can)
    by (Some node) is = subst (CanPlace kept rest) (sym (one_placed kept p w job at node is))
        (left_then kept p rest w can node is (new_allocation kept job p node))

-- ---- the next of them

module _ (nodes : List ℕ) (ps xs : List Placement) (same : xs ≡ ps) (i : ℕ) (p : Placement) (inside : i < length xs) (is : p ≡ get_or xs i p) where
  abbrev after : List Placement
  after = placed_on nodes (drop (i + 1) ps)

  next_is : placed_on nodes (drop i ps) ≡ cond (has_number nodes p.node) (p ∷ after) after
  next_is = ap (λ l. placed_on nodes (drop i l)) (sym same) ∙ ap (placed_on nodes) (drop-cons xs i p inside)
      ∙ (λ j. placed_on nodes (sym is j ∷ drop (sym (add-one i) j) (same j)))

  pub next_placed : has_number nodes p.node ≡ true → placed_on nodes (drop i ps) ≡ p ∷ after
  next_placed e = next_is ∙ ap (λ b. cond b (p ∷ after) after) e

  pub next_passed : has_number nodes p.node ≡ false → placed_on nodes (drop i ps) ≡ after
  next_passed e = next_is ∙ ap (λ b. cond b (p ∷ after) after) e
