-- What all live allocations take together, and what the live allocations of a quota and of a node do: each is on a node,
-- and no node takes more than its capacity.
use Rattle.std.specs.Prelude.{◌≡◌, ℕ, ◌^◌, ◌<◌, ◌≤◌, Bool, true, false, cond, ◌&&◌, List, map, flat_map, sum_by, Option, Some, None, nat_le}
use Rattle.std.proofs.Common.{refl, sym, ap, ◌∙◌, arith, ◌⊎◌, inl, inr}
use Rattle.std.specs.FinMap.{get, entries, len-entries}
use Rattle.std.specs.List.{list_any}
use Rattle.std.specs.Option.{option_and_then}
use Rattle.std.proofs.lemmas.Bool.{leb-true}
use Rattle.std.proofs.lemmas.List.Sums.{sum_by-le, sum_by-le-sum_by}
use Rattle.std.proofs.lemmas.Option.{none-some}
use Rattle.ns_types.specs.declared.allocation.Allocation.{Allocation}
use Rattle.ns_types.specs.declared.node.Node.{Node}
use Rattle.ns_types.specs.declared.resources.Resources.{Resources}
use Rattle.ns_types.specs.State.Limits.{is_amount, is_between}
use Rattle.ns_types.specs.State.Lists.{Each}
use Rattle.ns_types.specs.State.Names.{Name, ByName, same_name}
use Rattle.ns_types.specs.State.Resources.{IsCounted, Resource, quantity}
use Rattle.ns_types.specs.State.Rows.{World, Tenant, PoolRows, is_live, is_live_on, node_at}
use Rattle.ns_types.specs.State.Sums.{names_quota, tenant_sum, quota_sum, quota_use, node_sum, node_load}
use Rattle.ns_types.specs.State.Tables.{any_row}
use Rattle.ns_types.specs.Validity.{IsSmall, IsSound, IsSoundNode, IsSoundAllocation}
use Rattle.ns_types.proofs.Elements.{all_from, any_flat, any_map, each_flat}
use Rattle.ns_types.proofs.Lists.{not_both, each, any_alike}
use Rattle.ns_types.proofs.Named.{first_of_both, names, numbers, one_name, one_number, same_name_refl, second_of_both}
use Rattle.ns_types.proofs.Amounts.{at, every, quantity_of, true_at, within_at}
use Rattle.ns_types.proofs.Sums.{at_most, sum_by_classes, sum_flat, sum_map, sum_same}
use Rattle.ns_types.proofs.Tables.{each_row, none_of_any}

-- ---- allocations and nodes

abbrev pub rows : World → List (ℕ × Allocation)
rows w = flat_map (λ t. entries t.1.allocations) (entries w.tenants)

abbrev names_in : Name × PoolRows → List (Name × Name)
names_in p = map (λ n. (p.0, n.0)) (entries p.1.nodes)

-- each node by its pool and its name
abbrev places : World → List (Name × Name)
places w = flat_map names_in (entries w.pools)

abbrev pub live_size : (Resources → ℕ) → ℕ × Allocation → ℕ
live_size amount e = cond (is_live e.1) (amount e.1.size) 0

abbrev size_on : (Resources → ℕ) → Name → Name → ℕ × Allocation → ℕ
size_on amount pool node e = cond (is_live_on pool node e.1) (amount e.1.size) 0

abbrev pub all_live : World → (Resources → ℕ) → ℕ
all_live w amount = sum_by (live_size amount) (rows w)

pub live_by_tenant : (w : World) (amount : Resources → ℕ) → all_live w amount ≡ sum_by (λ e. tenant_sum is_live amount e.1) (entries w.tenants)
live_by_tenant w amount = sum_flat (live_size amount) (λ t. entries t.1.allocations) (entries w.tenants)

node_rows : (w : World) (pool node : Name) (amount : Resources → ℕ) → node_sum w pool node amount ≡ sum_by (size_on amount pool node) (rows w)
unfolding node_sum
node_rows w pool node amount = sym (sum_flat (size_on amount pool node) (λ t. entries t.1.allocations) (entries w.tenants))

at_most_live : (b c : Bool) (n : ℕ) → cond (b && c) n 0 ≤ cond b n 0
at_most_live true c n = at_most c n
at_most_live false c n = omega arith

twice : (b c : Bool) (n : ℕ) → cond (b && c) (cond b n 0) 0 ≡ cond (b && c) n 0
twice true true n = refl
twice true false n = refl
twice false c n = refl

quota_within : (w : World) (quota : Name) (amount : Resources → ℕ) → quota_sum w quota amount ≤ all_live w amount
unfolding quota_sum
quota_within w quota amount =
    let live = live_by_tenant w amount in
    let less = sum_by-le-sum_by (λ e. cond (names_quota quota e.1.namespace) (tenant_sum is_live amount e.1) 0) (λ e. tenant_sum is_live amount e.1)
    (entries w.tenants) (λ e. at_most (names_quota quota e.1.namespace) (tenant_sum is_live amount e.1)) in
    omega (arith, live, less)

node_within : (w : World) (pool node : Name) (amount : Resources → ℕ) → node_sum w pool node amount ≤ all_live w amount
node_within w pool node amount =
    let on_node = node_rows w pool node amount in
    let less = sum_by-le-sum_by (size_on amount pool node) (live_size amount) (rows w)
    (λ e. at_most_live (is_live e.1) (same_name pool e.1.pool && same_name node e.1.node) (amount e.1.size)) in
    omega (arith, on_node, less)

-- ---- each live allocation is on a node

any_at : {X : Type 0} (f : Name → X → Bool) (m : ByName X) (k : Name) (x : X) → get m k ≡ Some x → f k x ≡ true → any_row f m ≡ true
any_at f m k x is e = by (any_row f m) refl
  where
    by : (b : Bool) → any_row f m ≡ b → any_row f m ≡ true
    by true t = t
    by false t = not_both e (none_of_any one_name f m k x t is)

-- some node of a pool is that one
abbrev has_node : Allocation → Name → PoolRows → Bool
has_node a pool p = any_row (λ node _. is_live_on pool node a) p.nodes

any_place : (w : World) (a : Allocation) → any_row (has_node a) w.pools ≡ true → list_any (λ c. is_live_on c.0 c.1 a) (places w) ≡ true
unfolding any_row
any_place w a e =
    any_flat (λ c. is_live_on c.0 c.1 a) names_in (entries w.pools)
    ∙ any_alike (λ p. list_any (λ c. is_live_on c.0 c.1 a) (names_in p)) (λ p. list_any (λ n. is_live_on p.0 n.0 a) (entries p.1.nodes)) (entries w.pools)
    (each (λ p. list_any (λ c. is_live_on c.0 c.1 a) (names_in p) ≡ list_any (λ n. is_live_on p.0 n.0 a) (entries p.1.nodes))
    (λ p. any_map (λ c. is_live_on c.0 c.1 a) (λ n. (p.0, n.0)) (entries p.1.nodes)) (entries w.pools))
    ∙ e

is_on_itself : (a : Allocation) → is_live a ≡ true → is_live_on a.pool a.node a ≡ true
is_on_itself a e = λ i. e i && (same_name_refl a.pool i && same_name_refl a.node i)

placed_somewhere : (w : World) (a : Allocation) (row : Node) → node_at w a.pool a.node ≡ Some row → is_live a ≡ true →
    list_any (λ c. is_live_on c.0 c.1 a) (places w) ≡ true
placed_somewhere w a row there e = any_place w a (by (get w.pools a.pool) refl there)
  where
    by : (o : Option PoolRows) → get w.pools a.pool ≡ o → option_and_then (λ p. get p.nodes a.node) o ≡ Some row → any_row (has_node a) w.pools ≡ true
    by None is f = absurd (none-some row f)
    by (Some p) is f = any_at (has_node a) w.pools a.pool p is (any_at (λ node _. is_live_on a.pool node a) p.nodes a.node row f (is_on_itself a e))

abbrev IsCovered : World → (Resources → ℕ) → ℕ × Allocation → Type 0
IsCovered w amount e = (live_size amount e ≡ 0) ⊎ (list_any (λ c. is_live_on c.0 c.1 e.1) (places w) ≡ true)

covered : (w : World) (amount : Resources → ℕ) (t : Tenant) (n : ℕ) (a : Allocation) → IsSoundAllocation w t n a → IsCovered w amount (n, a)
covered w amount t n a sound = by (is_live a) refl
  where
    by : (b : Bool) → is_live a ≡ b → IsCovered w amount (n, a)
    by true e = let placed = sound.placed e in inr (placed_somewhere w a placed.row placed.there e)
    by false e = inl (ap (λ b. cond b (amount a.size) 0) e)

all_covered : (w : World) (amount : Resources → ℕ) → IsSound w → Each (IsCovered w amount) (rows w)
all_covered w amount sound =
    each_flat (IsCovered w amount) (λ t. entries t.1.allocations) (entries w.tenants)
    (each_row names one_name (λ ns t. Each (IsCovered w amount) (entries t.allocations)) w.tenants (λ ns t is.
    each_row numbers one_number (λ n a. IsCovered w amount (n, a)) t.allocations
    (λ n a found. covered w amount t n a ((sound.tenant ns t is).allocation n a found))))

-- so all of them take no more than the loads of all nodes
by_node : (w : World) (amount : Resources → ℕ) → IsSound w → all_live w amount ≤ sum_by (λ c. node_sum w c.0 c.1 amount) (places w)
by_node w amount sound =
    let spread = sum_by_classes (live_size amount) (λ c e. is_live_on c.0 c.1 e.1) (places w) (rows w) (all_covered w amount sound) in
    let loads = sum_same (λ c. sum_by (λ e. cond (is_live_on c.0 c.1 e.1) (live_size amount e) 0) (rows w)) (λ c. node_sum w c.0 c.1 amount) (places w)
    (each (λ c. sum_by (λ e. cond (is_live_on c.0 c.1 e.1) (live_size amount e) 0) (rows w) ≡ node_sum w c.0 c.1 amount) (λ c.
    sum_same (λ e. cond (is_live_on c.0 c.1 e.1) (live_size amount e) 0) (size_on amount c.0 c.1) (rows w)
    (each (λ e. cond (is_live_on c.0 c.1 e.1) (live_size amount e) 0 ≡ size_on amount c.0 c.1 e)
    (λ e. twice (is_live e.1) (same_name c.0 e.1.pool && same_name c.1 e.1.node) (amount e.1.size)) (rows w))
    ∙ sym (node_rows w c.0 c.1 amount)) (places w)) in
    omega (arith, spread, loads)

-- ---- no node takes more than its capacity

module _ (w : World) (amount : Resources → ℕ) (within : (pool name : Name) (node : Node) → IsSoundNode w pool name node →
    node_sum w pool name amount ≤ 2147483647) (sound : IsSound w) where
  pool_small : (pool : Name) (p : PoolRows) → get w.pools pool ≡ Some p → sum_by (λ c. node_sum w c.0 c.1 amount) (names_in (pool, p)) ≤ 2147483647000
  pool_small pool p is =
      let here = sound.pool pool p is in
      let along = sum_map (λ (c : Name × Name). node_sum w c.0 c.1 amount) (λ n. (pool, n.0)) (entries p.nodes) in
      let each_node = sum_by-le (λ n. node_sum w pool n.0 amount) 2147483647 (entries p.nodes)
      (all_from (λ n. node_sum w pool n.0 amount ≤ 2147483647) (entries p.nodes)
      (each_row names one_name (λ n node. node_sum w pool n amount ≤ 2147483647) p.nodes (λ n node found. within pool n node (here.node n node found)))) in
      let few = here.few_nodes in
      let long = len-entries p.nodes in
      omega (arith, along, each_node, few, long)

  live_small : all_live w amount < 2 ^ 55
  live_small =
      let all = by_node w amount sound in
      let parts = sum_flat (λ (c : Name × Name). node_sum w c.0 c.1 amount) names_in (entries w.pools) in
      let each_pool = sum_by-le (λ p. sum_by (λ c. node_sum w c.0 c.1 amount) (names_in p)) 2147483647000 (entries w.pools)
      (all_from (λ p. sum_by (λ c. node_sum w c.0 c.1 amount) (names_in p) ≤ 2147483647000) (entries w.pools)
      (each_row names one_name (λ pool p. sum_by (λ c. node_sum w c.0 c.1 amount) (names_in (pool, p)) ≤ 2147483647000) w.pools pool_small)) in
      let few = sound.few_pools in
      let long = len-entries w.pools in
      omega (arith, all, parts, each_pool, few, long)

pub most_of : (n : ℕ) → is_between 1 2147483647 n ≡ true → n ≤ 2147483647
most_of n e = leb-true n 2147483647 (second_of_both (nat_le 1 n) (nat_le n 2147483647) e)

pub most_at : (a : Resources) → is_amount a ≡ true → (r : Resource) → quantity r a ≤ 2147483647
most_at a h r = most_of (quantity r a) (true_at (λ r. is_between 1 2147483647 (quantity r a)) h r)

pub least_of : (n : ℕ) → is_between 1 2147483647 n ≡ true → 1 ≤ n
least_of n e = leb-true 1 n (first_of_both (nat_le 1 n) (nat_le n 2147483647) e)

pub least_at : (a : Resources) → is_amount a ≡ true → (r : Resource) → 1 ≤ quantity r a
least_at a h r = least_of (quantity r a) (true_at (λ r. is_between 1 2147483647 (quantity r a)) h r)

load_within : (r : Resource) (w : World) (pool name : Name) (node : Node) → IsSoundNode w pool name node → node_sum w pool name (quantity r) ≤ 2147483647
load_within r w pool name node sound =
    let capacity = node.offer.capacity in
    let is = quantity_of (λ r. node_sum w pool name (quantity r)) r in
    let load = within_at (node_load w pool name) capacity sound.within r in
    let most = most_at capacity (second_of_both _ (is_amount capacity) sound.good) r in
    omega (arith, is, load, most)

pub all_small : (w : World) → IsSound w → (r : Resource) → all_live w (quantity r) < 2 ^ 55
all_small w sound r = live_small w (quantity r) (load_within r w) sound

pub small_counted : (a : Resources) → IsSmall a → IsCounted a
small_counted a small = every (λ r. quantity r a < 2 ^ 64) (λ r.
    let some = at (λ r. quantity r a < 2 ^ 55) small r in
    omega (arith, some))

pub quota_small : (w : World) (quota : Name) → IsSound w → IsSmall (quota_use w quota)
quota_small w quota sound = every (λ r. quantity r (quota_use w quota) < 2 ^ 55) (λ r.
    let is = quantity_of (λ r. quota_sum w quota (quantity r)) r in
    let part = quota_within w quota (quantity r) in
    omega (arith, is, part, all_small w sound r))

pub load_small : (w : World) (pool node : Name) → IsSound w → IsSmall (node_load w pool node)
load_small w pool node sound = every (λ r. quantity r (node_load w pool node) < 2 ^ 55) (λ r.
    let is = quantity_of (λ r. node_sum w pool node (quantity r)) r in
    let part = node_within w pool node (quantity r) in
    omega (arith, is, part, all_small w sound r))
