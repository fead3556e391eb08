-- Worlds whose allocations come from those of another world, and are as sound.
use Rattle.std.specs.Prelude.{◌≡◌, ℕ, ◌≤◌, Bool, true, false, cond, Option, Some, None, ◌&&◌, IsTrue, nat_le, is_some}
use Rattle.std.proofs.Common.{refl, sym, ap, subst, ◌∙◌, arith}
use Rattle.std.specs.FinMap.{get, contains_key}
use Rattle.std.specs.Option.{option_map_or, option_and_then}
use Rattle.ns_types.proofs.Amounts.{at, every, every_true, within_at}
use Rattle.ns_types.specs.declared.allocation.Allocation.{Allocation}
use Rattle.ns_types.specs.declared.name.NameKind.TheVariants as NameKind
use Rattle.ns_types.specs.declared.node.Node.{Node}
use Rattle.ns_types.specs.declared.resources.Resources.{Resources}
use Rattle.ns_types.specs.State.Limits.{is_between, is_pool_name}
use Rattle.ns_types.specs.State.Name.{is_name}
use Rattle.ns_types.specs.State.Names.{Name, Key, same_name}
use Rattle.ns_types.specs.State.Resources.{InEach, in_each, is_within, quantity}
use Rattle.ns_types.specs.State.Rows.{World, Tenant, PoolRows, is_live, is_live_on, is_ready, allocation_at, node_at}
use Rattle.ns_types.specs.Access.Sharing.{permits}
use Rattle.ns_types.specs.State.Sums.{node_load, node_sum, tenant_sum}
use Rattle.ns_types.specs.Validity.{IsPlaced, IsSoundAllocation, IsLiveAt}
use Rattle.ns_types.proofs.Named.{names, one_name, numbers as numbers_, one_number, first_of_both, second_of_both}
use Rattle.std.specs.Cmp.Derive.{both_true}
use Rattle.ns_types.proofs.Tests.{not_Some, same_Some}
use Rattle.ns_audit.proofs.ValidAllocations.Statement.{IsAllocated}
use Rattle.ns_audit.proofs.ValidAllocations.Sums.{zero_le, sum_below, sum_none}

-- ---- numbers

pub le_by : (a b : ℕ) → nat_le a b ≡ true → a ≤ b
le_by a b e = grind arith

pub by_le : (a b : ℕ) → a ≤ b → nat_le a b ≡ true
by_le a b h = grind arith

pub le_then : (a b c : ℕ) → a ≤ b → b ≤ c → a ≤ c
le_then a b c h k = omega arith

pub le_same : (a b : ℕ) → a ≡ b → a ≤ b
le_same a b e = omega arith

pub itself : (n : ℕ) → n ≤ n
itself n = omega arith

-- no resource of the first is over that of the second
abbrev pub IsBelow : Resources → Resources → Type 0
IsBelow a b = InEach (λ r. quantity r a ≤ quantity r b)

pub within_less : (a b c : Resources) → IsBelow a b → IsTrue (is_within b c) → IsTrue (is_within a c)
within_less a b c less h = every_true (λ r. nat_le (quantity r a) (quantity r c)) (λ r.
    by_le (quantity r a) (quantity r c)
    (le_then (quantity r a) (quantity r b) (quantity r c) (at (λ r. quantity r a ≤ quantity r b) less r) (within_at b c h r)))

-- ---- rows

pub allocation_row : (w : World) (key : Key) (a : Allocation) → allocation_at w key ≡ Some a → (t : Tenant) × (get w.tenants key.0 ≡ Some t) ×
    (get t.allocations key.1 ≡ Some a)
allocation_row w key a at = by (get w.tenants key.0) refl at
  where
    by : (o : Option Tenant) → get w.tenants key.0 ≡ o → option_and_then (λ t. get t.allocations key.1) o ≡ Some a → (t : Tenant) ×
        (get w.tenants key.0 ≡ Some t) × (get t.allocations key.1 ≡ Some a)
    by None is at = absurd (not_Some _ at)
    by (Some t) is at = (t, is, at)

pub row_allocation : (w : World) (ns : Name) (n : ℕ) (t : Tenant) (a : Allocation) → get w.tenants ns ≡ Some t → get t.allocations n ≡ Some a →
    allocation_at w (ns, n) ≡ Some a
row_allocation w ns n t a is at = ap (option_and_then (λ t. get t.allocations n)) is ∙ at

pub node_row : (w : World) (pool name : Name) (node : Node) → node_at w pool name ≡ Some node → (p : PoolRows) × (get w.pools pool ≡ Some p) ×
    (get p.nodes name ≡ Some node)
node_row w pool name node at = by (get w.pools pool) refl at
  where
    by : (o : Option PoolRows) → get w.pools pool ≡ o → option_and_then (λ p. get p.nodes name) o ≡ Some node → (p : PoolRows) × (get w.pools pool ≡ Some p) ×
        (get p.nodes name ≡ Some node)
    by None is at = absurd (not_Some _ at)
    by (Some p) is at = (p, is, at)

-- the pool of a node is there
pub node_pool : (w : World) (pool name : Name) (node : Node) → node_at w pool name ≡ Some node → IsTrue (contains_key w.pools pool)
node_pool w pool name node at = ap is_some (node_row w pool name node at).1

-- ---- where allocations come from

-- of an allocation of w only the statuses and indexes are others, and it is live only if that one was
pub record ComesFrom (w : World) (ns : Name) (t : Tenant) (n : ℕ) (b : Allocation) : Type 0 where
  pub tenant : Tenant
  pub is_tenant : get w.tenants ns ≡ Some tenant
  pub row : Allocation
  pub is_row : get tenant.allocations n ≡ Some row
  pub same : b ≡ record row { desired = b.desired; client = b.client; create_index = b.create_index; modify_index = b.modify_index }
  pub live : is_live b ≡ true → is_live row ≡ true
  pub permitted : is_live b ≡ true → permits tenant.namespace row.pool ≡ true → permits t.namespace row.pool ≡ true
  pub index : tenant.index ≤ t.index
  pub evaluations : tenant.evaluation_number ≤ t.evaluation_number
  pub number : tenant.allocation_number ≤ t.allocation_number
  pub created : b.create_index ≤ t.index
  pub modified : b.modify_index ≤ t.index

abbrev pub IsFrom : World → World → Type 0
IsFrom w x = (ns : Name) (t : Tenant) (n : ℕ) (b : Allocation) → get x.tenants ns ≡ Some t → get t.allocations n ≡ Some b → ComesFrom w ns t n b

-- a live allocation on the node
pub record LivesOn (x : World) (pool name : Name) : Type 0 where
  pub namespace : Name
  pub tenant : Tenant
  pub number : ℕ
  pub row : Allocation
  pub is_tenant : get x.tenants namespace ≡ Some tenant
  pub is_row : get tenant.allocations number ≡ Some row
  pub live : is_live row ≡ true
  pub in_pool : row.pool ≡ pool
  pub on_node : row.node ≡ name

-- the node is there and ready, and has given out no fewer places
pub record StillThere (x : World) (pool name : Name) (old : Node) : Type 0 where
  pub row : Node
  pub is_row : node_at x pool name ≡ Some row
  pub ready : is_ready row.status ≡ true
  pub places : old.places ≤ row.places

-- so is each node with a live allocation
abbrev pub NodesStay : World → World → Type 0
NodesStay w x = (pool name : Name) (old : Node) → LivesOn x pool name → node_at w pool name ≡ Some old → is_ready old.status ≡ true → StillThere x pool name old

-- nodes hold what they held
abbrev pub NodesHold : World → World → Type 0
NodesHold w x = (pool name : Name) (node : Node) → node_at x pool name ≡ Some node → IsTrue (is_within (node_load w pool name) node.offer.capacity)

-- ---- what nodes carry

module _ (w x : World) (from : IsFrom w x) (pool name : Name) (amount : Resources → ℕ) where
  row_below : (b row : Allocation) → b ≡ record row { desired = b.desired; client = b.client; create_index = b.create_index; modify_index = b.modify_index } →
      (is_live b ≡ true → is_live row ≡ true)
      → cond (is_live_on pool name b) (amount b.size) 0 ≤ cond (is_live_on pool name row) (amount row.size) 0
  row_below b row same live = by (is_live_on pool name b) refl
    where
      on : is_live_on pool name b ≡ true → is_live_on pool name row ≡ true
      on e = both_true (live (first_of_both (is_live b) _ e)) ((λ i. same_name pool (sym same i).pool && same_name name (sym same i).node) ∙
          second_of_both (is_live b) _ e)

      by : (c : Bool) → is_live_on pool name b ≡ c → cond c (amount b.size) 0 ≤ cond (is_live_on pool name row) (amount row.size) 0
      by false _ = zero_le _
      by true e = subst (λ c. amount b.size ≤ cond c (amount row.size) 0) (sym (on e)) (le_same _ _ (ap (λ (a : Allocation). amount a.size) same))

  tenant_below : (ns : Name) (t : Tenant) → get x.tenants ns ≡ Some t →
      tenant_sum (is_live_on pool name) amount t ≤ option_map_or (tenant_sum (is_live_on pool name) amount) (get w.tenants ns) 0
  tenant_below ns t is = by (get w.tenants ns) refl
    where
      by : (o : Option Tenant) → get w.tenants ns ≡ o → tenant_sum (is_live_on pool name) amount t ≤ option_map_or (tenant_sum (is_live_on pool name) amount)
          o 0
      by None none = sum_none numbers_ one_number (λ n (a : Allocation). cond (is_live_on pool name a) (amount a.size) 0) t.allocations
          (λ n b at. not_Some _ (sym none ∙ (from ns t n b is at).is_tenant))
      by (Some u) was = sum_below numbers_ one_number (λ n (a : Allocation). cond (is_live_on pool name a) (amount a.size) 0)
          (λ n (a : Allocation). cond (is_live_on pool name a) (amount a.size) 0) t.allocations u.allocations (λ n b at.
          let c = from ns t n b is at in
          subst (λ (o : Option Allocation). cond (is_live_on pool name b) (amount b.size) 0 ≤ option_map_or
          (λ a. cond (is_live_on pool name a) (amount a.size) 0) o 0)
          (sym (ap (λ (t : Tenant). get t.allocations n) (same_Some _ _ (sym was ∙ c.is_tenant)) ∙ c.is_row)) (row_below b c.row c.same c.live))

  pub sum_from : node_sum x pool name amount ≤ node_sum w pool name amount
  unfolding node_sum
  sum_from = sum_below names one_name (λ ns t. tenant_sum (is_live_on pool name) amount t) (λ ns t. tenant_sum (is_live_on pool name) amount t)
      x.tenants w.tenants tenant_below

-- ---- the whole

-- an allocation that comes from a sound one is sound
module _ (w x : World) (s : IsAllocated w) (stay : NodesStay w x) (ns : Name) (t : Tenant) (n : ℕ) (b : Allocation) (is : get x.tenants ns ≡ Some t)
    (at : get t.allocations n ≡ Some b) (c : ComesFrom w ns t n b) where
  old : IsSoundAllocation w c.tenant n c.row
  old = s.allocation ns c.tenant n c.row c.is_tenant c.is_row

  placed_from : is_live b ≡ true → IsPlaced x t b
  placed_from live =
      let p = old.placed (c.live live) in
      let q = stay c.row.pool c.row.node p.row
      (record {
        namespace = ns;
        tenant = t;
        number = n;
        row = b;
        is_tenant = is;
        is_row = at;
        live = live;
        in_pool =
            ap (λ (a : Allocation). a.pool) c.same;
        on_node = ap (λ (a : Allocation). a.node) c.same;
      }) p.there p.ready in
      let there = (λ i. node_at x (c.same i).pool (c.same i).node) ∙ q.is_row in record {
        allowed = record {
          exists = node_pool x b.pool b.node q.row there;
          permitted = subst (λ (a : Allocation). permits t.namespace a.pool ≡ true) (sym c.same) (c.permitted live p.allowed.permitted);
          its_quota = λ name e. absurd (not_Some _ e);
        };
        row = q.row;
        there = there;
        ready = q.ready;
        counted = le_then b.place p.row.places q.row.places (subst (λ (a : Allocation). a.place ≤ p.row.places) (sym c.same) p.counted) q.places;
      }

  pub sound_from : IsSoundAllocation x t n b
  sound_from = record {
    below = le_then n c.tenant.allocation_number t.allocation_number old.below c.number;
    named = subst (λ (a : Allocation). IsTrue (is_name NameKind.Job a.job && is_name NameKind.Group a.group && is_pool_name a.pool
        && is_name NameKind.Node a.node)) (sym c.same) old.named;
    sized = subst (λ (a : Allocation). IsTrue (in_each (λ r. nat_le 1 (quantity r a.size)))) (sym c.same) old.sized;
    priority = subst (λ (a : Allocation). IsTrue (is_between 1 100 a.priority)) (sym c.same) old.priority;
    made_by = le_then b.evaluation c.tenant.evaluation_number t.evaluation_number
        (subst (λ (a : Allocation). a.evaluation ≤ c.tenant.evaluation_number) (sym c.same) old.made_by) c.evaluations;
    made_for = le_then b.job_modify_index c.tenant.index t.index (subst (λ (a : Allocation). a.job_modify_index ≤ c.tenant.index) (sym c.same) old.made_for)
        c.index;
    created = c.created;
    modified = c.modified;
    placed = placed_from;
  }

-- so no load is more than it was
pub load_from : (w x : World) → IsFrom w x → (pool node : Name) → IsBelow (node_load x pool node) (node_load w pool node)
load_from w x from pool node = every (λ r. node_sum x pool node (quantity r) ≤ node_sum w pool node (quantity r)) (λ r.
    sum_from w x from pool node (quantity r))

module _ (w x : World) (s : IsAllocated w) (from : IsFrom w x) where
  live_from : (key : Key) (b : Allocation) → IsLiveAt x key b → (a : Allocation) × IsLiveAt w key a × (a.pool ≡ b.pool) × (a.node ≡ b.node) ×
      (a.place ≡ b.place)
  live_from key b l =
      let r = allocation_row x key b l.0 in
      let c = from key.0 r.0 key.1 b r.1 r.2 in (
        c.row,
        (row_allocation w key.0 key.1 c.tenant c.row c.is_tenant c.is_row, c.live l.1),
        sym (ap (λ (a : Allocation). a.pool) c.same),
        sym
            (ap (λ (a : Allocation). a.node) c.same),
        sym (ap (λ (a : Allocation). a.place) c.same),
      )

  pub allocated_from : NodesStay w x → NodesHold w x → IsAllocated x
  allocated_from stay hold = record {
    allocation = λ ns t n b is at. sound_from w x s stay ns t n b is at (from ns t n b is at);
    one_place = λ a b y z live live' pool node place.
        let u = live_from a y live in
        let v = live_from b z live' in
        s.one_place a b u.0 v.0 u.1 v.1 (u.2 ∙ pool ∙ sym v.2) (u.3 ∙ node ∙ sym v.3) (u.4 ∙ place ∙ sym v.4);
    within = λ pool name node at. within_less (node_load x pool name) (node_load w pool name) node.offer.capacity
        (load_from w x from pool name) (hold pool name node at);
  }

-- ---- the same nodes

pub nodes_stay : (w x : World) → ((pool name : Name) → node_at x pool name ≡ node_at w pool name) → NodesStay w x
nodes_stay w x same pool name old lives at ready =
    record { row = old; is_row = same pool name ∙ at; ready = ready; places = le_same old.places old.places refl }

pub nodes_hold : (w x : World) → IsAllocated w → ((pool name : Name) → node_at x pool name ≡ node_at w pool name) → NodesHold w x
nodes_hold w x s same pool name node at = s.within pool name node (sym (same pool name) ∙ at)
