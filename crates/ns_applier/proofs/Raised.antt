-- Of a step that counts, the counters after it, by the state before it.
use Rattle.std.specs.Prelude.{◌≡◌, ℕ, ◌+◌, Bool, true, false, ◌&&◌, ◌||◌, List, Option, Some, None, is_some, nat_lt, option_map}
use Rattle.std.proofs.Common.{refl, sym, ap, ◌∙◌, Ordering}
use Rattle.std.proofs.Math.Bool.{or-false}
use Rattle.std.specs.Cmp.{IsTotalOrder}
use Rattle.std.specs.Option.{option_and_then, option_map_or}
use Rattle.std.specs.List.{list_any}
use Rattle.std.specs.FinMap.{FinMap, IsAntisymmetric, get}
use Rattle.ns_types.specs.declared.allocation.Allocation.{Allocation}
use Rattle.ns_types.specs.declared.node.Node.{Node}
use Rattle.ns_types.specs.Settling.Settle.{is_touched}
use Rattle.ns_types.specs.State.Names.{Name, Key}
use Rattle.ns_types.specs.State.Rows.{World, PoolRows, Tenant, allocation_at, class_of, is_free, node_at}
use Rattle.ns_types.specs.State.Tables.{any_row}
use Rattle.ns_types.specs.Steps.{greatest}
use Rattle.ns_types.proofs.Elements.{any_same}
use Rattle.ns_types.proofs.Lists.{not_both}
use Rattle.ns_types.proofs.Named.{names, one_name}
use Rattle.ns_types.proofs.Tables.{any_row-none, none_of_any}
use Rattle.ns_counters.specs.Bounds.{is_at_bound}
use Rattle.ns_counters.specs.Given.{given_room_passes}
use Rattle.ns_counters.proofs.Bounded.{any_row-either}
use Rattle.ns_applier.specs.Passing.{end_passes, index_passes, indexes_pass, is_number_past, left_quota_passes, left_room_passes, numbers_past, places_past}
use Rattle.ns_applier.specs.Raising.{PassesByCounts, Raise, Raises, places_pass, raise_passes, raises_pass, with_places}
use Rattle.ns_applier.specs.Releasing.{EndsAlone}
use Rattle.ns_applier.proofs.Settled.{ends_pass}

-- ---- tables in which the same keys pass

module _ {K X Y : Type 0} {R : K → K → Ordering} (o : IsTotalOrder R) (same : IsAntisymmetric R) where
  none_between : (f : K → X → Bool) (g : K → Y → Bool) (m : FinMap R X) (n : FinMap R Y) →
      ((k : K) → option_map_or (f k) (get m k) false ≡ option_map_or (g k) (get n k) false) → any_row g n ≡ false → any_row f m ≡ false
  none_between f g m n alike none = any_row-none o same f m (λ k x is. sym (ap (λ r. option_map_or (f k) r false) is) ∙ alike k ∙ by k (get n k) refl)
    where
      by : (k : K) (r : Option Y) → get n k ≡ r → option_map_or (g k) r false ≡ false
      by k None is = refl
      by k (Some y) is = none_of_any same g n k y none is

-- tests of which none passes without the other
pub together : (a b : Bool) → (b ≡ false → a ≡ false) → (a ≡ false → b ≡ false) → a ≡ b
together true true back on = refl
together true false back on = back refl
together false b back on = sym (on refl)

module _ {K X Y : Type 0} {R : K → K → Ordering} (o : IsTotalOrder R) (same : IsAntisymmetric R) where
  pub any_between : (f : K → X → Bool) (g : K → Y → Bool) (m : FinMap R X) (n : FinMap R Y) →
      ((k : K) → option_map_or (f k) (get m k) false ≡ option_map_or (g k) (get n k) false) → any_row f m ≡ any_row g n
  any_between f g m n alike =
      together (any_row f m) (any_row g n) (none_between o same f g m n alike) (none_between o same g f n m (λ k. sym (alike k)))

-- ---- nodes that count

module _ (w x : World) (keys : List Key) (raise : Name → Raise) (places : Name → Name → ℕ) (only : EndsAlone w x keys) (raises : Raises w x raise places) where
  -- ---- namespaces

  tenants_are : (numbers_past x || indexes_pass w x) ≡ raises_pass w raise
  tenants_are = sym (any_row-either (λ _ u. is_number_past u) (index_passes w) x.tenants)
      ∙ any_between names one_name (λ ns u. is_number_past u || index_passes w ns u) (λ ns t. raise_passes (raise ns) t) x.tenants w.tenants
      (λ ns. by ns (get x.tenants ns) refl (get w.tenants ns) refl)
    where
      none : (ns : Name) (u t : Option Tenant) → get x.tenants ns ≡ u → get w.tenants ns ≡ t → is_some u ≡ is_some t
      none ns u t there is = ap is_some (sym there) ∙ mapped (get x.tenants ns) ∙ ap is_some (only.indexes ns) ∙ sym (mapped (get w.tenants ns)) ∙ ap is_some is
        where
          mapped : (o : Option Tenant) → is_some o ≡ is_some (option_map (λ (t : Tenant). t.index) o)
          mapped None = refl
          mapped (Some t) = refl

      by : (ns : Name) (u : Option Tenant) → get x.tenants ns ≡ u → (t : Option Tenant) → get w.tenants ns ≡ t →
          option_map_or (λ u. is_number_past u || index_passes w ns u) u false ≡ option_map_or (raise_passes (raise ns)) t false
      by ns None there None is = refl
      by ns None there (Some t) is = not_both refl (sym (none ns None (Some t) there is))
      by ns (Some u) there None is = not_both refl (none ns (Some u) None there is)
      by ns (Some u) there (Some t) is =
          let got = raises.tenants ns t u is there in
          ap (λ o. is_number_past u || option_map_or (λ old. is_at_bound old.index && is_touched old u) o false) is
          ∙ (λ i. (nat_lt greatest (got.evaluations i) || nat_lt greatest (got.allocations i)) || (is_at_bound t.index && got.touched i))

  -- ---- nodes

  places_are : places_past x ≡ places_pass w places
  places_are = any_between names one_name (λ _ p. any_row (λ _ node. nat_lt greatest node.places) p.nodes)
      (λ pool p. any_row (λ name node. nat_lt greatest (node.places + places pool name)) p.nodes) x.pools w.pools
      (λ pool. by pool (get x.pools pool) refl (get w.pools pool) refl)
    where
      there : (pool : Name) (p q : Option PoolRows) → get x.pools pool ≡ p → get w.pools pool ≡ q → is_some p ≡ is_some q
      there pool p q is at = ap is_some (sym is) ∙ mapped (get x.pools pool) ∙ ap is_some (only.releases pool) ∙ sym (mapped (get w.pools pool)) ∙ ap is_some at
        where
          mapped : (o : Option PoolRows) → is_some o ≡ is_some (option_map (λ (p : PoolRows). p.release) o)
          mapped None = refl
          mapped (Some p) = refl

      of : (count : ℕ) (o : Option Node) → option_map_or (λ (node : Node). nat_lt greatest node.places) (option_map (with_places count) o) false
          ≡ option_map_or (λ node. nat_lt greatest (node.places + count)) o false
      of count None = refl
      of count (Some node) = refl

      by : (pool : Name) (p : Option PoolRows) → get x.pools pool ≡ p → (q : Option PoolRows) → get w.pools pool ≡ q →
          option_map_or (λ p. any_row (λ _ node. nat_lt greatest node.places) p.nodes) p false
          ≡ option_map_or (λ p. any_row (λ name node. nat_lt greatest (node.places + places pool name)) p.nodes) q false
      by pool None is None at = refl
      by pool None is (Some q) at = not_both refl (sym (there pool None (Some q) is at))
      by pool (Some p) is None at = not_both refl (there pool (Some p) None is at)
      by pool (Some p) is (Some q) at = any_between names one_name (λ _ node. nat_lt greatest node.places)
          (λ name node. nat_lt greatest (node.places + places pool name)) p.nodes q.nodes (λ name.
          ap (λ o. option_map_or (λ (node : Node). nat_lt greatest node.places) o false) (sym (ap (option_and_then (λ (p : PoolRows). get p.nodes name)) is)
          ∙ raises.nodes pool name)
          ∙ of (places pool name) (node_at w pool name)
          ∙ ap (λ o. option_map_or (λ node. nat_lt greatest (node.places + places pool name)) (option_and_then
          (λ (p : PoolRows). get p.nodes name) o) false) at)

  -- ---- what ends

  end_is : (key : Key) → end_passes w x key ≡ end_passes w w key
  end_is key = by (allocation_at w key)
    where
      of : (pool : Name) (count : ℕ) (o : Option Node) →
          option_map_or (λ node. is_free node && given_room_passes w (pool, class_of node)) (option_map (with_places count) o) false
          ≡ option_map_or (λ node. is_free node && given_room_passes w (pool, class_of node)) o false
      of pool count None = refl
      of pool count (Some node) = refl

      by : (o : Option Allocation) → option_map_or (λ a. left_room_passes w x a || left_quota_passes w key.0) o false
          ≡ option_map_or (λ a. left_room_passes w w a || left_quota_passes w key.0) o false
      by None = refl
      by (Some a) = ap (λ b. b || left_quota_passes w key.0)
          (ap (λ o. option_map_or (λ node. is_free node && given_room_passes w (a.pool, class_of node)) o false) (raises.nodes a.pool a.node)
          ∙ of a.pool (places a.pool a.node) (node_at w a.pool a.node))

  ends_are : list_any (end_passes w x) keys ≡ list_any (end_passes w w) keys
  ends_are = any_same (end_passes w x) (end_passes w w) end_is keys

pub counts_pass : PassesByCounts
counts_pass w x keys raise places within only raises = ends_pass w x keys within only
    ∙ turned (numbers_past x) (places_past x) (indexes_pass w x) (list_any (end_passes w x) keys)
    ∙ (λ i. tenants_are w x keys raise places only raises i || places_are w x keys raise places only raises i || ends_are w x keys raise places only raises i)
  where
    turned : (n p i e : Bool) → (n || p || i || e) ≡ ((n || i) || p || e)
    turned true p i e = refl
    turned false true true e = refl
    turned false true false e = refl
    turned false false i e = sym (ap (λ b. b || e) (or-false i))
