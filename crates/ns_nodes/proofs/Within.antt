-- Whether a command on one node passes the bound of a counter.
use Rattle.std.specs.Prelude.{◌≡◌, Bool, true, false, not, ◌&&◌, ◌||◌, Option, Some, None, is_some, nat_lt, option_map}
use Rattle.std.proofs.Common.{refl, sym, ap, ◌∙◌}
use Rattle.std.proofs.Math.Bool.{or-false}
use Rattle.std.specs.Option.{option_and_then, option_map_or}
use Rattle.std.specs.FinMap.{get}
use Rattle.keyed.specs.Table.{row_at}
use Rattle.ns_types.specs.declared.node.Node.{Node}
use Rattle.ns_types.specs.declared.node.Offer.{Offer}
use Rattle.ns_types.specs.Asking.Nodes.{with_offer}
use Rattle.ns_types.specs.Settling.Making.{with_node}
use Rattle.ns_types.specs.Settling.Releases.{same_offer}
use Rattle.ns_types.specs.Settling.Settle.{settle}
use Rattle.ns_types.specs.State.Names.{Name}
use Rattle.ns_types.specs.State.Rows.{World, PoolRows, class_of, is_free, node_at, offered_class}
use Rattle.ns_types.specs.State.Tables.{any_row}
use Rattle.ns_types.specs.Steps.{greatest, is_past_bound, is_pool_past_bound, is_tenant_past_bound}
use Rattle.ns_types.proofs.Alike.{same_offer_refl}
use Rattle.ns_types.proofs.Lists.{left_none, not_both, right_none}
use Rattle.ns_types.proofs.Named.{one_name}
use Rattle.ns_types.proofs.Tables.{none_of_any}
use Rattle.ns_change.specs.Changed.{change_pool, without_node}
use Rattle.ns_nodes.specs.Registering.{gives_room}
use Rattle.ns_release.specs.Released.{gives_itself}
use Rattle.ns_counters.specs.Given.{given_room_passes}
use Rattle.ns_counters.proofs.GivenRoom.{gone_past, put_past}
use Rattle.ns_tables.specs.declared.tables.PoolRows.{PoolRows as StoredPool}
use Rattle.ns_tables.specs.declared.tables.Tables.{Tables}
use Rattle.ns_tables.specs.World.{pool_of, world_of}
use Rattle.ns_tables.proofs.World.{pool_at}

-- ---- numbers of places

module _ (w : World) (within : is_past_bound w ≡ false) (pool name : Name) where
  pub places_in : (p : PoolRows) → get w.pools pool ≡ Some p → (node : Node) → get p.nodes name ≡ Some node → nat_lt greatest node.places ≡ false
  unfolding is_past_bound
  places_in p at node is = none_of_any one_name (λ _ node. nat_lt greatest node.places) p.nodes name node
      (right_none (nat_lt greatest p.release) _ (none_of_any one_name (λ _ p. is_pool_past_bound p) w.pools pool p
      (right_none (any_row (λ _ t. is_tenant_past_bound t) w.tenants) _ (left_none _ _ within)) at)) is

  pub offer_places : (p : PoolRows) → get w.pools pool ≡ Some p → (offer : Offer) (old : Option Node) → get p.nodes name ≡ old →
      nat_lt greatest (with_offer offer old).places ≡ false
  offer_places p at offer None is = refl
  offer_places p at offer (Some node) is = places_in p at node is

-- ---- a node that registers

module _ (t : Tables) (pool name : Name) (within : is_past_bound (world_of t) ≡ false) (x : StoredPool) (at : row_at t.pools pool ≡ Some x)
    (offer : Offer) where
  pub registering_past : (old : Option Node) → get (pool_of x).nodes name ≡ old →
      is_past_bound (settle (world_of t) (change_pool pool (with_node name (with_offer offer old)) (world_of t))) ≡
      (gives_room offer old && given_room_passes (world_of t) (pool, offered_class offer))
  registering_past old is = put_past t pool name x at within (with_offer offer old)
      (offer_places (world_of t) within pool name (pool_of x) (pool_at t pool ∙ ap (option_map pool_of) at) offer old is)
      ∙ by old is
    where
      twice : (a b : Bool) → (a && (not a || b)) ≡ (a && b)
      twice true b = refl
      twice false b = refl

      by : (old : Option Node) → get (pool_of x).nodes name ≡ old →
          (gives_itself (pool_of x) name (with_offer offer old) && given_room_passes (world_of t) (pool, class_of (with_offer offer old))) ≡
          (gives_room offer old && given_room_passes (world_of t) (pool, offered_class offer))
      by None is = ap (λ o. option_map_or (λ (old : Node). not (is_free old) || not (same_offer old.offer offer)) o true
          && given_room_passes (world_of t) (pool, offered_class offer)) is
      by (Some node) is = ap (λ o. (is_free node && option_map_or (λ (old : Node). not (is_free old) || not (same_offer old.offer offer)) o true)
          && given_room_passes (world_of t) (pool, offered_class offer)) is
          ∙ ap (λ b. b && given_room_passes (world_of t) (pool, offered_class offer)) (twice (is_free node) (not (same_offer node.offer offer)))

-- ---- a node that is there

module _ (t : Tables) (pool name : Name) (within : is_past_bound (world_of t) ≡ false) (node : Node) (is : node_at (world_of t) pool name ≡ Some node) where
  abbrev w : World
  w = world_of t

  of_pool : {A : Type 0} → ((x : StoredPool) → row_at t.pools pool ≡ Some x → get (pool_of x).nodes name ≡ Some node → A) → A
  of_pool {A = A} go = by (row_at t.pools pool) refl
    where
      by : (r : Option StoredPool) → row_at t.pools pool ≡ r → A
      by None at = not_both (ap is_some is) (ap (λ o. is_some (option_and_then (λ (p : PoolRows). get p.nodes name) o))
          (pool_at t pool ∙ ap (option_map pool_of) at))
      by (Some x) at = go x at (sym (ap (option_and_then (λ (p : PoolRows). get p.nodes name)) (pool_at t pool ∙ ap (option_map pool_of) at)) ∙ is)

  pub removed_within : is_past_bound (settle w (change_pool pool (without_node name) w)) ≡ false
  removed_within = of_pool (λ x at row. gone_past t pool name x at within)

  pub freed_past : (new : Node) → new.offer ≡ node.offer → new.places ≡ node.places →
      is_past_bound (settle w (change_pool pool (with_node name new) w)) ≡
      ((is_free new && not (is_free node)) && given_room_passes w (pool, class_of node))
  freed_past new offer places = of_pool (λ x at row.
      put_past t pool name x at within new (ap (nat_lt greatest) places ∙
      places_in w within pool name (pool_of x) (pool_at t pool ∙ ap (option_map pool_of) at) node row)
      ∙ (λ i. gives x row i && given_room_passes w (pool, class i)))
    where
      class : class_of new ≡ class_of node
      class i = offered_class (offer i)

      gives : (x : StoredPool) → get (pool_of x).nodes name ≡ Some node → gives_itself (pool_of x) name new ≡ (is_free new && not (is_free node))
      gives x row = (λ i. is_free new && option_map_or (λ old. not (is_free old) || not (same_offer old.offer (offer i))) (row i) true)
          ∙ ap (λ b. is_free new && (not (is_free node) || not b)) (same_offer_refl node.offer) ∙ ap (λ b. is_free new && b) (or-false (not (is_free node)))
