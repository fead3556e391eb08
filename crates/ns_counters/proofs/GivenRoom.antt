-- A step that puts one node, or takes it away, and does nothing else.
use Rattle.std.specs.Prelude.{◌≡◌, Bool, true, false, cond, ◌&&◌, ◌||◌, List, [], ◌∷◌, Option, Some, None, option_map, flat_map, map, filter}
use Rattle.std.specs.Prelude.{nat_lt}
use Rattle.std.proofs.Common.{refl, sym, ap, ◌∙◌, append-nil}
use Rattle.std.specs.Option.{option_map_or}
use Rattle.std.specs.List.{list_any}
use Rattle.std.specs.FinMap.{empty, entries, entries-insert, get, get-empty, insert}
use Rattle.std.specs.FinMap.Entries.{put}
use Rattle.keyed.specs.Table.{flat, row_at, row_list, with_slot}
use Rattle.keyed.proofs.Tables.{has_slot-with_slot_here}
use Rattle.keyed.proofs.Over.{over-gone, over-put}
use Rattle.ns_types.specs.declared.node.Class.{Class}
use Rattle.ns_types.specs.declared.node.Node.{Node}
use Rattle.ns_types.specs.Settling.Making.{with_node}
use Rattle.ns_types.specs.Settling.Settle.{settle}
use Rattle.ns_types.specs.State.Names.{Name, ByName, name_cmp}
use Rattle.ns_types.specs.State.Rows.{World, PoolRows, class_of}
use Rattle.ns_types.specs.Steps.{greatest, is_past_bound}
use Rattle.ns_types.proofs.Named.{names, one_name}
use Rattle.ns_types.proofs.TableRows.{entries_empty}
use Rattle.ns_change.specs.declared.change.Change.{Change}
use Rattle.ns_change.specs.declared.change.PoolChange.{PoolChange}
use Rattle.ns_change.specs.Changed.{change_pool, changed_pool, perhaps, unchanged_pool, view, without_node}
use Rattle.ns_change.specs.Opened.{OpenedPool}
use Rattle.ns_change.proofs.Nothing.{nothing, nothing_changed}
use Rattle.ns_change.proofs.Opening.{row_with_slot}
use Rattle.ns_change.proofs.Pools.{opened_pool, pool_unchanged, put_open_pool}
use Rattle.ns_tables.specs.declared.tables.PoolRows.{PoolRows as StoredPool}
use Rattle.ns_tables.specs.declared.tables.Tables.{Tables}
use Rattle.ns_tables.specs.World.{pool_of, world_of}
use Rattle.ns_tables.proofs.World.{pool_at}
use Rattle.ns_release.specs.Released.{changed_classes, gives_itself, in_pool, quota_relimited, released_quotas, released_rooms, rooms_of_pool}
use Rattle.ns_counters.specs.Bounds.{is_place_past, places_pass, room_passes}
use Rattle.ns_counters.specs.Given.{given_room_passes, given_waking_passes}
use Rattle.ns_counters.proofs.Alone.{alone, alone_past, none_given_wakes, one_entry, quotas_alone, rooms_alone}
use Rattle.ns_types.proofs.Tests.{or_none}

module _ (t : Tables) (pool name : Name) (row : Option Node) (f : PoolRows → PoolRows)
    (law : (base : PoolRows) → changed_pool base (record { nodes = insert empty name row }) ≡ f (changed_pool base (unchanged_pool base)))
    (x : StoredPool) (at : row_at t.pools pool ≡ Some x) where
  abbrev w : World
  w = world_of t

  abbrev nodes : PoolChange
  nodes = record { nodes = insert empty name row }

  abbrev left : Change
  left = record nothing { pools = with_slot empty pool }

  abbrev pools : ByName (Option PoolChange)
  pools = insert (with_slot empty pool) pool (Some nodes)

  opened : OpenedPool t nothing pool (Some (unchanged_pool (pool_of x))) left
  opened = opened_pool t nothing left pool x (unchanged_pool (pool_of x)) at
      (ap (λ r. perhaps changed_pool (flat r) (pool_of x)) (get-empty name_cmp pool) ∙ sym (pool_unchanged (pool_of x)))
      (λ q e. row_with_slot names one_name empty pool q) refl (has_slot-with_slot_here names empty pool)

  alone_is : view t (alone t pools empty) ≡ change_pool pool f w
  alone_is = put_open_pool t nothing left pool f (unchanged_pool (pool_of x)) nodes opened law ∙ ap (change_pool pool f) (nothing_changed t)

  -- ---- what it releases

  node_entries : entries nodes.nodes ≡ (name, row) ∷ []
  node_entries = entries-insert names empty name row ∙ ap (put name_cmp name row) (entries_empty names one_name)

  quotas_are : released_quotas w (alone t pools empty) ≡ []
  quotas_are = quotas_alone t pools empty ∙ ap (flat_map (quota_relimited w)) (entries_empty names one_name)

  abbrev classes_of_slots : List (Name × Option Node) → List Class
  classes_of_slots slots = map (λ e. class_of e.1) (filter (λ e. gives_itself (pool_of x) e.0 e.1) (row_list slots))

  classes_are : changed_classes w pool (Some nodes) ≡ classes_of_slots ((name, row) ∷ [])
  classes_are = ap (λ o. option_map_or (λ p. map (λ e. class_of e.1) (filter (λ e. gives_itself p e.0 e.1) (row_list (entries nodes.nodes)))) o [])
      (pool_at t pool ∙ ap (option_map pool_of) at) ∙ ap classes_of_slots node_entries

  rooms_are : released_rooms w (alone t pools empty) ≡ in_pool pool (classes_of_slots ((name, row) ∷ []))
  rooms_are = rooms_alone t pools empty ∙ ap (flat_map (rooms_of_pool w)) (one_entry pool nodes)
      ∙ append-nil (rooms_of_pool w (pool, Some nodes)) ∙ ap (in_pool pool) classes_are

  -- ---- counters

  module _ (places : option_map_or (λ node. nat_lt greatest node.places) row false ≡ false) (within : is_past_bound w ≡ false) where
    no_place : list_any (places_pass w) (entries pools) ≡ false
    no_place = ap (list_any (places_pass w)) (one_entry pool nodes) ∙ (λ i. by (get w.pools pool) i || false)
      where
        slot : (r : Option Node) → option_map_or (λ node. nat_lt greatest node.places) r false ≡ false → is_place_past (name, r) ≡ false
        slot None e = refl
        slot (Some n) e = e

        by : (r : Option PoolRows) → option_map_or (λ _. list_any is_place_past (entries nodes.nodes)) r false ≡ false
        by None = refl
        by (Some p) = ap (list_any is_place_past) node_entries ∙ ap (λ b. b || false) (slot row places)

    given_past : (classes : List Class) → classes_of_slots ((name, row) ∷ []) ≡ classes → is_past_bound (settle w (change_pool pool f w)) ≡
        (list_any (room_passes w) (in_pool pool classes) || list_any (given_waking_passes w (in_pool pool classes) []) w.blocked)
    given_past classes are = ap (λ x. is_past_bound (settle w x)) (sym alone_is)
        ∙ alone_past t pools empty (in_pool pool classes) [] (rooms_are ∙ ap (in_pool pool) are) quotas_are within no_place

    pub nothing_given : classes_of_slots ((name, row) ∷ []) ≡ [] → is_past_bound (settle w (change_pool pool f w)) ≡ false
    nothing_given none = given_past [] none ∙ none_given_wakes w

    pub one_given : (class : Class) → classes_of_slots ((name, row) ∷ []) ≡ class ∷ [] →
        is_past_bound (settle w (change_pool pool f w)) ≡ given_room_passes w (pool, class)
    one_given class one = given_past (class ∷ []) one ∙
        ap (λ b. b || list_any (given_waking_passes w ((pool, class) ∷ []) []) w.blocked) (or_none (room_passes w (pool, class)))

-- ---- a node that is put, and one that goes

module _ (t : Tables) (pool name : Name) (x : StoredPool) (at : row_at t.pools pool ≡ Some x) (within : is_past_bound (world_of t) ≡ false) where
  pub put_past : (node : Node) → nat_lt greatest node.places ≡ false →
      is_past_bound (settle (world_of t) (change_pool pool (with_node name node) (world_of t)))
      ≡ (gives_itself (pool_of x) name node && given_room_passes (world_of t) (pool, class_of node))
  put_past node places = by (gives_itself (pool_of x) name node) refl
    where
      law : (base : PoolRows) → changed_pool base (record { nodes = insert empty name (Some node) }) ≡
          with_node name node (changed_pool base (unchanged_pool base))
      law base i = record base { nodes = over-put names one_name base.nodes empty name node i }

      by : (b : Bool) → gives_itself (pool_of x) name node ≡ b →
          is_past_bound (settle (world_of t) (change_pool pool (with_node name node) (world_of t)))
          ≡ (b && given_room_passes (world_of t) (pool, class_of node))
      by true gives = one_given t pool name (Some node) (with_node name node) law x at places within (class_of node)
          (ap (λ b. map (λ (e : Name × Node). class_of e.1) (cond b ((name, node) ∷ []) [])) gives)
      by false gives = nothing_given t pool name (Some node) (with_node name node) law x at places within
          (ap (λ b. map (λ (e : Name × Node). class_of e.1) (cond b ((name, node) ∷ []) [])) gives)

  pub gone_past : is_past_bound (settle (world_of t) (change_pool pool (without_node name) (world_of t))) ≡ false
  gone_past = nothing_given t pool name None (without_node name) law x at refl within refl
    where
      law : (base : PoolRows) → changed_pool base (record { nodes = insert empty name None }) ≡ without_node name (changed_pool base (unchanged_pool base))
      law base i = record base { nodes = over-gone names one_name base.nodes empty name i }
