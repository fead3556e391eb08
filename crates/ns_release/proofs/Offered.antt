-- The room that a step gives, as the program finds it.
use Rattle.std.specs.Prelude.{◌≡◌, Bool, true, false, cond, if◌then◌else◌, List, [], ◌∷◌, ◌++◌, Option, Some, None, flat_map, filter, map, option_map}
use Rattle.std.proofs.Common.{refl, sym, ap, ◌∙◌}
use Rattle.std.specs.Option.{option_map_or}
use Rattle.std.specs.FinMap.{entries}
use Rattle.keyed.specs.Table.{row_at, row_list}
use Rattle.ns_types.specs.declared.allocation.Allocation.{Allocation}
use Rattle.ns_types.specs.declared.node.Node.{Node}
use Rattle.ns_types.specs.declared.records.Namespace.{Namespace}
use Rattle.ns_types.specs.State.Names.{Name}
use Rattle.ns_types.specs.State.Rows.{World, PoolRows, class_of, node_at}
use Rattle.ns_change.specs.declared.change.PoolChange.{PoolChange}
use Rattle.ns_tables.specs.declared.tables.PoolRows.{PoolRows as StoredPool}
use Rattle.ns_tables.specs.declared.tables.Tables.{Tables}
use Rattle.ns_release.specs.Released.{changed_classes, gives_itself, in_pool, room_left, rooms_at, rooms_left}
use Rattle.ns_tables.specs.World.{pool_of, world_of}
use Rattle.ns_tables.proofs.World.{pool_at}

-- slot by slot
rooms_in : (name : Name) (p : PoolRows) (slots : List (Name × Option Node))
    → flat_map (rooms_at name p) slots ≡ in_pool name
    (map (λ (e : Name × Node). class_of e.1) (filter (λ (e : Name × Node). gives_itself p e.0 e.1) (row_list slots)))
rooms_in name p [] = refl
rooms_in name p ((n, None) ∷ slots) = rooms_in name p slots
rooms_in name p ((n, Some node) ∷ slots) =
    ap (λ l. (if gives_itself p n node then (name, class_of node) ∷ [] else []) ++ l) (rooms_in name p slots) ∙
    by (gives_itself p n node) (filter (λ (e : Name × Node). gives_itself p e.0 e.1) (row_list slots))
  where
    by : (b : Bool) (others : List (Name × Node)) → (if b then (name, class_of node) ∷ [] else []) ++
        in_pool name (map (λ (e : Name × Node). class_of e.1) others)
        ≡ in_pool name (map (λ (e : Name × Node). class_of e.1) (cond b ((n, node) ∷ others) others))
    by true others = refl
    by false others = refl

module _ (t : Tables) (name : Name) where
  pub changed_there : (p : StoredPool) (x : PoolChange) → row_at t.pools name ≡ Some p →
      in_pool name (changed_classes (world_of t) name (Some x)) ≡ flat_map (rooms_at name (pool_of p)) (entries x.nodes)
  changed_there p x at = ap (λ o. in_pool name (option_map_or
      (λ p. map (λ (e : Name × Node). class_of e.1) (filter (λ (e : Name × Node). gives_itself p e.0 e.1) (row_list (entries x.nodes)))) o []))
      (pool_at t name ∙ ap (option_map pool_of) at)
      ∙ sym (rooms_in name (pool_of p) (entries x.nodes))

  pub changed_nowhere : (x : Option PoolChange) → row_at t.pools name ≡ None → in_pool name (changed_classes (world_of t) name x) ≡ []
  changed_nowhere x at = ap (λ o. in_pool name (option_map_or
      (λ p. option_map_or (λ x. map (λ (e : Name × Node). class_of e.1) (filter (λ (e : Name × Node). gives_itself p e.0 e.1) (row_list (entries x.nodes)))) x
      []) o [])) (pool_at t name ∙ ap (option_map pool_of) at)

-- what an ended allocation leaves, by the node that is found
pub left_by : (w : World) (n : Namespace) (a : Allocation) (r : Option Node) → node_at w a.pool a.node ≡ r → rooms_left w (n, a) ≡ in_pool a.pool (room_left r)
left_by w n a r is = ap (λ o. in_pool a.pool (room_left o)) is
