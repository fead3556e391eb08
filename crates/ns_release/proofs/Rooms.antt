-- Which classes a step releases, by its change alone.
use Rattle.std.specs.Prelude.{◌≡◌, Bool, true, false, cond, not, List, [], ◌∷◌, map, filter, Option, Some, None, ◌&&◌, ◌||◌, option_map, is_some, flat_map}
use Rattle.std.specs.Prelude.{if◌then◌else◌}
use Rattle.std.proofs.Common.{refl, sym, ap, ◌∙◌, Ordering}
use Rattle.std.specs.Option.{option_map_or, option_and_then}
use Rattle.std.specs.List.{list_any}
use Rattle.std.specs.Cmp.{IsTotalOrder, eq_by_cmp_equiv}
use Rattle.std.specs.Ordering.{eq_by_cmp}
use Rattle.std.specs.FinMap.{FinMap, IsAntisymmetric, entries, entries-insert, get, get-insert, insert, empty, contains_key}
use Rattle.std.specs.FinMap.Entries.{put}
use Rattle.keyed.specs.Table.{flat, row_at, row_list, at_slot}
use Rattle.keyed.proofs.Tables.{any-at_slot}
use Rattle.ns_types.specs.declared.allocation.Allocation.{Allocation}
use Rattle.ns_types.specs.declared.node.Class.{Class}
use Rattle.ns_types.specs.declared.node.Node.{Node}
use Rattle.ns_types.specs.declared.records.Namespace.{Namespace}
use Rattle.ns_types.specs.State.Names.{Name, name_cmp, same_name}
use Rattle.ns_types.specs.Settling.Releases.{is_on, gives_room, released_classes, classes_of, same_offer}
use Rattle.ns_types.specs.State.Rows.{World, PoolRows, is_free, class_of, node_at}
use Rattle.ns_types.specs.State.Tables.{any_row}
use Rattle.ns_types.proofs.Lists.{not_both, any_alike, each}
use Rattle.ns_types.proofs.Named.{names, one_name}
use Rattle.ns_types.proofs.Tables.{any_row-none, get-map_rows, tied}
use Rattle.ns_types.proofs.Alike.{same_offer_refl}
use Rattle.ns_types.proofs.TableRows.{entries_empty, turned}
use Rattle.ns_change.specs.declared.change.Change.{Change}
use Rattle.ns_change.specs.declared.change.PoolChange.{PoolChange}
use Rattle.ns_change.specs.Changed.{changed, changed_pool, perhaps}
use Rattle.ns_release.specs.Released.{at_ended, ended_rows, gives_itself, changed_classes, room_left, in_pool, released_rooms, at_room}
use Rattle.keyed.proofs.Over.{any_row-before, any_row-over, passed}
use Rattle.std.proofs.lemmas.List.Folds.{list_any-append}
use Rattle.ns_types.proofs.Elements.{any_flat}
use Rattle.ns_release.proofs.Ending.{ends_is}
use Rattle.std.proofs.Math.Bool.{and-false, and_comm}
use Rattle.ns_types.proofs.Tests.{or_none, swap_or}

-- ---- tests of lists

module _ {A : Type 0} where
  any_or : (f g : A → Bool) (xs : List A) → list_any (λ x. f x || g x) xs ≡ (list_any f xs || list_any g xs)
  any_or f g [] = refl
  any_or f g (x ∷ xs) = ap (λ b. (f x || g x) || b) (any_or f g xs) ∙ swap_or (f x) (g x) (list_any f xs) (list_any g xs)

  pub any_none : (xs : List A) → list_any (λ _. false) xs ≡ false
  any_none [] = refl
  any_none (x ∷ xs) = any_none xs

  pub any_and : (b : Bool) (f : A → Bool) (xs : List A) → (b && list_any f xs) ≡ list_any (λ x. b && f x) xs
  any_and true f xs = refl
  any_and false f xs = sym (any_none xs)

  -- what passes of the images of those that are chosen
  pub any_image : {B : Type 0} (passes : B → Bool) (f : A → B) (p : A → Bool) (xs : List A) →
      list_any passes (map f (filter p xs)) ≡ list_any (λ x. p x && passes (f x)) xs
  any_image passes f p [] = refl
  any_image passes f p (x ∷ xs) = elim (p x) as (λ b. list_any passes (map f (cond b (x ∷ filter p xs) (filter p xs))) ≡
      ((b && passes (f x)) || list_any (λ x. p x && passes (f x)) xs)) [
        | true ↦ ap (λ b. passes (f x) || b) (any_image passes f p xs)
        | false ↦ any_image passes f p xs
      ]

  any_map : {B : Type 0} (passes : B → Bool) (f : A → B) (xs : List A) → list_any passes (map f xs) ≡ list_any (λ x. passes (f x)) xs
  any_map passes f [] = refl
  any_map passes f (x ∷ xs) = ap (λ b. passes (f x) || b) (any_map passes f xs)

-- one test for all of a list, or all in turn
pub any_swap : {A B : Type 0} (h : A → B → Bool) (xs : List A) (ys : List B) →
    list_any (λ x. list_any (h x) ys) xs ≡ list_any (λ y. list_any (λ x. h x y) xs) ys
any_swap h [] ys = sym (any_none ys)
any_swap h (x ∷ xs) ys = ap (λ b. list_any (h x) ys || b) (any_swap h xs ys) ∙ sym (any_or (h x) (λ y. list_any (λ x. h x y) xs) ys)

module _ {K X : Type 0} {R : K → K → Ordering} (o : IsTotalOrder R) (same : IsAntisymmetric R) where
  -- a test that asks for one key asks the row there
  pub any_row-at : (k : K) (f : K → X → Bool) (m : FinMap R X) → any_row (λ q x. eq_by_cmp R k q && f q x) m ≡ option_map_or (f k) (get m k) false
  any_row-at k f m = any_row-before o same (λ q x. eq_by_cmp R k q && f q x) m (insert empty k true) other
      ∙ ap (list_any (λ e. passed (λ q x. eq_by_cmp R k q && f q x) (get m) e.0)) (entries-insert o empty k true ∙ ap (put R k true) (entries_empty o same))
      ∙ or_none _ ∙ by (get m k)
    where
      other : (q : K) (x : X) → get m q ≡ Some x → contains_key (insert (empty {X = Bool} {R = R}) k true) q ≡ false → (eq_by_cmp R k q && f q x) ≡ false
      other q x is out = by (eq_by_cmp R q k) refl
        where
          by : (b : Bool) → eq_by_cmp R q k ≡ b → (eq_by_cmp R k q && f q x) ≡ false
          by true e = not_both (ap is_some (get-insert o (empty {X = Bool} {R = R}) k true q ∙
              ap (λ b. cond b (Some true) (get (empty {X = Bool} {R = R}) q)) e)) out
          by false e = ap (λ b. b && f q x) (turned o q k e)

      by : (r : Option X) → option_map_or (λ x. eq_by_cmp R k k && f k x) r false ≡ option_map_or (f k) r false
      by None = refl
      by (Some x) = ap (λ b. b && f k x) ((eq_by_cmp_equiv o).refl k)

-- ---- the released classes of one pool

pub at_row : {A : Type 0} (b : Bool) (passes : A → Bool) (x : A) → list_any passes (if b then x ∷ [] else []) ≡ (b && passes x)
at_row true passes x = or_none (passes x)
at_row false passes x = refl

shared : (f a e p : Bool) → (f && (a || e) && p) ≡ ((f && a && p) || (e && (f && p)))
shared true true true true = refl
shared true true true false = refl
shared true true false true = refl
shared true true false false = refl
shared true false true p = refl
shared true false false p = refl
shared false a true p = refl
shared false a false p = refl

turn_in : (q s k : Bool) → (q && (s && k)) ≡ (k && (s && q))
turn_in true true true = refl
turn_in true true false = refl
turn_in true false true = refl
turn_in true false false = refl
turn_in false true true = refl
turn_in false true false = refl
turn_in false false true = refl
turn_in false false false = refl

module _ (w : World) (c : Change) (name : Name) (passes : Class → Bool) where
  abbrev then_world : World
  then_world = changed w c

  abbrev passes_free : Node → Bool
  passes_free node = is_free node && passes (class_of node)

  abbrev passes_itself : PoolRows → Name → Node → Bool
  passes_itself p n node = gives_itself p n node && passes (class_of node)

  pool_after : get then_world.pools name ≡ option_map (perhaps changed_pool (row_at c.pools name)) (get w.pools name)
  unfolding changed
  pool_after = get-map_rows names one_name _ w.pools name

  -- what was released from allocations that ended
  ended_here : Option PoolRows → Namespace × Allocation → Bool
  ended_here pool d = same_name name d.1.pool && option_map_or passes_free (option_and_then (λ p. get p.nodes d.1.node) pool) false

  room_here : (d : Namespace × Allocation) → list_any (at_room name passes) (in_pool d.1.pool (room_left (node_at then_world d.1.pool d.1.node))) ≡ ended_here
      (get then_world.pools name) d
  unfolding ended_here
  room_here d = any_map (at_room name passes) (λ class. (d.1.pool, class)) (room_left (node_at then_world d.1.pool d.1.node))
      ∙ sym (any_and (same_name name d.1.pool) passes (room_left (node_at then_world d.1.pool d.1.node)))
      ∙ by (same_name name d.1.pool) refl
    where
      left : (node : Option Node) → list_any passes (room_left node) ≡ option_map_or passes_free node false
      left None = refl
      left (Some node) = at_row (is_free node) passes (class_of node)

      by : (b : Bool) → same_name name d.1.pool ≡ b →
          (b && list_any passes (room_left (node_at then_world d.1.pool d.1.node))) ≡
          (b && option_map_or passes_free (option_and_then (λ p. get p.nodes d.1.node) (get then_world.pools name)) false)
      by false e = refl
      by true e = left (node_at then_world d.1.pool d.1.node) ∙
          ap (λ q. option_map_or passes_free (node_at then_world q d.1.node) false) (sym (tied one_name name d.1.pool e))

  -- what was released by changed nodes
  itself_here : list_any (at_room name passes) (flat_map (λ e. in_pool e.0 (changed_classes w e.0 e.1)) (entries c.pools)) ≡ option_map_or
      (λ x. list_any passes (changed_classes w name x)) (get c.pools name) false
  unfolding any_row
  itself_here = any_flat (at_room name passes) (λ e. in_pool e.0 (changed_classes w e.0 e.1)) (entries c.pools)
      ∙ any_alike (λ e. list_any (at_room name passes) (in_pool e.0 (changed_classes w e.0 e.1)))
      (λ e. same_name name e.0 && list_any passes (changed_classes w e.0 e.1)) (entries c.pools)
      (each _ (λ e. any_map (at_room name passes) (λ class. (e.0, class)) (changed_classes w e.0 e.1) ∙
      sym (any_and (same_name name e.0) passes (changed_classes w e.0 e.1))) (entries c.pools))
      ∙ any_row-at names one_name name (λ q x. list_any passes (changed_classes w q x)) c.pools

  -- a pool that is there
  module _ (p : PoolRows) (is : get w.pools name ≡ Some p) where
    abbrev pool_then : PoolRows
    pool_then = perhaps changed_pool (row_at c.pools name) p

    then_is : get then_world.pools name ≡ Some pool_then
    then_is = pool_after ∙ ap (option_map (perhaps changed_pool (row_at c.pools name))) is

    abbrev ended_on : Name → Bool
    ended_on n = list_any (at_ended (is_on name n)) (ended_rows w c)

    gives_is : (n : Name) (node : Node) → (gives_room w then_world name n node && passes (class_of node)) ≡
        (passes_itself p n node || (ended_on n && passes_free node))
    gives_is n node = (λ i. is_free node && (option_map_or (λ old. not (is_free old) || not (same_offer old.offer node.offer))
        (option_and_then (λ p. get p.nodes n) (is i)) true || ends_is w c (is_on name n) i) && passes (class_of node))
        ∙ shared (is_free node) _ (ended_on n) (passes (class_of node))

    -- changed nodes
    unchanged_node : (n : Name) (node : Node) → get p.nodes n ≡ Some node → passes_itself p n node ≡ false
    unchanged_node n node at = (λ i. is_free node && option_map_or (λ old. not (is_free old) || not (same_offer old.offer node.offer)) (at i) true
        && passes (class_of node))
        ∙ ap (λ b. is_free node && (not (is_free node) || not b) && passes (class_of node)) (same_offer_refl node.offer) ∙
        by (is_free node) (passes (class_of node))
      where
        by : (f q : Bool) → (f && (not f || false) && q) ≡ false
        by true q = refl
        by false q = refl

    nodes_changed : any_row (passes_itself p) pool_then.nodes ≡ option_map_or (λ x. list_any passes (changed_classes w name x)) (get c.pools name) false
    nodes_changed = by (get c.pools name)
      where
        classes_are : (x : PoolChange) → list_any passes (changed_classes w name (Some x)) ≡ list_any (at_slot (λ e. passes_itself p e.0 e.1)) (entries x.nodes)
        classes_are x = ap (λ q. list_any passes (option_map_or
            (λ p. map (λ e. class_of e.1) (filter (λ e. gives_itself p e.0 e.1) (row_list (entries x.nodes)))) q [])) is
            ∙ any_image passes (λ e. class_of e.1) (λ e. gives_itself p e.0 e.1) (row_list (entries x.nodes)) ∙
            sym (any-at_slot name_cmp (λ e. passes_itself p e.0 e.1) (entries x.nodes))

        by : (r : Option (Option PoolChange)) → any_row (passes_itself p) (perhaps changed_pool (flat r) p).nodes ≡ option_map_or
            (λ x. list_any passes (changed_classes w name x)) r false
        by None = any_row-none names one_name (passes_itself p) p.nodes unchanged_node
        by (Some None) = any_row-none names one_name (passes_itself p) p.nodes unchanged_node ∙
            ap (λ (q : Option PoolRows). list_any passes (option_map_or (λ _. []) q [])) (sym is)
        by (Some (Some x)) = any_row-over names one_name (passes_itself p) p.nodes x.nodes (λ n node at _. unchanged_node n node at) ∙ sym (classes_are x)

    -- nodes from which allocations went
    on_node : (d : Namespace × Allocation) → list_any (λ (e : Name × Node). passes_free e.1 && at_ended (is_on name e.0) d) (entries pool_then.nodes)
        ≡ ended_here (get then_world.pools name) d
    unfolding any_row ended_here
    on_node d = any_alike (λ (e : Name × Node). passes_free e.1 && at_ended (is_on name e.0) d)
        (λ e. same_name d.1.node e.0 && (same_name name d.1.pool && passes_free e.1)) (entries pool_then.nodes)
        (each _ (λ e. turn_in (passes_free e.1) (same_name name d.1.pool) (same_name e.0 d.1.node) ∙
        ap (λ b. b && (same_name name d.1.pool && passes_free e.1)) ((eq_by_cmp_equiv names).symm e.0 d.1.node)) (entries pool_then.nodes))
        ∙ any_row-at names one_name d.1.node (λ _ node. same_name name d.1.pool && passes_free node) pool_then.nodes
        ∙ by (same_name name d.1.pool) (get pool_then.nodes d.1.node)
        ∙ ap (λ q. same_name name d.1.pool && option_map_or passes_free (option_and_then (λ p. get p.nodes d.1.node) q) false) (sym then_is)
      where
        by : (b : Bool) (r : Option Node) → option_map_or (λ node. b && passes_free node) r false ≡ (b && option_map_or passes_free r false)
        by true r = refl
        by false None = refl
        by false (Some node) = refl

    nodes_left : list_any (λ (e : Name × Node). ended_on e.0 && passes_free e.1) (entries pool_then.nodes) ≡ list_any (ended_here (get then_world.pools name))
        (ended_rows w c)
    nodes_left = any_alike (λ (e : Name × Node). ended_on e.0 && passes_free e.1)
        (λ e. list_any (λ d. passes_free e.1 && at_ended (is_on name e.0) d) (ended_rows w c)) (entries pool_then.nodes)
        (each _ (λ e. and_comm (ended_on e.0) (passes_free e.1) ∙ any_and (passes_free e.1) (at_ended (is_on name e.0)) (ended_rows w c))
        (entries pool_then.nodes))
        ∙ any_swap (λ (e : Name × Node) d. passes_free e.1 && at_ended (is_on name e.0) d) (entries pool_then.nodes) (ended_rows w c)
        ∙ any_alike _ _ (ended_rows w c) (each _ on_node (ended_rows w c))

    released_are : list_any passes (released_classes w then_world name pool_then)
        ≡ (option_map_or (λ x. list_any passes (changed_classes w name x)) (get c.pools name) false
        || list_any (ended_here (get then_world.pools name)) (ended_rows w c))
    unfolding released_classes any_row
    released_are = any_image passes (λ e. class_of e.1) (λ e. gives_room w then_world name e.0 e.1) (entries pool_then.nodes)
        ∙ any_alike _ (λ e. passes_itself p e.0 e.1 || (ended_on e.0 && passes_free e.1)) (entries pool_then.nodes)
        (each _ (λ e. gives_is e.0 e.1) (entries pool_then.nodes))
        ∙ any_or (λ e. passes_itself p e.0 e.1) (λ e. ended_on e.0 && passes_free e.1) (entries pool_then.nodes)
        ∙ (λ i. nodes_changed i || nodes_left i)

  -- what is asked of a pool's released classes, the change tells
  pub rooms_are : list_any (at_room name passes) (released_rooms w c) ≡ list_any passes (classes_of w then_world name)
  unfolding ended_here
  rooms_are = list_any-append (at_room name passes) _ _
      ∙ (λ i. itself_here i || (any_flat (at_room name passes) (λ e. in_pool e.1.pool (room_left (node_at then_world e.1.pool e.1.node))) (ended_rows w c) ∙
      any_alike _ _ (ended_rows w c) (each _ room_here (ended_rows w c))) i)
      ∙ by (get w.pools name) refl
    where
      no_classes : get w.pools name ≡ None → (r : Option (Option PoolChange)) → option_map_or (λ x. list_any passes (changed_classes w name x)) r false ≡ false
      no_classes is None = refl
      no_classes is (Some x) = ap (λ q. list_any passes
          (option_map_or (λ p. option_map_or (λ x. map (λ e. class_of e.1) (filter (λ e. gives_itself p e.0 e.1) (row_list (entries x.nodes)))) x []) q [])) is

      no_nodes : get then_world.pools name ≡ None → list_any (ended_here (get then_world.pools name)) (ended_rows w c) ≡ false
      no_nodes is = any_alike (ended_here (get then_world.pools name)) (λ _. false) (ended_rows w c)
          (each _ (λ d. ap (λ q. same_name name d.1.pool && option_map_or passes_free (option_and_then (λ p. get p.nodes d.1.node) q) false) is ∙
          and-false (same_name name d.1.pool)) (ended_rows w c))
          ∙ any_none (ended_rows w c)

      by : (p : Option PoolRows) → get w.pools name ≡ p
          → (option_map_or (λ x. list_any passes (changed_classes w name x)) (get c.pools name) false
          || list_any (ended_here (get then_world.pools name)) (ended_rows w c))
          ≡ list_any passes (classes_of w then_world name)
      by (Some p) is = sym (released_are p is) ∙ ap (λ q. list_any passes (option_map_or (released_classes w then_world name) q [])) (sym (then_is p is))
      by None is = (λ i. no_classes is (get c.pools name) i || no_nodes (pool_after ∙ ap (option_map (perhaps changed_pool (row_at c.pools name))) is) i)
          ∙ ap (λ q. list_any passes (option_map_or (released_classes w then_world name) q []))
          (sym (pool_after ∙ ap (option_map (perhaps changed_pool (row_at c.pools name))) is))
