-- What is decided node by node: the victims of the nodes that do their part are gone, and these nodes are there.
use Rattle.std.specs.Prelude.{◌≡◌, ℕ, ◌&&◌, ◌||◌, ◌++◌, Bool, true, false, cond, List, [], ◌∷◌, Option, Some, None, filter, fold, is_some, map}
use Rattle.std.proofs.Common.{refl, sym, ap, subst, ◌∙◌}
use Rattle.std.proofs.lemmas.List.Folds.{list_any-append}
use Rattle.std.specs.List.{list_any}
use Rattle.std.specs.Option.{option_map_or}
use Rattle.ns_types.specs.declared.node.Node.{Node}
use Rattle.ns_types.specs.declared.plan.Placement.{Placement}
use Rattle.ns_types.specs.declared.snapshot.Snapshot.{Snapshot}
use Rattle.ns_types.specs.State.Lists.{Each}
use Rattle.ns_types.specs.State.Names.{Key, has_key, has_number, same_key, same_number}
use Rattle.ns_types.specs.State.Resources.{plus}
use Rattle.ns_types.specs.State.Rows.{World, node_at}
use Rattle.ns_types.specs.Working.Commit.{Commit, begun, decide, node_name, part_of, size_of, victim_key, victim_keys, victims_in, victims_of}
use Rattle.ns_types.proofs.Elements.{any_flat, any_map, each_append, each_of, each_passes}
use Rattle.ns_types.specs.Settling.Gone.{rows_gone}
use Rattle.ns_types.proofs.Gone.{evicted_row}
use Rattle.ns_types.proofs.Less.{gone_alike}
use Rattle.ns_types.proofs.Lists.{not_both}
use Rattle.ns_types.proofs.Named.{one_number}
use Rattle.ns_types.proofs.Once.{once_has}
use Rattle.ns_types.proofs.Tables.{tied}
use Rattle.ns_types.proofs.Tests.{or_none}
use Rattle.ns_plan.proofs.Reader.{decided_is}
use Rattle.ns_plan.specs.Reader.{Read, accepts, nothing_read, read_all, read_one, takes, with_victims}

-- ---- lists

module _ {A : Type 0} where
  any_chosen : (test p : A → Bool) (xs : List A) → list_any test (filter p xs) ≡ list_any (λ x. p x && test x) xs
  any_chosen test p [] = refl
  any_chosen test p (x ∷ xs) = by (p x) (any_chosen test p xs)
    where
      by : (b : Bool) → list_any test (filter p xs) ≡ list_any (λ x. p x && test x) xs →
          list_any test (cond b (x ∷ filter p xs) (filter p xs)) ≡ ((b && test x) || list_any (λ x. p x && test x) xs)
      by true rest = ap (λ b. test x || b) rest
      by false rest = rest

  -- chosen by one of several tests
  either_chosen : (test : A → Bool) (p q : A → Bool) (xs : List A) →
      list_any test (filter (λ x. p x || q x) xs) ≡ (list_any test (filter p xs) || list_any test (filter q xs))
  either_chosen test p q xs = any_chosen test (λ x. p x || q x) xs ∙ both xs
      ∙ (λ i. sym (any_chosen test p xs) i || sym (any_chosen test q xs) i)
    where
      one : (a b c r s : Bool) → (((a || b) && c) || (r || s)) ≡ (((a && c) || r) || ((b && c) || s))
      one true b true r s = refl
      one true true false r s = refl
      one true false false r s = refl
      one false true true true s = refl
      one false true true false s = refl
      one false true false r s = refl
      one false false c r s = refl

      both : (xs : List A) → list_any (λ x. (p x || q x) && test x) xs ≡ (list_any (λ x. p x && test x) xs || list_any (λ x. q x && test x) xs)
      both [] = refl
      both (x ∷ xs) = ap (λ b. ((p x || q x) && test x) || b) (both xs)
          ∙ one (p x) (q x) (test x) (list_any (λ x. p x && test x) xs) (list_any (λ x. q x && test x) xs)

  none_chosen : (test : A → Bool) (xs : List A) → list_any test (filter (λ _. false) xs) ≡ false
  none_chosen test [] = refl
  none_chosen test (x ∷ xs) = none_chosen test xs

  some_chosen : {B : Type 0} (test : A → Bool) (is : A → B → Bool) (xs : List A) (ys : List B) →
      list_any test (filter (λ x. list_any (is x) ys) xs) ≡ list_any (λ y. list_any test (filter (λ x. is x y) xs)) ys
  some_chosen test is xs [] = none_chosen test xs
  some_chosen test is xs (y ∷ ys) = either_chosen test (λ x. is x y) (λ x. list_any (is x) ys) xs
      ∙ ap (λ b. list_any test (filter (λ x. is x y) xs) || b) (some_chosen test is xs ys)

-- ---- what is read node by node

module _ (kept : Snapshot) (ps : List Placement) (w : World) where
  -- an allocation at the key is a victim of the placement
  abbrev evicts : Key → Placement → Bool
  evicts k p = list_any (λ e. same_key k (victim_key e)) (victims_in w kept p)

  has_victims : (k : Key) (part : List Placement) → has_key (map victim_key (victims_of w kept part)) k ≡ list_any (evicts k) part
  has_victims k part = any_map (same_key k) victim_key (victims_of w kept part) ∙ any_flat (λ e. same_key k (victim_key e)) (victims_in w kept) part

  -- the keys that are held are those of the committed nodes' victims
  abbrev HoldsVictims : Read → Type 0
  HoldsVictims r = (k : Key) → has_key r.keys k ≡ list_any (λ j. list_any (evicts k) (part_of j ps)) r.committed

  abbrev IsThereAt : ℕ → Type 0
  IsThereAt j = is_some (node_at w kept.pool (node_name kept j)) ≡ true

  record IsRead (r : Read) : Type 0 where
    pub keys : HoldsVictims r
    pub there : Each IsThereAt r.committed

  one_read : (r : Read) (j : ℕ) → IsRead r → IsRead (read_one kept ps w r j)
  one_read r j h = by (takes kept w keys (node_name kept j) (size_of part) r.placed) refl
    where
      part : List Placement
      part = part_of j ps

      keys : List Key
      keys = with_victims kept w r.keys part

      held : (k : Key) → has_key keys k ≡ list_any (λ j. list_any (evicts k) (part_of j ps)) (r.committed ++ j ∷ [])
      held k = once_has (r.keys ++ map victim_key (victims_of w kept part)) k ∙ list_any-append (same_key k) r.keys (map victim_key (victims_of w kept part))
          ∙ (λ i. h.keys k i || (has_victims k part ∙ sym (or_none (list_any (evicts k) part))) i)
          ∙ sym (list_any-append (λ j. list_any (evicts k) (part_of j ps)) r.committed (j ∷ []))

      there : takes kept w keys (node_name kept j) (size_of part) r.placed ≡ true → IsThereAt j
      there = found (node_at w kept.pool (node_name kept j))
        where
          found : (o : Option Node) → option_map_or (accepts kept w keys (node_name kept j) (size_of part) r.placed) o false ≡ true → is_some o ≡ true
          found None e = e
          found (Some node) e = refl

      by : (b : Bool) → takes kept w keys (node_name kept j) (size_of part) r.placed ≡ b → IsRead (cond b
          (record { keys = keys; placed = plus r.placed (size_of part); committed = r.committed ++ j ∷ []; dropped = r.dropped })
          (record r { dropped = r.dropped ++ j ∷ [] }))
      by true e = record { keys = held; there = each_append IsThereAt r.committed (j ∷ []) h.there (there e, tt) }
      by false e = record { keys = h.keys; there = h.there }

  all_read : (nodes : List ℕ) (r : Read) → IsRead r → IsRead (fold (read_one kept ps w) r nodes)
  all_read [] r h = h
  all_read (j ∷ nodes) r h = all_read nodes (read_one kept ps w r j) (one_read r j h)

  is_read : (nodes : List ℕ) → IsRead (read_all kept ps w nodes)
  is_read nodes = all_read nodes nothing_read (record { keys = λ k. refl; there = tt })

  -- ---- the whole

  abbrev pub committed_in : List ℕ → List Placement
  committed_in committed = filter (λ p. has_number committed p.node) ps

  victims_held : (r : Read) → IsRead r → (k : Key) → has_key r.keys k ≡ has_key (victim_keys (victims_of w kept (committed_in r.committed))) k
  victims_held r h k = h.keys k ∙ sym (some_chosen (evicts k) (λ (p : Placement) j. same_number p.node j) ps r.committed)
      ∙ sym (has_victims k (committed_in r.committed)) ∙ sym (once_has (map victim_key (victims_of w kept (committed_in r.committed))) k)

  pub decided_world : (nodes : List ℕ) → let c = fold (decide kept ps) (begun w) nodes in
      c.world ≡ rows_gone evicted_row w (victim_keys (victims_of w kept (committed_in c.committed)))
  decided_world nodes = ap (λ c. c.world) (decided_is kept ps w nodes)
      ∙ gone_alike evicted_row (λ a. refl) w (read_all kept ps w nodes).keys
      (victim_keys (victims_of w kept (committed_in (read_all kept ps w nodes).committed)))
      (victims_held (read_all kept ps w nodes) (is_read nodes))
      ∙ ap (λ c. rows_gone evicted_row w (victim_keys (victims_of w kept (committed_in c.committed)))) (sym (decided_is kept ps w nodes))

  -- each placement of a node that does its part has its node
  has_there : (committed : List ℕ) → Each IsThereAt committed → (j : ℕ) → has_number committed j ≡ true → IsThereAt j
  has_there [] h j e = not_both e refl
  has_there (k ∷ committed) h j e = by (same_number j k) refl e (has_there committed h.1 j)
    where
      by : (b : Bool) → same_number j k ≡ b → (b || has_number committed j) ≡ true → (has_number committed j ≡ true → IsThereAt j) → IsThereAt j
      by true t e later = ap (λ j. is_some (node_at w kept.pool (node_name kept j))) (tied one_number j k t) ∙ h.0
      by false t e later = later e

  pub committed_there : (nodes : List ℕ) (j : ℕ) → has_number (fold (decide kept ps) (begun w) nodes).committed j ≡ true → IsThereAt j
  committed_there nodes j e = has_there c.committed there j e
    where
      c : Commit
      c = fold (decide kept ps) (begun w) nodes

      there : Each IsThereAt c.committed
      there = subst (λ (c : Commit). Each IsThereAt c.committed) (sym (decided_is kept ps w nodes)) (is_read nodes).there

  pub decided_there : (nodes : List ℕ) → Each (λ (p : Placement). IsThereAt p.node) (committed_in (fold (decide kept ps) (begun w) nodes).committed)
  decided_there nodes = each_of (λ (p : Placement). has_number c.committed p.node ≡ true) (λ (p : Placement). IsThereAt p.node)
      (λ p. committed_there nodes p.node) (committed_in c.committed) (each_passes (λ (p : Placement). has_number c.committed p.node) ps)
    where
      c : Commit
      c = fold (decide kept ps) (begun w) nodes
