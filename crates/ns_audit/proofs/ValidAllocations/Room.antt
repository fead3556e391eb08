-- The nodes that do their part of a plan have room for all that it places there.
use Rattle.std.specs.Prelude.{◌≡◌, ℕ, ◌+◌, ◌≤◌, Bool, true, false, cond, T, List, [], ◌∷◌, ◌++◌, Option, Some, None, ◌&&◌, ◌||◌, IsTrue, filter, fold}
use Rattle.std.specs.Prelude.{slice_get, sum_by}
use Rattle.std.proofs.Common.{◌⊎◌, inl, inr, refl, sym, ap, subst, ◌∙◌, arith}
use Rattle.std.specs.Option.{option_map_or}
use Rattle.ns_types.proofs.Amounts.{at, every}
use Rattle.ns_types.specs.declared.allocation.DesiredStatus.TheVariants as DesiredStatus
use Rattle.ns_types.specs.declared.name.NameKind.TheVariants as NameKind
use Rattle.ns_types.specs.declared.node.Node.{Node}
use Rattle.ns_types.specs.declared.plan.Eviction.{Eviction}
use Rattle.ns_types.specs.declared.plan.Placement.{Placement}
use Rattle.ns_types.specs.declared.resources.Resources.{Resources}
use Rattle.ns_types.specs.declared.snapshot.PoolNode.{PoolNode}
use Rattle.ns_types.specs.declared.snapshot.Snapshot.{Snapshot}
use Rattle.ns_types.specs.Working.Commit.{node_name, part_of, size_of, victims_of, evict, evict_all, Commit, begun, accepts, accepts_at, decide}
use Rattle.ns_types.specs.Working.Commit.{committed_placements}
use Rattle.ns_types.specs.Placing.Constraint.{is_feasible}
use Rattle.ns_types.specs.State.Lists.{Each}
use Rattle.ns_types.specs.Settling.Making.{with_desired}
use Rattle.ns_types.specs.State.Name.{is_name}
use Rattle.ns_types.specs.State.Names.{Name, same_name, same_number, has_number}
use Rattle.ns_types.specs.Placing.Plan.{constraints_of}
use Rattle.ns_types.specs.State.Resources.{is_within, plus, quantity}
use Rattle.ns_types.specs.State.Rows.{World, is_ready, is_free, node_at}
use Rattle.ns_types.specs.State.Sums.{node_load, node_sum}
use Rattle.ns_types.specs.Working.Parts.{goes_to}
use Rattle.ns_types.proofs.Lists.{not_both}
use Rattle.ns_types.proofs.Named.{one_number, same_name_is, same_number_refl, first_of_both, second_of_both}
use Rattle.ns_types.proofs.Sums.{none_more, sum_part}
use Rattle.ns_types.proofs.Tables.{tied}
use Rattle.ns_types.proofs.Elements.{each_append}
use Rattle.ns_types.proofs.Tests.{either_of}
use Rattle.std.proofs.lemmas.Bool.{or_right}
use Rattle.ns_audit.proofs.ValidAllocations.Statement.{IsAllocated}
use Rattle.ns_audit.proofs.ValidAllocations.Sound.{IsBelow, load_from, within_less}
use Rattle.ns_audit.proofs.ValidAllocations.Going.{goes_from}
use Rattle.ns_audit.proofs.ValidAllocations.Nodes.{continues_then, continues_each, continues_change}
use Rattle.ns_audit.proofs.ValidAllocations.Sums.{both_le}
use Rattle.ns_audit.proofs.ValidAllocations.Work.{Continues, continues_allocates, continues_same, goes_desired}

-- ---- amounts

pub plus_within : (a b c d most : Resources) → IsBelow a b → IsBelow c d → IsTrue (is_within (plus b d) most) → IsTrue (is_within (plus a c) most)
plus_within a b c d most h k = within_less (plus a c) (plus b d) most (every (λ r. quantity r a + quantity r c ≤ quantity r b + quantity r d) (λ r.
    both_le (quantity r a) (quantity r b) (quantity r c) (quantity r d) (at (λ r. quantity r a ≤ quantity r b) h r)
    (at (λ r. quantity r c ≤ quantity r d) k r)))

-- ---- sums over parts of a list

module _ {A : Type 0} (f : A → ℕ) where
  sum_parts : (a b : A → Bool) (x : A) (xs : List A) → sum_by f (filter a (filter b (x ∷ xs))) ≡ cond (b x && a x) (f x) 0 + sum_by f (filter a (filter b xs))
  sum_parts a b x xs = elim (b x) as (λ v. sum_by f (filter a (cond v (x ∷ filter b xs) (filter b xs))) ≡ cond (v && a x) (f x) 0 + sum_by f
      (filter a (filter b xs))) [
        | true ↦ sum_part f a x (filter b xs)
        | false ↦ none_more _
      ]

  one_le : (u v : Bool) (n : ℕ) → (u ≡ true → v ≡ true) → cond u n 0 ≤ cond v n 0
  one_le false v n h = omega arith
  one_le true v n h = subst (λ v. n ≤ cond v n 0) (sym (h refl)) (omega arith)

  -- what passes on the left passes on the right
  pub parts_among : (a b c d : A → Bool) → ((x : A) → b x ≡ true → a x ≡ true → (d x && c x) ≡ true) → (xs : List A) →
      sum_by f (filter a (filter b xs)) ≤ sum_by f (filter c (filter d xs))
  parts_among a b c d h [] = omega arith
  parts_among a b c d h (x ∷ xs) = subst (λ m. m ≤ sum_by f (filter c (filter d (x ∷ xs)))) (sym (sum_parts a b x xs))
      (subst (λ m. cond (b x && a x) (f x) 0 + sum_by f (filter a (filter b xs)) ≤ m) (sym (sum_parts c d x xs))
      (both_le _ _ _ _ (one_le (b x && a x) (d x && c x) (f x) (λ e. h x (first_of_both (b x) _ e) (second_of_both (b x) _ e))) (parts_among a b c d h xs)))

  pub parts_of : (a b g : A → Bool) → ((x : A) → b x ≡ true → a x ≡ true → g x ≡ true) → (xs : List A) →
      sum_by f (filter a (filter b xs)) ≤ sum_by f (filter g xs)
  parts_of a b g h [] = omega arith
  parts_of a b g h (x ∷ xs) = subst (λ m. m ≤ sum_by f (filter g (x ∷ xs))) (sym (sum_parts a b x xs))
      (subst (λ m. cond (b x && a x) (f x) 0 + sum_by f (filter a (filter b xs)) ≤ m) (sym (sum_part f g x xs))
      (both_le _ _ _ _ (one_le (b x && a x) (g x) (f x) (λ e. h x (first_of_both (b x) _ e) (second_of_both (b x) _ e))) (parts_of a b g h xs)))

  pub no_parts : (a : A → Bool) (xs : List A) → sum_by f (filter a (filter (λ _. false) xs)) ≤ 0
  no_parts a [] = omega arith
  no_parts a (x ∷ xs) = no_parts a xs

-- ---- numbers in lists

pub has_number_append : (ks : List ℕ) (k n : ℕ) → has_number (ks ++ k ∷ []) n ≡ true → (has_number ks n ≡ true) ⊎ (n ≡ k)
has_number_append [] k n e = inr (one (same_number n k) refl e)
  where
    one : (b : Bool) → same_number n k ≡ b → (b || false) ≡ true → n ≡ k
    one true is e = tied one_number n k is
    one false is e = absurd (subst T (sym e) tt)
has_number_append (x ∷ ks) k n e = by (has_number_append ks k n) (either_of (same_number n x) _ e)
  where
    by : (has_number (ks ++ k ∷ []) n ≡ true → (has_number ks n ≡ true) ⊎ (n ≡ k)) → (same_number n x ≡ true) ⊎ (has_number (ks ++ k ∷ []) n ≡ true) →
        (has_number (x ∷ ks) n ≡ true) ⊎ (n ≡ k)
    by later (inl here) = inl (ap (λ b. b || has_number ks n) here)
    by later (inr there) = of_rest (later there)
      where
        of_rest : (has_number ks n ≡ true) ⊎ (n ≡ k) → ((same_number n x || has_number ks n) ≡ true) ⊎ (n ≡ k)
        of_rest (inl in_) = inl (or_right (same_number n x) _ in_)
        of_rest (inr last) = inr last

pub each_has : (P : ℕ → Type 0) (ks : List ℕ) → Each P ks → (n : ℕ) → has_number ks n ≡ true → P n
each_has P [] h n e = absurd (subst T (sym e) tt)
each_has P (k ∷ ks) h n e = by (each_has P ks h.1 n) (either_of (same_number n k) _ e)
  where
    by : (has_number ks n ≡ true → P n) → (same_number n k ≡ true) ⊎ (has_number ks n ≡ true) → P n
    by later (inl here) = subst P (sym (tied one_number n k here)) h.0
    by later (inr there) = later there

-- ---- what is decided

-- a node of the snapshot that is there, and ready
pub record Stands (kept : Snapshot) (w : World) (k : ℕ) : Type 0 where
  pub seen : PoolNode
  pub is_seen : slice_get kept.nodes k ≡ Some seen
  pub row : Node
  pub is_row : node_at w kept.pool (node_name kept k) ≡ Some row
  pub ready : is_ready row.status ≡ true

-- so are the nodes that do their part, and each node has room for all that they place there
pub record Decided (kept : Snapshot) (ps : List Placement) (w : World) (c : Commit) : Type 0 where
  pub goes : Continues w c.world
  pub room : (pool name : Name) (node : Node) → node_at w pool name ≡ Some node
      → IsTrue (is_within (plus (node_load c.world pool name) (size_of (filter (goes_to kept pool name) (committed_placements c ps)))) node.offer.capacity)
  pub standing : Each (Stands kept w) c.committed

pub evicted_goes : (vs : List Eviction) (w : World) → Continues w (evict_all w vs)
evicted_goes vs w = continues_each evict (λ x v. continues_change x v.namespace (with_desired v.number DesiredStatus.Evict)
    (λ t _. goes_desired v.number DesiredStatus.Evict refl t)) vs w

module _ (kept : Snapshot) (ps : List Placement) (w : World) (s : IsAllocated w)
    (once : (i j : ℕ) (m n : PoolNode) → slice_get kept.nodes i ≡ Some m → slice_get kept.nodes j ≡ Some n → m.name ≡ n.name → i ≡ j)
    (named : (name : Name) (node : Node) → node_at w kept.pool name ≡ Some node → IsTrue (is_name NameKind.Node name)) where
  pub begun_decided : Decided kept ps w (begun w)
  begun_decided = record {
    goes = continues_same w w refl refl;
    room = λ pool name node at. within_less (plus (node_load w pool name) (size_of (filter (goes_to kept pool name) (filter (λ _. false) ps))))
        (node_load w pool name) node.offer.capacity
        (every
        (λ r. node_sum w pool name (quantity r) + sum_by (λ p. quantity r p.size) (filter (goes_to kept pool name) (filter (λ _. false) ps))
        ≤ node_sum w pool name (quantity r)) (λ r.
        none_to _ _ (no_parts (λ (p : Placement). quantity r p.size) (goes_to kept pool name) ps))) (s.within pool name node at);
    standing = tt;
  }
    where
      none_to : (a b : ℕ) → b ≤ 0 → a + b ≤ a
      none_to a b h = omega arith

  -- two places of the snapshot with one name are one
  one_node : (k n : ℕ) → Stands kept w k → Stands kept w n → node_name kept k ≡ node_name kept n → k ≡ n
  one_node k n a b e = once k n a.seen b.seen a.is_seen b.is_seen (sym (ap (λ o. option_map_or (λ (x : PoolNode). x.name) o []) a.is_seen) ∙ e ∙
      ap (λ o. option_map_or (λ (x : PoolNode). x.name) o []) b.is_seen)

  stands_there : (k : ℕ) (row : Node) → node_at w kept.pool (node_name kept k) ≡ Some row → is_ready row.status ≡ true → Stands kept w k
  stands_there k row at ready = by (slice_get kept.nodes k) refl
    where
      by : (o : Option PoolNode) → slice_get kept.nodes k ≡ o → Stands kept w k
      by (Some seen) is = record { seen = seen; is_seen = is; row = row; is_row = at; ready = ready }
      by None is = absurd (subst T (sym (ap (λ o. is_name NameKind.Node (option_map_or (λ (x : PoolNode). x.name) o [])) (sym is) ∙
          named (node_name kept k) row at)) tt)

  module _ (c : Commit) (k : ℕ) (d : Decided kept ps w c) where
    abbrev left : World
    left = evict_all c.world (victims_of c.world kept (part_of k ps))

    abbrev with_it : Commit
    with_it = record { world = left; placed = plus c.placed (size_of (part_of k ps)); committed = c.committed ++ k ∷ []; dropped = c.dropped }

    left_goes : Continues w left
    left_goes = continues_then w c.world left d.goes (evicted_goes (victims_of c.world kept (part_of k ps)) c.world)

    less : (pool name : Name) → IsBelow (node_load left pool name) (node_load c.world pool name)
    less pool name =
        let from = goes_from c.world left (continues_allocates w c.world s d.goes).allocated
        (evicted_goes (victims_of c.world kept (part_of k ps)) c.world).goes in
        load_from c.world left from pool name

    module _ (row : Node) (at : node_at w kept.pool (node_name kept k) ≡ Some row)
        (accepted : accepts kept left (node_name kept k) (part_of k ps) c.placed row ≡ true) where
      with_room : (is_feasible (constraints_of kept.job) (node_name kept k) row
          && is_within (plus (node_load left kept.pool (node_name kept k)) (size_of (part_of k ps))) row.offer.capacity) ≡ true
      with_room = first_of_both (is_feasible (constraints_of kept.job) (node_name kept k) row
          && is_within (plus (node_load left kept.pool (node_name kept k)) (size_of (part_of k ps))) row.offer.capacity) _ accepted

      its_room : is_within (plus (node_load left kept.pool (node_name kept k)) (size_of (part_of k ps))) row.offer.capacity ≡ true
      its_room = second_of_both (is_feasible (constraints_of kept.job) (node_name kept k) row) _ with_room

      stands : Stands kept w k
      stands = stands_there k row at (first_of_both (is_ready row.status) _
          (first_of_both (is_free row) _ (first_of_both (is_feasible (constraints_of kept.job) (node_name kept k) row) _ with_room)))

      its_part : (pool name : Name) → same_name name (node_name kept k) ≡ true → (p : Placement) → has_number (c.committed ++ k ∷ []) p.node ≡ true →
          goes_to kept pool name p ≡ true → same_number p.node k ≡ true
      its_part pool name same p in_ on = by (has_number_append c.committed k p.node in_)
        where
          by : (has_number c.committed p.node ≡ true) ⊎ (p.node ≡ k) → same_number p.node k ≡ true
          by (inr last) = ap (λ n. same_number n k) last ∙ same_number_refl k
          by (inl before) = ap (λ n. same_number n k) (one_node p.node k (each_has (Stands kept w) c.committed d.standing p.node before) stands
              (sym (same_name_is name (node_name kept p.node) (second_of_both (same_name pool kept.pool) _ on)) ∙ same_name_is name (node_name kept k) same)) ∙
              same_number_refl k

      other_part : (pool name : Name) → (same_name pool kept.pool && same_name name (node_name kept k)) ≡ false → (p : Placement) →
          has_number (c.committed ++ k ∷ []) p.node ≡ true → goes_to kept pool name p ≡ true →
          (has_number c.committed p.node && goes_to kept pool name p) ≡ true
      other_part pool name differs p in_ on = by (has_number_append c.committed k p.node in_)
        where
          by : (has_number c.committed p.node ≡ true) ⊎ (p.node ≡ k) → (has_number c.committed p.node && goes_to kept pool name p) ≡ true
          by (inl before) = λ i. before i && on i
          by (inr last) = not_both on (ap (λ n. same_name pool kept.pool && same_name name (node_name kept n)) last ∙ differs)

      room_with_it : (pool name : Name) (node : Node) → node_at w pool name ≡ Some node →
          IsTrue (is_within (plus (node_load left pool name) (size_of (filter (goes_to kept pool name) (committed_placements with_it ps)))) node.offer.capacity)
      room_with_it pool name node there = by (same_name pool kept.pool && same_name name (node_name kept k)) refl
        where
          in_part : same_name name (node_name kept k) ≡ true → IsBelow (size_of (filter (goes_to kept pool name) (committed_placements with_it ps)))
              (size_of (part_of k ps))
          in_part same = every
              (λ r. sum_by (λ p. quantity r p.size) (filter (goes_to kept pool name) (committed_placements with_it ps))
              ≤ sum_by (λ p. quantity r p.size) (part_of k ps)) (λ r.
              parts_of (λ (p : Placement). quantity r p.size) (goes_to kept pool name) (λ p. has_number (c.committed ++ k ∷ []) p.node)
              (λ p. same_number p.node k) (its_part pool name same) ps)

          before : (same_name pool kept.pool && same_name name (node_name kept k)) ≡ false →
              IsBelow (size_of (filter (goes_to kept pool name) (committed_placements with_it ps)))
              (size_of (filter (goes_to kept pool name) (committed_placements c ps)))
          before differs = every
              (λ r. sum_by (λ p. quantity r p.size) (filter (goes_to kept pool name) (committed_placements with_it ps))
              ≤ sum_by (λ p. quantity r p.size) (filter (goes_to kept pool name) (committed_placements c ps))) (λ r.
              parts_among (λ (p : Placement). quantity r p.size) (goes_to kept pool name) (λ p. has_number (c.committed ++ k ∷ []) p.node)
              (goes_to kept pool name) (λ p. has_number c.committed p.node) (other_part pool name differs) ps)

          itself : (a : Resources) → IsBelow a a
          itself a = every (λ r. quantity r a ≤ quantity r a) (λ r. omega arith)

          by : (b : Bool) → (same_name pool kept.pool && same_name name (node_name kept k)) ≡ b →
              IsTrue (is_within (plus (node_load left pool name) (size_of (filter (goes_to kept pool name) (committed_placements with_it ps))))
              node.offer.capacity)
          by false differs = plus_within (node_load left pool name) (node_load c.world pool name) _ _ node.offer.capacity (less pool name) (before differs)
              (d.room pool name node there)
          by true same =
              let its_pool = same_name_is pool kept.pool (first_of_both _ _ same) in
              let its_name = same_name_is name (node_name kept k) (second_of_both (same_name pool kept.pool) _ same) in
              let is_row = same_row row node (sym at ∙ (λ i. node_at w (sym its_pool i) (sym its_name i)) ∙ there) in
              plus_within (node_load left pool name) (node_load left pool name) _ (size_of (part_of k ps)) node.offer.capacity
              (itself (node_load left pool name)) (in_part (second_of_both (same_name pool kept.pool) _ same))
              ((λ i. is_within (plus (node_load left (its_pool i) (its_name i)) (size_of (part_of k ps))) (sym is_row i).offer.capacity) ∙ its_room)
            where
              same_row : (a b : Node) → Some a ≡ Some b → a ≡ b
              same_row a b e = ap (λ o. option_map_or (λ x. x) o a) e

      accepted_decided : Decided kept ps w with_it
      accepted_decided = record { goes = left_goes; room = room_with_it; standing = each_append (Stands kept w) c.committed (k ∷ []) d.standing (stands, tt) }

    decided_one : Decided kept ps w (decide kept ps c k)
    unfolding decide
    decided_one = by (accepts_at kept left (node_name kept k) (part_of k ps) c.placed) refl
      where
        by : (b : Bool) → accepts_at kept left (node_name kept k) (part_of k ps) c.placed ≡ b →
            Decided kept ps w (cond b with_it (record c { dropped = c.dropped ++ k ∷ [] }))
        by false _ = record { goes = d.goes; room = d.room; standing = d.standing }
        by true accepted = row (node_at left kept.pool (node_name kept k)) refl accepted
          where
            row : (o : Option Node) → node_at left kept.pool (node_name kept k) ≡ o →
                option_map_or (accepts kept left (node_name kept k) (part_of k ps) c.placed) o false ≡ true → Decided kept ps w with_it
            row None at e = absurd (subst T (sym e) tt)
            row (Some node) at e = accepted_decided node (sym (left_goes.nodes kept.pool (node_name kept k)) ∙ at) e

  pub all_decided : (ks : List ℕ) (c : Commit) → Decided kept ps w c → Decided kept ps w (fold (decide kept ps) c ks)
  all_decided [] c d = d
  all_decided (k ∷ ks) c d = all_decided ks (decide kept ps c k) (decided_one c k d)
