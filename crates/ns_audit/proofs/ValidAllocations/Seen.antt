-- In a snapshot that is taken no node stands twice.
use Rattle.std.specs.Prelude.{◌≡◌, ℕ, zero, suc, T, List, [], ◌∷◌, map, Option, Some, None, slice_get}
use Rattle.std.proofs.Common.{Ordering, is_eq, refl, sym, ap, ◌∙◌}
use Rattle.std.specs.Cmp.{IsTotalOrder, tied_itself}
use Rattle.std.specs.FinMap.{entries, entries_sorted, get}
use Rattle.std.specs.FinMap.Entries.{below_all, is_sorted}
use Rattle.std.specs.Option.{option_map_or}
use Rattle.ns_types.specs.declared.node.Node.{Node}
use Rattle.ns_types.specs.declared.snapshot.PoolNode.{PoolNode}
use Rattle.ns_types.specs.State.Names.{Name}
use Rattle.ns_types.specs.State.Rows.{World, PoolRows}
use Rattle.ns_types.specs.Working.Snapshot.{nodes_of, live_on}
use Rattle.ns_types.proofs.Lists.{not_both}
use Rattle.ns_types.proofs.Named.{names}
use Rattle.ns_types.proofs.Tests.{not_Some, same_Some, first, second}
use Rattle.ns_types.proofs.Taken.{below_unlike}

module _ {K X : Type 0} {R : K → K → Ordering} (o : IsTotalOrder R) where
  -- what stands in a sorted list is not what its keys are below
  not_below : (k : K) (es : List (K × X)) (i : ℕ) (e : K × X) → T (below_all R k es) → slice_get es i ≡ Some e → k ≡ e.0 → ⊥
  not_below k [] i e below at same = not_Some _ at
  not_below k (x ∷ es) zero e below at same = not_both (ap is_eq (tied_itself o k)) (ap (λ q. is_eq (R k q)) (same ∙ sym (ap (λ e. e.0) (same_Some x e at))) ∙
      below_unlike (R k x.0) (first _ _ below))
  not_below k (x ∷ es) (suc i) e below at same = not_below k es i e (second _ _ below) at same

  entry_once : (es : List (K × X)) → T (is_sorted R es) → (i j : ℕ) (a b : K × X) → slice_get es i ≡ Some a → slice_get es j ≡ Some b → a.0 ≡ b.0 → i ≡ j
  entry_once [] sorted i j a b at there same = absurd (not_Some _ at)
  entry_once (e ∷ es) sorted zero zero a b at there same = refl
  entry_once (e ∷ es) sorted zero (suc j) a b at there same = absurd (not_below e.0 es j b (first _ _ sorted) there (ap (λ e. e.0) (same_Some e a at) ∙ same))
  entry_once (e ∷ es) sorted (suc i) zero a b at there same =
      absurd (not_below e.0 es i a (first _ _ sorted) at (ap (λ e. e.0) (same_Some e b there) ∙ sym same))
  entry_once (e ∷ es) sorted (suc i) (suc j) a b at there same = ap suc (entry_once es (second _ _ sorted) i j a b at there same)

-- an element of a list made of another comes from one at its place
came_from : {A B : Type 0} (f : A → B) (xs : List A) (i : ℕ) (b : B) → slice_get (map f xs) i ≡ Some b → (a : A) × (slice_get xs i ≡ Some a) × (f a ≡ b)
came_from f [] i b at = absurd (not_Some _ at)
came_from f (x ∷ xs) zero b at = (x, refl, same_Some (f x) b at)
came_from f (x ∷ xs) (suc i) b at = came_from f xs i b at

pub seen_once : (w : World) (pool : Name) (i j : ℕ) (m n : PoolNode) → slice_get (nodes_of w pool) i ≡ Some m → slice_get (nodes_of w pool) j ≡ Some n →
    m.name ≡ n.name → i ≡ j
seen_once w pool i j m n = by (get w.pools pool)
  where
    seen : Name × Node → PoolNode
    seen e = record { name = e.0; row = e.1; live = live_on w pool e.0 }

    by : (o : Option PoolRows) → slice_get (option_map_or (λ p. map seen (entries p.nodes)) o []) i ≡ Some m →
        slice_get (option_map_or (λ p. map seen (entries p.nodes)) o []) j ≡ Some n → m.name ≡ n.name → i ≡ j
    by None at there same = absurd (not_Some _ at)
    by (Some p) at there same =
        let a = came_from seen (entries p.nodes) i m at in
        let b = came_from seen (entries p.nodes) j n there in
        entry_once names (entries p.nodes) (entries_sorted p.nodes) i j a.0 b.0 a.1 b.1 (ap (λ (x : PoolNode). x.name) a.2 ∙ same ∙
        sym (ap (λ (x : PoolNode). x.name) b.2))
