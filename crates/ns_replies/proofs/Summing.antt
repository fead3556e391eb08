-- Sums over parts of a list.
use Rattle.std.proofs.Common.{◌≡◌, ℕ, ◌+◌, ◌≤◌, Bool, true, false, cond, not, List, [], ◌∷◌, length, map, refl, sym, ap, ◌∙◌, arith}
use Rattle.std.specs.Prelude.{filter, sum_by}
use Rattle.std.specs.declared.cmp.Ordering.{Ordering}
use Rattle.std.specs.FinMap.{FinMap, empty, entries, entries-insert, from_entries, insert, len-empty, len-entries}
use Rattle.std.specs.FinMap.Entries.{by_order, put}
use Rattle.std.proofs.lemmas.List.Sums.{sum_by-cons}
use Rattle.ns_types.specs.State.Lists.{first_each, sorted_names}
use Rattle.ns_types.specs.State.Names.{Name, name_cmp}
use Rattle.ns_types.proofs.Named.{names}
use Rattle.ns_types.proofs.Sums.{sum_map}

module _ {X : Type 0} where
  pub length-filter-le : (p : X → Bool) (xs : List X) → length (filter p xs) ≤ length xs
  length-filter-le p [] = omega arith
  length-filter-le p (x ∷ xs) = by (p x) (length-filter-le p xs)
    where
      by : (b : Bool) → length (filter p xs) ≤ length xs → length (cond b (x ∷ filter p xs) (filter p xs)) ≤ length (x ∷ xs)
      by true rest = omega (arith, rest)
      by false rest = omega (arith, rest)

  module _ (f : X → ℕ) where
    pub sum_by-filter-le : (p : X → Bool) (xs : List X) → sum_by f (filter p xs) ≤ sum_by f xs
    sum_by-filter-le p [] = omega arith
    sum_by-filter-le p (x ∷ xs) = by (p x) (sum_by-filter-le p xs)
      where
        by : (b : Bool) → sum_by f (filter p xs) ≤ sum_by f xs → sum_by f (cond b (x ∷ filter p xs) (filter p xs)) ≤ sum_by f (x ∷ xs)
        by true rest = omega (arith, sum_by-cons f x (filter p xs), sum_by-cons f x xs, rest)
        by false rest = omega (arith, sum_by-cons f x xs, rest)

    pub sum_by-first_each-le : (same : X → X → Bool) (xs : List X) → sum_by f (first_each same xs) ≤ sum_by f xs
    sum_by-first_each-le same [] = omega arith
    sum_by-first_each-le same (x ∷ xs) =
        omega (
          arith,
          sum_by-cons f x (filter (λ y. not (same x y)) (first_each same xs)),
          sum_by-cons f x xs,
          sum_by-filter-le (λ y. not (same x y)) (first_each same xs),
          sum_by-first_each-le same xs,
        )

-- ---- names in their order, each once

module _ (f : Name → ℕ) where
  abbrev of_key : Name × Name → ℕ
  of_key e = f e.0

  sum_put : (k v : Name) (es : List (Name × Name)) → sum_by of_key (put name_cmp k v es) ≤ f k + sum_by of_key es
  sum_put k v [] = omega (arith, sum_by-cons of_key (k, v) [])
  sum_put k v (e ∷ es) = by (name_cmp k e.0) (sum_put k v es)
    where
      by : (o : Ordering) → sum_by of_key (put name_cmp k v es) ≤ f k + sum_by of_key es →
          sum_by of_key (by_order o ((k, v) ∷ e ∷ es) ((e.0, v) ∷ es) (e ∷ put name_cmp k v es)) ≤ f k + sum_by of_key (e ∷ es)
      by Ordering.Less rest = omega (arith, sum_by-cons of_key (k, v) (e ∷ es))
      by Ordering.Equal rest = omega (arith, sum_by-cons of_key (e.0, v) es, sum_by-cons of_key e es)
      by Ordering.Greater rest = omega (arith, sum_by-cons of_key e (put name_cmp k v es), sum_by-cons of_key e es, rest)

  sum_none : (es : List (Name × Name)) → length es ≡ 0 → sum_by of_key es ≡ 0
  sum_none [] e = refl
  sum_none (x ∷ es) e = absurd (omega arith)

  abbrev none : FinMap name_cmp Name
  none = empty

  sum_entries : (ns : List Name) → sum_by of_key (entries (from_entries {R = name_cmp} (map (λ n. (n, n)) ns))) ≤ sum_by f ns
  sum_entries [] = omega (arith, sum_none (entries none) (sym (len-entries none) ∙ len-empty name_cmp Name))
  sum_entries (n ∷ ns) =
      let m : FinMap name_cmp Name = from_entries {R = name_cmp} (map (λ x. (x, x)) ns) in
      let is : entries (insert m n n) ≡ put name_cmp n n (entries m) = entries-insert names m n n in
      let here : sum_by of_key (entries (insert m n n)) ≡ sum_by of_key (put name_cmp n n (entries m)) = ap (sum_by of_key) is in
      omega (arith, here, sum_put n n (entries m), sum_entries ns, sum_by-cons f n ns)

  pub sum_by-sorted_names-le : (ns : List Name) → sum_by f (sorted_names ns) ≤ sum_by f ns
  sum_by-sorted_names-le ns =
      omega (arith, sum_map f (λ (e : Name × Name). e.0) (entries (from_entries {R = name_cmp} (map (λ n. (n, n)) ns))), sum_entries ns)
