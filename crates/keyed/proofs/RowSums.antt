-- Sums over a table's rows, by the keys of another.
use Rattle.std.specs.Prelude.{◌≡◌, ℕ, ◌+◌, Bool, true, false, cond, List, [], ◌∷◌, map, Option, Some, None, sum_by}
use Rattle.std.proofs.Common.{refl, sym, ap, arith, zero-add, ◌∙◌}
use Rattle.std.proofs.lemmas.List.Sums.{sum_by-cons}
use Rattle.std.specs.declared.cmp.Ordering.{Ordering}
use Rattle.std.specs.Cmp.{IsTotalOrder}
use Rattle.std.specs.FinMap.{FinMap, IsAntisymmetric, contains_key, entries, get, get-remove, remove}
use Rattle.std.specs.Option.{option_map_or}
use Rattle.std.specs.Ordering.{eq_by_cmp}
use Rattle.keyed.proofs.Levels.{none_there}
use Rattle.keyed.specs.Table.{row_list}
use Rattle.ns_types.proofs.Sums.{sum_same}
use Rattle.ns_types.proofs.Tables.{each_row, sum-retain}
use Rattle.ns_types.proofs.Taken.{sum_split}
use Rattle.keyed.proofs.RowsAtKeys.{entries_looked}

module _ {K X C : Type 0} (f : K → X → ℕ) (look : K → Option X) where
  sum_looked : (es : List (K × C)) →
      sum_by (λ e. f e.0 e.1) (row_list (map (λ e. (e.0, look e.0)) es)) ≡ sum_by (λ e. option_map_or (f e.0) (look e.0) 0) es
  sum_looked [] = refl
  sum_looked (e ∷ es) =
      let right = sum_by-cons (λ (e : K × C). option_map_or (f e.0) (look e.0) 0) e es in
      by (look e.0) refl right (sum_looked es)
    where
      by : (r : Option X) → look e.0 ≡ r
          → sum_by (λ e. option_map_or (f e.0) (look e.0) 0) (e ∷ es) ≡ option_map_or (f e.0) (look e.0) 0 + sum_by
          (λ e. option_map_or (f e.0) (look e.0) 0) es
          → sum_by (λ e. f e.0 e.1) (row_list (map (λ e. (e.0, look e.0)) es)) ≡ sum_by (λ e. option_map_or (f e.0) (look e.0) 0) es
          → sum_by (λ e. f e.0 e.1) (row_list (map (λ e. (e.0, look e.0)) (e ∷ es))) ≡ sum_by (λ e. option_map_or (f e.0) (look e.0) 0) (e ∷ es)
      by None is right later = ap (λ r. sum_by (λ e. f e.0 e.1) (row_list ((e.0, r) ∷ map (λ e. (e.0, look e.0)) es))) is ∙ later
          ∙ sym (zero-add (sum_by (λ e. option_map_or (f e.0) (look e.0) 0) es)) ∙ sym (right
          ∙ ap (λ r. option_map_or (f e.0) r 0 + sum_by (λ e. option_map_or (f e.0) (look e.0) 0) es) is)
      by (Some x) is right later = ap (λ r. sum_by (λ e. f e.0 e.1) (row_list ((e.0, r) ∷ map (λ e. (e.0, look e.0)) es))) is
          ∙ sum_by-cons (λ (e : K × X). f e.0 e.1) (e.0, x) (row_list (map (λ e. (e.0, look e.0)) es)) ∙ ap (λ n. f e.0 x + n) later
          ∙ sym (right ∙ ap (λ r. option_map_or (f e.0) r 0 + sum_by (λ e. option_map_or (f e.0) (look e.0) 0) es) is)

module _ {K X C : Type 0} {R : K → K → Ordering} (o : IsTotalOrder R) (same : IsAntisymmetric R) where
  -- where rows at other keys count nothing, the rows at these keys are counted
  pub sum_at_keys : (f : K → X → ℕ) (m : FinMap R X) (c : FinMap R C) → ((k : K) (x : X) → get m k ≡ Some x → contains_key c k ≡ false → f k x ≡ 0)
      → sum_by (λ e. f e.0 e.1) (entries m) ≡ sum_by (λ e. option_map_or (f e.0) (get m e.0) 0) (entries c)
  sum_at_keys f m c idle = sum-retain o same f m (contains_key c) idle ∙ ap (sum_by (λ e. f e.0 e.1)) (entries_looked o same m c)
      ∙ sum_looked f (get m) (entries c)

  -- rows that count the same at each key
  pub sums_alike : (f : K → X → ℕ) (g : K → C → ℕ) (m : FinMap R X) (c : FinMap R C) →
      ((k : K) → option_map_or (f k) (get m k) 0 ≡ option_map_or (g k) (get c k) 0)
      → sum_by (λ e. f e.0 e.1) (entries m) ≡ sum_by (λ e. g e.0 e.1) (entries c)
  sums_alike f g m c alike = sum_at_keys f m c idle ∙ sum_same (λ e. option_map_or (f e.0) (get m e.0) 0) (λ e. g e.0 e.1) (entries c)
      (each_row o same (λ k x. option_map_or (f k) (get m k) 0 ≡ g k x) c (λ k x is. alike k ∙ ap (λ r. option_map_or (g k) r 0) is))
    where
      idle : (k : K) (x : X) → get m k ≡ Some x → contains_key c k ≡ false → f k x ≡ 0
      idle k x is out = sym (ap (λ r. option_map_or (f k) r 0) is) ∙ alike k ∙ ap (λ r. option_map_or (g k) r 0) (none_there (get c k) out)

module _ {K X : Type 0} {R : K → K → Ordering} (o : IsTotalOrder R) (same : IsAntisymmetric R) where
  -- rows that count the same at each key but one
  pub sum_moved : (f g : K → X → ℕ) (m c : FinMap R X) (k : K) →
      ((q : K) → eq_by_cmp R q k ≡ false → option_map_or (g q) (get c q) 0 ≡ option_map_or (f q) (get m q) 0)
      → sum_by (λ e. g e.0 e.1) (entries c) + option_map_or (f k) (get m k) 0 ≡ sum_by (λ e. f e.0 e.1) (entries m) + option_map_or (g k) (get c k) 0
  sum_moved f g m c k alike =
      let old = sum_split o same f m k in
      let new = sum_split o same g c k in
      let rest = sums_alike o same g f (remove c k) (remove m k) others in
      omega (arith, old, new, rest)
    where
      by : (q : K) (b : Bool) → eq_by_cmp R q k ≡ b
          → option_map_or (g q) (cond b None (get c q)) 0 ≡ option_map_or (f q) (cond b None (get m q)) 0
      by q true t = refl
      by q false t = alike q t

      others : (q : K) → option_map_or (g q) (get (remove c k) q) 0 ≡ option_map_or (f q) (get (remove m k) q) 0
      others q = ap (λ r. option_map_or (g q) r 0) (get-remove o c k q) ∙ by q (eq_by_cmp R q k) refl
          ∙ ap (λ r. option_map_or (f q) r 0) (sym (get-remove o m k q))
