-- A table's rows at the keys of another.
use Rattle.std.specs.Prelude.{◌≡◌, map, cond, Option, Some, None, is_some, option_map}
use Rattle.std.proofs.Common.{refl, sym, ap, ◌∙◌}
use Rattle.std.specs.declared.cmp.Ordering.{Ordering}
use Rattle.std.specs.Cmp.{IsTotalOrder}
use Rattle.std.specs.FinMap.{FinMap, IsAntisymmetric, contains_key, entries, get, retain_keys, same_map}
use Rattle.keyed.specs.Table.{flat, row_list, rows}
use Rattle.keyed.proofs.Tables.{entries-rows, get-rows}
use Rattle.ns_types.specs.State.Tables.{table_of}
use Rattle.ns_types.proofs.Tables.{entries-table_of, get-retain, get-table_of}

module _ {K X C : Type 0} {R : K → K → Ordering} (o : IsTotalOrder R) (same : IsAntisymmetric R) (m : FinMap R X) (c : FinMap R C) where
  pub looked : retain_keys m (contains_key c) ≡ rows (table_of (λ k _. get m k) c)
  looked = same_map o same _ _ (λ q. get-retain o same m (contains_key c) q ∙ by q (get c q)
      ∙ ap flat (sym (get-table_of o same (λ k _. get m k) c q)) ∙ sym (get-rows o _ q))
    where
      by : (q : K) (r : Option C) → cond (is_some r) (get m q) None ≡ flat (option_map (λ _. get m q) r)
      by q None = refl
      by q (Some r) = refl

  pub entries_looked : entries (retain_keys m (contains_key c)) ≡ row_list (map (λ e. (e.0, get m e.0)) (entries c))
  entries_looked = ap entries looked ∙ entries-rows (table_of (λ k _. get m k) c) ∙ ap row_list (entries-table_of (λ k _. get m k) c)
