-- Tables made of other tables, row by row.
use Rattle.std.specs.Prelude.{◌≡◌, Bool, filter, map, Option}
use Rattle.std.proofs.Common.{sym, ap, ◌∙◌}
use Rattle.std.specs.List.{list_any}
use Rattle.std.specs.declared.cmp.Ordering.{Ordering}
use Rattle.std.specs.FinMap.{FinMap, entries}
use Rattle.keyed.specs.Table.{at_slot, row_list, rows}
use Rattle.keyed.proofs.Tables.{any-at_slot, entries-rows}
use Rattle.ns_types.proofs.Elements.{any_map, filter_map, map_map}
use Rattle.ns_types.proofs.Tables.{entries-table_of}
use Rattle.ns_types.specs.State.Tables.{any_row, table_of}

module _ {K X Y : Type 0} {R : K → K → Ordering} (f : K → X → Y) where
  -- a test of the rows that are made is one of the slots that they are made of
  pub any_row-table_of : (p : K → Y → Bool) (m : FinMap R (Option X)) →
      any_row p (table_of f (rows m)) ≡ list_any (at_slot (λ e. p e.0 (f e.0 e.1))) (entries m)
  unfolding any_row
  any_row-table_of p m = ap (list_any (λ e. p e.0 e.1)) (entries-table_of f (rows m)) ∙ any_map (λ e. p e.0 e.1) (λ e. (e.0, f e.0 e.1)) (entries (rows m))
      ∙ ap (list_any (λ e. p e.0 (f e.0 e.1))) (entries-rows m) ∙ sym (any-at_slot R (λ e. p e.0 (f e.0 e.1)) (entries m))

module _ {K X : Type 0} {R : K → K → Ordering} where
  pub any_row-rows : (p : K → X → Bool) (m : FinMap R (Option X)) → any_row p (rows m) ≡ list_any (at_slot (λ e. p e.0 e.1)) (entries m)
  unfolding any_row
  any_row-rows p m = ap (list_any (λ e. p e.0 e.1)) (entries-rows m) ∙ sym (any-at_slot R (λ e. p e.0 e.1) (entries m))

-- what a list shows of the rows that are made is what it shows of the slots
module _ {K X Y S : Type 0} {R : K → K → Ordering} (f : K → X → Y) where
  pub listed : (passes : K → Bool) (show : K × Y → S) (m : FinMap R (Option X))
      → map show (filter (λ e. passes e.0) (entries (table_of f (rows m)))) ≡ map (λ e. show (e.0, f e.0 e.1)) (filter (λ e. passes e.0) (row_list (entries m)))
  listed passes show m = ap (λ es. map show (filter (λ e. passes e.0) es)) (entries-table_of f (rows m))
      ∙ ap (map show) (filter_map (λ e. passes e.0) (λ e. (e.0, f e.0 e.1)) (entries (rows m)))
      ∙ map_map show (λ e. (e.0, f e.0 e.1)) _
      ∙ ap (λ es. map (λ e. show (e.0, f e.0 e.1)) (filter (λ e. passes e.0) es)) (entries-rows m)

  pub listed_all : (show : K × Y → S) (m : FinMap R (Option X)) →
      map show (entries (table_of f (rows m))) ≡ map (λ e. show (e.0, f e.0 e.1)) (row_list (entries m))
  listed_all show m = ap (map show) (entries-table_of f (rows m)) ∙ map_map show (λ e. (e.0, f e.0 e.1)) _ ∙
      ap (map (λ e. show (e.0, f e.0 e.1))) (entries-rows m)
