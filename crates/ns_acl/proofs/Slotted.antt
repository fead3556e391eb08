-- Rows that are looked for.
use Rattle.std.specs.Prelude.{◌≡◌, Bool, true, false, cond, List, [], ◌∷◌, Option, Some, None, option_map, is_some, find}
use Rattle.std.proofs.Common.{refl, sym, ap, ◌∙◌}
use Rattle.std.specs.List.{list_any}
use Rattle.std.specs.FinMap.{FinMap, contains_key, entries, get}
use Rattle.keyed.specs.Table.{at_slot, row_at, row_list, rows}
use Rattle.keyed.proofs.Tables.{any-at_slot, entries-rows, get-rows}
use Rattle.ns_types.proofs.Named.{names}
use Rattle.ns_types.specs.State.Names.{Name, name_cmp}
use Rattle.ns_types.specs.State.Tables.{any_row}

module _ {V : Type 0} where
  -- what a look-up finds is the row
  pub has_row : (m : FinMap name_cmp (Option V)) (key : Name) (row : Option V) (b : Bool) → row_at m key ≡ row → b ≡ is_some row → b ≡ contains_key (rows m) key
  has_row m key row b e f = f ∙ sym (ap is_some (get-rows names m key ∙ e))

  pub row_found : (m : FinMap name_cmp (Option V)) (key : Name) (row : Option V) → row_at m key ≡ row → get (rows m) key ≡ row
  row_found m key row e = get-rows names m key ∙ e

-- the first row that passes, of slots and of rows
pub find-at_slot : {K V : Type 0} (p : K × V → Bool) (es : List (K × Option V)) →
    option_map (λ e. e.0) (find (at_slot p) es) ≡ option_map (λ e. e.0) (find p (row_list es))
find-at_slot p [] = refl
find-at_slot p ((k, None) ∷ es) = find-at_slot p es
find-at_slot p ((k, Some v) ∷ es) =
    elim (p (k, v)) as (λ b. option_map (λ e. e.0) (cond b (Some (k, Some v)) (find (at_slot p) es)) ≡ option_map (λ e. e.0)
    (cond b (Some (k, v)) (find p (row_list es)))) [
      | true ↦ refl
      | false ↦ find-at_slot p es
    ]

module _ {V : Type 0} (p : Name × V → Bool) (m : FinMap name_cmp (Option V)) (slots : List (Name × Option V)) (all : slots ≡ entries m) where
  pub any_slot : list_any (at_slot p) slots ≡ any_row (λ k v. p (k, v)) (rows m)
  unfolding any_row
  any_slot = ap (list_any (at_slot p)) all ∙ any-at_slot name_cmp p (entries m) ∙ ap (list_any p) (sym (entries-rows m))

  pub first_slot : option_map (λ e. e.0) (find (at_slot p) slots) ≡ option_map (λ e. e.0) (find p (entries (rows m)))
  first_slot = ap (λ es. option_map (λ e. e.0) (find (at_slot p) es)) all ∙ find-at_slot p (entries m) ∙
      ap (λ es. option_map (λ e. e.0) (find p es)) (sym (entries-rows m))
