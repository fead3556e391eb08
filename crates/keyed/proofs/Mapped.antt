-- Rows that are changed one by one, where they stand.
use Rattle.std.specs.Prelude.{◌≡◌, ℕ, ◌≤◌, T, List, ◌++◌, map, length}
use Rattle.std.proofs.Common.{sym, ap, subst, ◌∙◌, take, drop, Ordering}
use Rattle.std.proofs.Math.ListN.{drop_of_length-le}
use Rattle.std.proofs.Math.Seq.{drop-length, take-length}
use Rattle.std.proofs.lemmas.List.{append-nil, take-append-drop}
use Rattle.std.specs.FinMap.{FinMap, entries, entries_sorted, from_sorted}
use Rattle.std.specs.FinMap.Entries.{is_sorted}
use Rattle.ns_types.specs.State.Tables.{map_rows, table_of}
use Rattle.ns_types.proofs.Tables.{entries-table_of}

-- at the end of the loop
pub take_all : {X : Type 0} (xs : List X) (i : ℕ) → length xs ≤ i → take i xs ≡ xs
take_all xs i le = sym (append-nil (take i xs)) ∙ ap (λ l. take i xs ++ l) (sym (drop_of_length-le xs le)) ∙ take-append-drop i xs

pub mapped_end : {X : Type 0} (f : X → X) (xs ys : List X) (i : ℕ) → length xs ≤ i → ys ≡ map f (take i xs) ++ drop i xs → ys ≡ map f xs
mapped_end f xs ys i le is = is ∙ (λ j. map f (take_all xs i le j) ++ drop_of_length-le xs le j) ∙ append-nil (map f xs)

-- ---- a table built slot by slot

module _ {K X Y : Type 0} {R : K → K → Ordering} where
  pub built_sorted : (f : K → X → Y) (m : FinMap R X) (ys : List (K × Y)) → ys ≡ map (λ e. (e.0, f e.0 e.1)) (entries m) → T (is_sorted R ys)
  built_sorted f m ys is = subst (λ es. T (is_sorted R es)) (entries-table_of f m ∙ sym is) (entries_sorted (table_of f m))

  pub built_rows : (f : K → X → Y) (m : FinMap R X) (ys : List (K × Y)) → ys ≡ map (λ e. (e.0, f e.0 e.1)) (entries m) → from_sorted {R = R} ys ≡ table_of f m
  unfolding table_of
  built_rows f m ys is = ap from_sorted is

-- the same of rows that were changed
module _ {K X : Type 0} {R : K → K → Ordering} where
  pub mapped_sorted : (f : K → X → X) (m : FinMap R X) (ys : List (K × X)) → ys ≡ map (λ e. (e.0, f e.0 e.1)) (entries m) → T (is_sorted R ys)
  mapped_sorted = built_sorted

  pub mapped_rows : (f : K → X → X) (m : FinMap R X) (ys : List (K × X)) → ys ≡ map (λ e. (e.0, f e.0 e.1)) (entries m) → from_sorted {R = R} ys ≡ map_rows f m
  mapped_rows = built_rows

-- a `Vec` whose elements were changed where they stand
pub refilled : {X : Type 0} (n : ℕ) (xs ws : List X) → length ws ≡ length xs → n ≡ length xs → take n (ws ++ drop (length ws) xs) ≡ ws
refilled n xs ws e is = (λ j. take ((is ∙ sym e) j) (ws ++ drop (e j) xs)) ∙ ap (λ l. take (length ws) (ws ++ l)) (drop-length xs) ∙
    ap (take (length ws)) (append-nil ws) ∙ take-length ws
