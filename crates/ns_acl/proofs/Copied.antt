-- A table that is copied slot by slot: the rows are the same, and vacant slots are left out.
use Rattle.std.specs.Prelude.{◌≡◌, cond, T, List, [], ◌∷◌, ◌++◌, Option, Some, None, is_some}
use Rattle.std.proofs.Common.{sym, ap, subst, ◌∙◌, append_assoc}
use Rattle.std.proofs.lemmas.List.{append-nil}
use Rattle.std.specs.FinMap.{entries, entries_sorted, entries-from_sorted, from_sorted, same_entries_map}
use Rattle.std.specs.FinMap.Entries.{is_sorted}
use Rattle.keyed.specs.Slots.{filled}
use Rattle.keyed.specs.Table.{rows}
use Rattle.keyed.proofs.Ordered.{is_sorted-filter}
use Rattle.keyed.proofs.Tables.{rows-filled}
use Rattle.ns_types.specs.State.Names.{ByName, Name, name_cmp}

module _ {X : Type 0} where
  abbrev pub IsCopying : List (Name × Option X) → List (Name × Option X) → List (Name × Option X) → Type 0
  IsCopying ys rest xs = ys ++ filled rest ≡ filled xs

  pub begun : (ys xs : List (Name × Option X)) → ys ≡ [] → IsCopying ys xs xs
  begun ys xs none = ap (λ l. l ++ filled xs) none

  module _ (ys zs rest xs left : List (Name × Option X)) (x : Name × Option X) (is : rest ≡ x ∷ left) (h : IsCopying ys rest xs) where
    pub vacant : x.1 ≡ None → zs ≡ ys → IsCopying zs left xs
    vacant none same = ap (λ l. l ++ filled left) same
        ∙ ap (λ b. ys ++ cond b (x ∷ filled left) (filled left)) (sym (ap is_some none)) ∙ ap (λ l. ys ++ filled l) (sym is) ∙ h

    pub copied : (row copy : X) (k : Name) → x.1 ≡ Some row → k ≡ x.0 → copy ≡ row → zs ≡ ys ++ (k, Some copy) ∷ [] → IsCopying zs left xs
    copied row copy k at key same put = ap (λ l. l ++ filled left) put ∙ append_assoc ys ((k, Some copy) ∷ []) (filled left)
        ∙ ap (λ e. ys ++ e ∷ filled left) here
        ∙ ap (λ b. ys ++ cond b (x ∷ filled left) (filled left)) (sym (ap is_some at)) ∙ ap (λ l. ys ++ filled l) (sym is) ∙ h
      where
        here : (k, Some copy) ≡ x
        here = (λ i. (key i, Some (same i))) ∙ ap (λ r. (x.0, r)) (sym at)

  module _ (m : ByName (Option X)) (ys rest xs : List (Name × Option X)) (is : xs ≡ entries m) (none : rest ≡ []) (h : IsCopying ys rest xs) where
    all_copied : ys ≡ filled (entries m)
    all_copied = sym (append-nil ys) ∙ ap (λ l. ys ++ filled l) (sym none) ∙ h ∙ ap filled is

    pub copies_rise : T (is_sorted name_cmp ys)
    copies_rise = subst (λ l. T (is_sorted name_cmp l)) (sym all_copied) (is_sorted-filter name_cmp (λ e. is_some e.1) (entries m) (entries_sorted m))

    pub table_copied : (made : ByName (Option X)) → made ≡ from_sorted ys → rows made ≡ rows m
    table_copied made made_of = ap rows made_of ∙ ap (λ l. rows (from_sorted l)) all_copied ∙ rows-filled (entries m) (entries_sorted m)
        ∙ ap rows (same_entries_map _ m (entries-from_sorted name_cmp (entries m) (entries_sorted m)))
