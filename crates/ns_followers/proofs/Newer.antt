-- A table made of a list of entries, of which some may share a key: whether a row passes, asked of the entries.
use Rattle.std.specs.Prelude.{◌≡◌, Bool, true, false, cond, ◌&&◌, ◌||◌, List, [], ◌∷◌, Option, Some, None}
use Rattle.std.proofs.Common.{refl, ap, sym, ◌∙◌}
use Rattle.std.specs.declared.cmp.Ordering.{Ordering}
use Rattle.std.specs.Ordering.{eq_by_cmp}
use Rattle.std.specs.Option.{option_map_or, unwrap_or}
use Rattle.std.specs.List.{list_any}
use Rattle.std.specs.Cmp.{IsTotalOrder}
use Rattle.std.specs.FinMap.{FinMap, IsAntisymmetric, from_entries, find, get-from_entries}
use Rattle.ns_types.specs.State.Tables.{any_row}
use Rattle.ns_types.proofs.Lists.{left_none, not_both, right_none}
use Rattle.ns_types.proofs.Tables.{any_row-none, none_of_any, tied}

fails_alike : (a b : Bool) → (a ≡ false → b ≡ false) → (b ≡ false → a ≡ false) → a ≡ b
fails_alike true true to from = refl
fails_alike true false to from = from refl
fails_alike false true to from = sym (to refl)
fails_alike false false to from = refl

-- what is asked twice
twice : (a b : Bool) → ((a && b) && a) ≡ false → (a && b) ≡ false
twice true true e = e
twice true false e = refl
twice false b e = refl

module _ {K X : Type 0} (R : K → K → Ordering) (o : IsTotalOrder R) (same : IsAntisymmetric R) (late : X → Bool) (fits : K → Bool) (es : List (K × X)) where
  abbrev passes : K → X → Bool
  passes k x = late x && fits k

  -- the entry passes, and so does the one that counts of its key
  abbrev counts : K × X → Bool
  counts c = (late c.1 && fits c.0) && option_map_or late (find R c.0 es) false

  abbrev table : FinMap R X
  table = from_entries {R = R} es

  -- where no row passes, no entry counts
  no_entry : any_row passes table ≡ false → (xs : List (K × X)) → list_any counts xs ≡ false
  no_entry none [] = refl
  no_entry none (c ∷ xs) = ap (λ b. b || list_any counts xs) (here (late c.1) (fits c.0) refl (find R c.0 es) refl) ∙ no_entry none xs
    where
      here : (l f : Bool) → fits c.0 ≡ f → (r : Option X) → find R c.0 es ≡ r → ((l && f) && option_map_or late r false) ≡ false
      here false f is r at = refl
      here true false is r at = refl
      here true true is None at = refl
      here true true is (Some x) at = right (late x) (fits c.0) is
          (none_of_any same passes table c.0 x none (get-from_entries o es c.0 ∙ at))
        where
          right : (a b : Bool) → b ≡ true → (a && b) ≡ false → a ≡ false
          right true b is e = sym is ∙ e
          right false b is e = refl

  -- of an entry that does not count, and those after it
  or_later : (k : K) (x : X) → find R k es ≡ Some x → (c : K × X) (ys : List (K × X)) → list_any counts (c ∷ ys) ≡ false →
      (find R k ys ≡ Some x → passes k x ≡ false) →
      (b : Bool) → eq_by_cmp R k c.0 ≡ b → cond b (Some c.1) (find R k ys) ≡ Some x → passes k x ≡ false
  or_later k x whole c ys none later true t is =
      let key : k ≡ c.0 = tied same k c.0 t in
      let row : c.1 ≡ x = ap (λ r. unwrap_or r x) is in
      let counted : find R c.0 es ≡ Some x = ap (λ q. find R q es) (sym key) ∙ whole in
      let entry : ((late x && fits k) && late x) ≡ counts c =
      λ i. (late (sym row i) && fits (key i)) && option_map_or late (sym counted i) false in
      twice (late x) (fits k) (entry ∙ left_none (counts c) _ none)
  or_later k x whole c ys none later false t is = later is

  -- where no entry counts, no row passes
  no_row : list_any counts es ≡ false → any_row passes table ≡ false
  no_row none = any_row-none o same passes table (λ k x is. below k x (sym (get-from_entries o es k) ∙ is) es none (sym (get-from_entries o es k) ∙ is))
    where
      below : (k : K) (x : X) → find R k es ≡ Some x → (ys : List (K × X)) → list_any counts ys ≡ false → find R k ys ≡ Some x → passes k x ≡ false
      below k x whole [] none is = not_both refl (sym (ap (λ (r : Option X). option_map_or (λ _. true) r false) is))
      below k x whole (c ∷ ys) none is = or_later k x whole c ys none (below k x whole ys (right_none _ _ none)) (eq_by_cmp R k c.0) refl is

  pub any_late : list_any counts es ≡ any_row passes table
  any_late = fails_alike _ _ no_row (λ none. no_entry none es)
