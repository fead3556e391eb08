-- What a sum over the rows of a table becomes, once changed rows are over them: the rows at the changed keys alone say it.
use Rattle.std.specs.Prelude.{◌≡◌, ℕ, ◌+◌, false, cond, T, List, [], ◌∷◌, Option, Some, None, fold, sum_by}
use Rattle.std.proofs.Common.{refl, sym, ap, ◌∙◌, arith, Ordering}
use Rattle.std.proofs.lemmas.List.Sums.{sum_by-cons}
use Rattle.std.specs.Cmp.{IsTotalOrder, eq_by_cmp_equiv}
use Rattle.std.specs.FinMap.{FinMap, IsAntisymmetric, entries, entries_sorted, get}
use Rattle.std.specs.FinMap.Entries.{below_all, is_sorted}
use Rattle.std.specs.Option.{option_map_or}
use Rattle.std.specs.Ordering.{eq_by_cmp, is_eq}
use Rattle.keyed.proofs.Applying.{get-put_in, puts_are}
use Rattle.keyed.specs.Over.{over, put_in}
use Rattle.ns_types.proofs.Tables.{less_by}
use Rattle.ns_types.proofs.Taken.{at_row, sum_rows, sum_set, sum_split}
use Rattle.ns_types.proofs.Tests.{first, second}

module _ {K X : Type 0} {R : K → K → Ordering} (o : IsTotalOrder R) (same : IsAntisymmetric R) (f : K → X → ℕ) where
  -- what the changed row gives
  abbrev pub after : K × Option X → ℕ
  after e = option_map_or (f e.0) e.1 0

  -- what the row gives that was there before
  abbrev pub before : FinMap R X → K × Option X → ℕ
  before m e = at_row o same f m e.0

  one_put : (m : FinMap R X) (e : K × Option X) → sum_rows o same f (put_in m e) + before m e ≡ sum_rows o same f m + after e
  one_put m (k, None) = let split = sum_split o same f m k in omega (arith, split)
  one_put m (k, Some x) = sum_set o same f m k x

  -- rows at other keys are as they were
  others_stay : (m : FinMap R X) (e : K × Option X) (es : List (K × Option X)) → T (below_all R e.0 es) →
      sum_by (before (put_in m e)) es ≡ sum_by (before m) es
  others_stay m e [] below = refl
  others_stay m e (d ∷ es) below =
      let apart : eq_by_cmp R d.0 e.0 ≡ false = (eq_by_cmp_equiv o).symm d.0 e.0 ∙ ap is_eq (less_by _ (first _ _ below)) in
      let here : before (put_in m e) d ≡ before m d =
      ap (λ r. option_map_or (f d.0) r 0) (get-put_in o same m e d.0 ∙ ap (λ b. cond b e.1 (get m d.0)) apart) in
      let rest = others_stay m e es (second _ _ below) in
      let then = sum_by-cons (before (put_in m e)) d es in
      let now = sum_by-cons (before m) d es in
      omega (arith, here, rest, then, now)

  all_put : (es : List (K × Option X)) → T (is_sorted R es) → (m : FinMap R X) →
      sum_rows o same f (fold put_in m es) + sum_by (before m) es ≡ sum_rows o same f m + sum_by after es
  all_put [] sorted m = refl
  all_put (e ∷ es) sorted m =
      let rest = all_put es (second _ _ sorted) (put_in m e) in
      let one = one_put m e in
      let stay = others_stay m e es (first _ _ sorted) in
      let gone = sum_by-cons (before m) e es in
      let come = sum_by-cons after e es in
      omega (arith, rest, one, stay, gone, come)

  pub sum-over : (m : FinMap R X) (c : FinMap R (Option X)) →
      sum_rows o same f (over m c) + sum_by (before m) (entries c) ≡ sum_rows o same f m + sum_by after (entries c)
  sum-over m c = ap (λ n. sum_rows o same f n + sum_by (before m) (entries c)) (sym (puts_are o same m c)) ∙ all_put (entries c) (entries_sorted c) m
