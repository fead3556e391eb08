-- The order of names, by their first difference.
use Rattle.std.specs.Prelude.{◌≡◌, ◌⊎◌, ℕ, ◌<◌, true, [], ◌∷◌, ◌++◌}
use Rattle.std.specs.Ordering.{is_lt, nat_cmp, ordering_then}
use Rattle.std.proofs.Common.{Ordering, Equal, Greater, Less, inl, inr, refl, sym, ap, ◌∙◌, arith}
use Rattle.std.proofs.lemmas.Bool.{cases_order}
use Rattle.std.proofs.lemmas.Bool.Decides.{nat_tests}
use Rattle.ns_types.specs.State.Names.{Name, name_cmp}
use Rattle.ns_types.proofs.Lists.{not_both}
use Rattle.ns_laws.specs.Names as law
use Rattle.ns_laws.specs.Names.{GoesOn, IsLessAt}

cmp_equal : (x y : ℕ) → x ≡ y → nat_cmp x y ≡ Equal
cmp_equal x y e = grind (arith, nat_tests)

cmp_less : (x y : ℕ) → x < y → nat_cmp x y ≡ Less
cmp_less x y lt = grind (arith, nat_tests)

cmp_greater : (x y : ℕ) → y < x → nat_cmp x y ≡ Greater
cmp_greater x y gt = grind (arith, nat_tests)

-- the order of two names by that of their first characters
by_first : (x y : ℕ) (a b : Name) (o : Ordering) → nat_cmp x y ≡ o → is_lt (name_cmp (x ∷ a) (y ∷ b)) ≡ is_lt (ordering_then o (name_cmp a b))
by_first x y a b o e = ap (λ first. is_lt (ordering_then first (name_cmp a b))) e

one_more : (x y : ℕ) (a b : Name) → x ≡ y → GoesOn a b ⊎ IsLessAt a b → GoesOn (x ∷ a) (y ∷ b) ⊎ IsLessAt (x ∷ a) (y ∷ b)
one_more x y a b same (inl on) = inl (record { next = on.next; rest = on.rest; same = λ i. sym same i ∷ on.same i })
one_more x y a b same (inr at) = inr (record {
  common = x ∷ at.common;
  lesser = at.lesser;
  greater = at.greater;
  less = at.less;
  rest_of_a = at.rest_of_a;
  rest_of_b = at.rest_of_b;
  is_a = ap (λ rest. x ∷ rest) at.is_a;
  is_b = λ i. sym same i ∷ at.is_b i;
})

to : (a b : Name) → is_lt (name_cmp a b) ≡ true → GoesOn a b ⊎ IsLessAt a b
to [] [] e = not_both e refl
to [] (y ∷ b) e = inl (record { next = y; rest = b; same = refl })
to (x ∷ a) [] e = not_both e refl
to (x ∷ a) (y ∷ b) e = by (to a b) (cases_order x y)
  where
    by : (is_lt (name_cmp a b) ≡ true → GoesOn a b ⊎ IsLessAt a b) → (x ≡ y) ⊎ ((x < y) ⊎ (y < x)) → GoesOn (x ∷ a) (y ∷ b) ⊎ IsLessAt (x ∷ a) (y ∷ b)
    by later (inl same) = one_more x y a b same (later (sym (by_first x y a b Equal (cmp_equal x y same)) ∙ e))
    by later (inr (inl lt)) =
        inr (record { common = []; lesser = x; greater = y; less = lt; rest_of_a = a; rest_of_b = b; is_a = refl; is_b = refl })
    by later (inr (inr gt)) = not_both e (by_first x y a b Greater (cmp_greater x y gt))

goes_on : (a : Name) (next : ℕ) (rest : Name) → is_lt (name_cmp a (a ++ next ∷ rest)) ≡ true
goes_on [] next rest = refl
goes_on (x ∷ a) next rest = by_first x x a (a ++ next ∷ rest) Equal (cmp_equal x x refl) ∙ goes_on a next rest

less_at : (common : Name) (x y : ℕ) (s t : Name) → x < y → is_lt (name_cmp (common ++ x ∷ s) (common ++ y ∷ t)) ≡ true
less_at [] x y s t lt = by_first x y s t Less (cmp_less x y lt)
less_at (c ∷ common) x y s t lt =
    by_first c c (common ++ x ∷ s) (common ++ y ∷ t) Equal (cmp_equal c c refl) ∙ less_at common x y s t lt

from : (a b : Name) → GoesOn a b ⊎ IsLessAt a b → is_lt (name_cmp a b) ≡ true
from a b (inl on) = ap (λ other. is_lt (name_cmp a other)) on.same ∙ goes_on a on.next on.rest
from a b (inr at) = (λ i. is_lt (name_cmp (at.is_a i) (at.is_b i))) ∙ less_at at.common at.lesser at.greater at.rest_of_a at.rest_of_b at.less

pub name_order : law.NameOrder
name_order a b = (to a b, from a b)
