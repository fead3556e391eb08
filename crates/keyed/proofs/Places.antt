-- What a search finds: where the entry of a key stands, or belongs, and so how it is written, found and left out.
use Rattle.std.specs.Prelude.{◌≡◌, ℕ, suc, zero, ◌+◌, ◌<◌, ◌≤◌, Bool, true, false, cond, nat_eq, not, T, List, [], ◌∷◌, length, Some, refl}
use Rattle.std.proofs.Common.{ap, sym, ◌∙◌, subst, arith, get_or}
use Rattle.std.proofs.lemmas.Bool.Decides.{nat_tests}
use Rattle.std.proofs.lemmas.List.{get_or_default}
use Rattle.std.specs.declared.cmp.Ordering.{Ordering}
use Rattle.std.specs.declared.cmp.Ordering.TheVariants.{Less, Equal, Greater}
use Rattle.std.specs.Ordering.{eq_by_cmp, is_eq, ordering_reverse}
use Rattle.std.specs.Cmp.{IsTotalOrder}
use Rattle.std.specs.FinMap.Entries.{find, put, by_order, is_sorted, below_all, is_sorted-put}
use Rattle.keyed.specs.Slots.{Passed, Stands, Belongs, without}
use Rattle.ns_types.proofs.Tables.{less_by}
use Rattle.ns_types.proofs.Tests.{first, second}
use Rattle.keyed.proofs.Ordered.{kept, is_sorted-filter, not_there, not_left}

module _ {K : Type 0} (R : K → K → Ordering) (o : IsTotalOrder R) where
  turned : (x y : K) → R x y ≡ Less → R y x ≡ Greater
  turned x y t = o.antisymm y x ∙ ap ordering_reverse t

  back : (x y : K) → R x y ≡ Greater → R y x ≡ Less
  back x y t = o.antisymm y x ∙ ap ordering_reverse t

module _ {K X : Type 0} (R : K → K → Ordering) where
  -- the key is below those of the entries from n on
  abbrev pub Ahead : K → List (K × X) → ℕ → Type 0
  Ahead k es n = (j : ℕ) (d : K × X) → n ≤ j → j < length es → R k (get_or es j d).0 ≡ Less

  below_at : (x : K) (es : List (K × X)) (i : ℕ) (d : K × X) → T (below_all R x es) → i < length es → R x (get_or es i d).0 ≡ Less
  below_at x [] i d h l = absurd (omega arith)
  below_at x (e ∷ es) zero d h l = less_by _ (first _ _ h)
  below_at x (e ∷ es) (suc i) d h l = below_at x es i d (second _ _ h) (omega arith)

  pub rises : (es : List (K × X)) (i j : ℕ) (c d : K × X) → T (is_sorted R es) → i < j → j < length es → R (get_or es i c).0 (get_or es j d).0 ≡ Less
  rises [] i j c d s l m = absurd (omega arith)
  rises (e ∷ es) i zero c d s l m = absurd (omega arith)
  rises (e ∷ es) zero (suc j) c d s l m = below_at e.0 es j d (first _ _ s) (omega arith)
  rises (e ∷ es) (suc i) (suc j) c d s l m = rises es i j c d (second _ _ s) (omega arith) (omega arith)

  module _ (o : IsTotalOrder R) where
    -- below an entry, and so below those after it
    pub ahead_of : (k : K) (es : List (K × X)) (m : ℕ) (c : K × X) → T (is_sorted R es) → m < length es → R k (get_or es m c).0 ≡ Less → Ahead k es m
    ahead_of k es m c s l t j d le lt = or_later (nat_eq j m) refl
      where
        or_later : (b : Bool) → nat_eq j m ≡ b → R k (get_or es j d).0 ≡ Less
        or_later true e =
            let at : j ≡ m = grind (arith, nat_tests) in
            ap (λ n. R k (get_or es n d).0) at ∙ ap (λ x. R k x.0) (get_or_default es m d c l) ∙ t
        or_later false e =
            let further : m < j = grind (arith, nat_tests) in
            o.trans k (get_or es m c).0 (get_or es j d).0 t (rises es m j c d s further lt)

    -- above an entry, and so above those before it
    pub passed_by : (k : K) (es : List (K × X)) (m : ℕ) (c : K × X) → T (is_sorted R es) → m < length es → R k (get_or es m c).0 ≡ Greater →
        Passed R k es (m + 1)
    passed_by k es m c s l t j d lt in_es = or_before (nat_eq j m) refl
      where
        or_before : (b : Bool) → nat_eq j m ≡ b → R k (get_or es j d).0 ≡ Greater
        or_before true e =
            let at : j ≡ m = grind (arith, nat_tests) in
            ap (λ n. R k (get_or es n d).0) at ∙ ap (λ x. R k x.0) (get_or_default es m d c l) ∙ t
        or_before false e =
            let earlier : j < m = grind (arith, nat_tests) in
            turned R o _ _ (o.trans (get_or es j d).0 (get_or es m c).0 k (rises es j m d c s earlier l) (back R o _ _ t))

    -- a write at the entry itself, or further on
    put_here : (k : K) (v : X) (e : K × X) (es : List (K × X)) (r : Ordering) → R k e.0 ≡ r →
        by_order r ((k, v) ∷ e ∷ es) ((e.0, v) ∷ es) (e ∷ put R k v es) ≡ put R k v (e ∷ es)
    put_here k v e es r t = sym (ap (λ r. by_order r ((k, v) ∷ e ∷ es) ((e.0, v) ∷ es) (e ∷ put R k v es)) t)

    find_here : (k : K) (e : K × X) (es : List (K × X)) (r : Ordering) → R k e.0 ≡ r → find R k (e ∷ es) ≡ cond (is_eq r) (Some e.1) (find R k es)
    find_here k e es r t = ap (λ r. cond (is_eq r) (Some e.1) (find R k es)) t

    left_sorted : (k : K) (es : List (K × X)) → T (is_sorted R es) → T (is_sorted R (without R k es))
    left_sorted k es s = is_sorted-filter R (λ e. not (eq_by_cmp R k e.0)) es s

    one_more : (k : K) (e : K × X) (es : List (K × X)) (i : ℕ) → R k e.0 ≡ Greater → Passed R k es i → Passed R k (e ∷ es) (suc i)
    one_more k e es i before rest zero d lt in_es = before
    one_more k e es i before rest (suc j) d lt in_es = rest j d (omega arith) (omega arith)

    -- the entry of a key stands where an entry's key ties
    pub stands : (k : K) (es : List (K × X)) (i : ℕ) (d : K × X) → T (is_sorted R es) → i < length es → R k (get_or es i d).0 ≡ Equal → Stands R k es i
    stands k [] i d s l t = absurd (omega arith)
    stands k (e ∷ es) zero d s l t = record {
      within = omega arith;
      find_is = λ _. find_here k e es Equal t;
      put_is = λ v _. put_here k v e es Equal t;
      without_is = sym (ap (λ r. cond (not (is_eq r)) (e ∷ without R k es) (without R k es)) t ∙ (not_left R o k e es s t).1);
      put_sorted = λ v. is_sorted-put R o k v (e ∷ es) s;
      without_sorted = left_sorted k (e ∷ es) s;
      passed = λ j c lt in_es. absurd (omega arith);
    }
    stands k (e ∷ es) (suc i) d s l t =
        let before : R k e.0 ≡ Greater = o.congr k (get_or es i d).0 e.0 t ∙ turned R o _ _ (below_at e.0 es i d (first _ _ s) (omega arith)) in
        let rest = stands k es i d (second _ _ s) (omega arith) t in
        record {
          within = omega (arith, rest.within);
          find_is = λ c. find_here k e es Greater before ∙ rest.find_is c;
          put_is = λ v c. ap (λ fs. e ∷ fs) (rest.put_is v c) ∙ put_here k v e es Greater before;
          without_is = ap (λ fs. e ∷ fs) rest.without_is ∙ sym (kept R k e es Greater before refl);
          put_sorted = λ v. is_sorted-put R o k v (e ∷ es) s;
          without_sorted = left_sorted k (e ∷ es) s;
          passed = one_more k e es i before rest.passed;
        }

    -- a key between the entries before i and those from i on belongs there
    pub belongs : (k : K) (es : List (K × X)) (i : ℕ) → T (is_sorted R es) → i ≤ length es → Passed R k es i → Ahead k es i → Belongs R k es i
    belongs k [] zero s l p a = record {
      within = l;
      find_is = refl;
      put_is = λ v. refl;
      without_is = refl;
      put_sorted = λ v. is_sorted-put R o k v [] s;
      passed = p;
    }
    belongs k [] (suc i) s l p a = absurd (omega arith)
    belongs k (e ∷ es) zero s l p a =
        let after : R k e.0 ≡ Less = a 0 e (omega arith) (omega arith) in
        let none = not_there R o k e es s after in
        record {
          within = l;
          find_is = find_here k e es Less after ∙ none.0;
          put_is = λ v. put_here k v e es Less after;
          without_is = kept R k e es Less after refl ∙ ap (λ fs. e ∷ fs) none.1;
          put_sorted = λ v. is_sorted-put R o k v (e ∷ es) s;
          passed = p;
        }
    belongs k (e ∷ es) (suc i) s l p a =
        let before : R k e.0 ≡ Greater = p 0 e (omega arith) (omega arith) in
        let rest = belongs k es i (second _ _ s) (omega arith) (λ j d m n. p (suc j) d (omega arith) (omega arith))
        (λ j d m n. a (suc j) d (omega arith) (omega arith)) in
        record {
          within = omega (arith, rest.within);
          find_is = find_here k e es Greater before ∙ rest.find_is;
          put_is = λ v. ap (λ fs. e ∷ fs) (rest.put_is v) ∙ put_here k v e es Greater before;
          without_is = kept R k e es Greater before refl ∙ ap (λ fs. e ∷ fs) rest.without_is;
          put_sorted = λ v. is_sorted-put R o k v (e ∷ es) s;
          passed = p;
        }

module _ {K X : Type 0} (R : K → K → Ordering) (k : K) where
  -- the list that the code holds, es, is the one that the facts are about
  pub inside_stands : (es fs : List (K × X)) (i : ℕ) → es ≡ fs → Stands R k fs i → Stands R k es i
  inside_stands es fs i e p = subst (λ gs. Stands R k gs i) (sym e) p

  pub inside_belongs : (es fs : List (K × X)) (i : ℕ) → es ≡ fs → Belongs R k fs i → Belongs R k es i
  inside_belongs es fs i e p = subst (λ gs. Belongs R k gs i) (sym e) p
