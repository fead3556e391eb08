-- How many slots have a row, after a slot is written or taken out.
use Rattle.std.specs.Prelude.{◌≡◌, ℕ, ◌+◌, ◌≤◌, true, false, cond, not, T, List, [], ◌∷◌, ◌++◌, ◌<◌, length, is_some, Option, Some, None, refl}
use Rattle.std.proofs.Math.Seq.{take-suc}
use Rattle.std.proofs.Common.{add-one, take, ap, sym, ◌∙◌, subst, arith, get_or, set}
use Rattle.std.specs.List.{insert, remove}
use Rattle.std.specs.declared.cmp.Ordering.{Ordering}
use Rattle.std.specs.declared.cmp.Ordering.TheVariants.{Less, Equal, Greater}
use Rattle.std.specs.Ordering.{is_eq}
use Rattle.std.specs.Cmp.{IsTotalOrder}
use Rattle.std.specs.FinMap.Entries.{find, put, by_order, is_sorted}
use Rattle.keyed.specs.Table.{flat, with_row, row_list}
use Rattle.keyed.specs.Slots.{without, Stands, Belongs}
use Rattle.ns_types.proofs.Tests.{second}
use Rattle.keyed.proofs.Ordered.{not_there, not_left}

abbrev pub size : {V : Type 0} → Option V → ℕ
size None = 0
size (Some v) = 1

pub rows_at_most : {K V : Type 0} (es : List (K × Option V)) → length (row_list es) ≤ length es
rows_at_most [] = omega arith
rows_at_most ((k, None) ∷ es) = let rest = rows_at_most es in omega arith
rows_at_most ((k, Some v) ∷ es) = let rest = rows_at_most es in omega arith

module _ {K V : Type 0} where
  counted : (k : K) (x : Option V) (es : List (K × V)) → length (with_row k x es) ≡ length es + size x
  counted k None es = omega arith
  counted k (Some v) es = omega arith

module _ {K V : Type 0} (R : K → K → Ordering) (o : IsTotalOrder R) where
  pub counted-put : (k : K) (x : Option V) (es : List (K × Option V)) → T (is_sorted R es)
      → length (row_list (put R k x es)) + size (flat (find R k es)) ≡ length (row_list es) + size x
  counted-put k x [] s = let one = counted k x [] in omega arith
  counted-put k x (e ∷ es) s =
      elim (R k e.0) as (λ r. R k e.0 ≡ r → length (row_list (by_order r ((k, x) ∷ e ∷ es) ((e.0, x) ∷ es) (e ∷ put R k x es))) + size
      (flat (cond (is_eq r) (Some e.1) (find R k es))) ≡ length (row_list (e ∷ es)) + size x) [
        | Less ↦ λ t.
            let none : size (flat (find R k es)) ≡ 0 = ap (λ y. size (flat y)) (not_there R o k e es s t).0 in
            let one = counted k x (row_list (e ∷ es)) in
            omega arith
        | Equal ↦ λ t.
            let new = counted e.0 x (row_list es) in
            let old = counted e.0 e.1 (row_list es) in
            omega arith
        | Greater ↦ λ t.
            let rest : length (row_list (put R k x es)) + size (flat (find R k es)) ≡ length (row_list es) + size x = counted-put k x es (second _ _ s) in
            let new = counted e.0 e.1 (row_list (put R k x es)) in
            let old = counted e.0 e.1 (row_list es) in
            omega arith
      ] refl

  pub counted-without : (k : K) (es : List (K × Option V)) → T (is_sorted R es)
      → length (row_list (without R k es)) + size (flat (find R k es)) ≡ length (row_list es)
  counted-without k [] s = omega arith
  counted-without k (e ∷ es) s =
      elim (R k e.0) as (λ r. R k e.0 ≡ r → length (row_list (cond (not (is_eq r)) (e ∷ without R k es) (without R k es))) + size
      (flat (cond (is_eq r) (Some e.1) (find R k es))) ≡ length (row_list (e ∷ es))) [
        | Less ↦ λ t.
            let rest : length (row_list (without R k es)) + size (flat (find R k es)) ≡ length (row_list es) = counted-without k es (second _ _ s) in
            let new = counted e.0 e.1 (row_list (without R k es)) in
            let old = counted e.0 e.1 (row_list es) in
            omega arith
        | Equal ↦ λ t.
            let old = counted e.0 e.1 (row_list es) in
            let left : length (row_list (without R k es)) ≡ length (row_list es) = ap (λ fs. length (row_list fs)) (not_left R o k e es s t).1 in
            omega arith
        | Greater ↦ λ t.
            let rest : length (row_list (without R k es)) + size (flat (find R k es)) ≡ length (row_list es) = counted-without k es (second _ _ s) in
            let new = counted e.0 e.1 (row_list (without R k es)) in
            let old = counted e.0 e.1 (row_list es) in
            omega arith
      ] refl

pub size_none : {V : Type 0} (x : Option V) → is_some x ≡ false → size x ≡ 0
size_none None e = refl
size_none (Some v) e = cc

pub size_some : {V : Type 0} (x : Option V) → is_some x ≡ true → size x ≡ 1
size_some None e = cc
size_some (Some v) e = refl

-- the entry e of the key is written or taken out, in the slots es that the code holds
module _ {K V : Type 0} (R : K → K → Ordering) (o : IsTotalOrder R) (k : K) (es : List (K × Option V)) (i : ℕ) (p : Stands R k es i)
    (e : K × Option V) (is : e ≡ get_or es i e) (filled : ℕ) (sorted : T (is_sorted R es)) (count : filled ≡ length (row_list es)) where
  found : find R k es ≡ Some e.1
  found = p.find_is e ∙ ap (λ x. Some x.1) (sym is)

  pub at_key : flat (find R k es) ≡ e.1
  at_key = ap flat found

  pub set_is_put : (x : Option V) → set es i (e.0, x) ≡ put R k x es
  set_is_put x = ap (λ y. set es i (y.0, x)) is ∙ p.put_is x e

  pub set_sorted : (x : Option V) → T (is_sorted R (set es i (e.0, x)))
  set_sorted x = subst (λ fs. T (is_sorted R fs)) (sym (set_is_put x)) (p.put_sorted x)

  pub set_counted : (x : Option V) → length (row_list (set es i (e.0, x))) + size e.1 ≡ filled + size x
  set_counted x =
      let law : length (row_list (put R k x es)) + size (flat (find R k es)) ≡ length (row_list es) + size x = counted-put R o k x es sorted in
      let same : length (row_list (set es i (e.0, x))) ≡ length (row_list (put R k x es)) = ap (λ fs. length (row_list fs)) (set_is_put x) in
      let held : size (flat (find R k es)) ≡ size e.1 = ap size at_key in
      omega arith

  pub left_sorted : T (is_sorted R (remove es i))
  left_sorted = subst (λ fs. T (is_sorted R fs)) (sym p.without_is) p.without_sorted

  pub left_counted : length (row_list (remove es i)) + size e.1 ≡ filled
  left_counted =
      let law : length (row_list (without R k es)) + size (flat (find R k es)) ≡ length (row_list es) = counted-without R o k es sorted in
      let same : length (row_list (remove es i)) ≡ length (row_list (without R k es)) = ap (λ fs. length (row_list fs)) p.without_is in
      let held : size (flat (find R k es)) ≡ size e.1 = ap size at_key in
      omega arith

module _ {K V : Type 0} (R : K → K → Ordering) (o : IsTotalOrder R) (k : K) (es : List (K × Option V)) (i : ℕ) (p : Belongs R k es i)
    (filled : ℕ) (sorted : T (is_sorted R es)) (count : filled ≡ length (row_list es)) where
  pub inserted_sorted : (x : Option V) → T (is_sorted R (insert es i (k, x)))
  inserted_sorted x = subst (λ fs. T (is_sorted R fs)) (sym (p.put_is x)) (p.put_sorted x)

  -- a vacant slot is no row
  pub inserted_counted : filled ≡ length (row_list (insert es i (k, None)))
  inserted_counted =
      let law : length (row_list (put R k None es)) + size (flat (find R k es)) ≡ length (row_list es) + 0 = counted-put R o k None es sorted in
      let same : length (row_list (insert es i (k, None))) ≡ length (row_list (put R k None es)) = ap (λ fs. length (row_list fs)) (p.put_is None) in
      let held : size (flat (find R k es)) ≡ 0 = ap (λ x. size (flat x)) p.find_is in
      omega arith

  pub added_counted : (v : V) → filled + 1 ≡ length (row_list (insert es i (k, Some v)))
  added_counted v =
      let law : length (row_list (put R k (Some v) es)) + size (flat (find R k es)) ≡ length (row_list es) + 1 = counted-put R o k (Some v) es sorted in
      let same : length (row_list (insert es i (k, Some v))) ≡ length (row_list (put R k (Some v) es)) =
      ap (λ fs. length (row_list fs)) (p.put_is (Some v)) in
      let held : size (flat (find R k es)) ≡ 0 = ap (λ x. size (flat x)) p.find_is in
      omega arith

-- ---- a count from the left

counted-end : {K V : Type 0} (es : List (K × Option V)) (e : K × Option V) → length (row_list (es ++ e ∷ [])) ≡ length (row_list es) + size e.1
counted-end [] (k, None) = refl
counted-end [] (k, Some v) = refl
counted-end ((k, None) ∷ es) e = counted-end es e
counted-end ((k, Some v) ∷ es) e = let rest = counted-end es e in omega arith

pub counted-more : {K V : Type 0} (es : List (K × Option V)) (i : ℕ) (e : K × Option V) → i < length es → e ≡ get_or es i e →
    length (row_list (take (i + 1) es)) ≡ length (row_list (take i es)) + size e.1
counted-more es i e lt is = ap (λ n. length (row_list (take n es))) (add-one i) ∙ ap (λ l. length (row_list l)) (take-suc es i e lt) ∙
    counted-end (take i es) (get_or es i e) ∙ ap (λ x. length (row_list (take i es)) + size x.1) (sym is)
