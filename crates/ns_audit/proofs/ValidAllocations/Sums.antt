-- Sums over the rows of tables, one against another.
use Rattle.std.specs.Prelude.{◌≡◌, ℕ, ◌+◌, ◌≤◌, Bool, true, false, cond, not, T, List, [], ◌∷◌, Some, None, sum_by}
use Rattle.std.proofs.Common.{Ordering, refl, sym, ap, subst, ◌∙◌, arith}
use Rattle.std.proofs.lemmas.List.Sums.{sum_by-cons}
use Rattle.std.specs.Cmp.{IsTotalOrder}
use Rattle.std.specs.FinMap.{FinMap, IsAntisymmetric, empty, entries, entries_sorted, from_entries, get, get-empty, get-entries, get-insert, insert}
use Rattle.std.specs.FinMap.Entries.{find, where_key, below_all, is_sorted, find-where_key}
use Rattle.std.specs.Option.{option_map_or}
use Rattle.std.specs.Ordering.{eq_by_cmp}
use Rattle.ns_types.specs.State.Lists.{Each}
use Rattle.ns_types.proofs.Lists.{not_both}
use Rattle.ns_types.proofs.Sums.{sum_kept}
use Rattle.ns_types.proofs.TableRows.{turned}
use Rattle.ns_types.proofs.Tables.{each_row, tied}
use Rattle.ns_types.proofs.Taken.{below_unlike}
use Rattle.ns_types.proofs.Tests.{first, not_Some, second}

-- ---- numbers

pub zero_le : (n : ℕ) → 0 ≤ n
zero_le n = omega arith

pub both_le : (a b c d : ℕ) → a ≤ b → c ≤ d → a + c ≤ b + d
both_le a b c d h k = omega arith

past : (a b c d : ℕ) → a + b ≤ c → a + (d + b) ≤ d + c
past a b c d h = omega arith

later : (a b c : ℕ) → b ≤ c → b ≤ a + c
later a b c h = omega arith

through : (a b c s t : ℕ) → a ≤ b → s ≤ t → b + t ≤ c → a + s ≤ c
through a b c s t h k l = omega arith

put_together : (a b c d e : ℕ) → a ≤ b + c → d + c ≤ e → a + d ≤ e + b
put_together a b c d e h k = omega arith

put_first : (a b c d e : ℕ) → a + b ≤ c + d → c ≤ e → a ≤ d + e
put_first a b c d e h k = omega arith

left_part : (a b c : ℕ) → a + b ≤ c → a ≤ c
left_part a b c h = omega arith

-- ---- a sum over a list, by its first element

module _ {X : Type 0} (f : X → ℕ) (x : X) (xs : List X) where
  pub sum_le : (n : ℕ) → f x + sum_by f xs ≤ n → sum_by f (x ∷ xs) ≤ n
  sum_le n h = subst (λ m. m ≤ n) (sym (sum_by-cons f x xs)) h

  pub le_sum : (n : ℕ) → n ≤ f x + sum_by f xs → n ≤ sum_by f (x ∷ xs)
  le_sum n h = subst (λ m. n ≤ m) (sym (sum_by-cons f x xs)) h

-- ---- lists of entries

module _ {K : Type 0} {R : K → K → Ordering} (o : IsTotalOrder R) (same : IsAntisymmetric R) where
  abbrev elsewhere : K → K → Bool
  elsewhere k q = not (eq_by_cmp R q k)

  module _ {Y : Type 0} (g : K → Y → ℕ) where
    abbrev sum : List (K × Y) → ℕ
    sum es = sum_by (λ e. g e.0 e.1) es

    -- what is counted at the key
    abbrev at : K → List (K × Y) → ℕ
    at k es = option_map_or (g k) (find R k es) 0

    -- with what is counted at a key, what is counted elsewhere is no more than all
    apart : (k : K) (es : List (K × Y)) → at k es + sum (where_key R (elsewhere k) es) ≤ sum es
    apart k [] = zero_le 0
    apart k (e ∷ es) = by (apart k es) (eq_by_cmp R k e.0) refl (eq_by_cmp R e.0 k) refl
      where
        by : at k es + sum (where_key R (elsewhere k) es) ≤ sum es → (b : Bool) → eq_by_cmp R k e.0 ≡ b → (c : Bool) → eq_by_cmp R e.0 k ≡ c
            → option_map_or (g k) (cond b (Some e.1) (find R k es)) 0 + sum (cond (not c) (e ∷ where_key R (elsewhere k) es) (where_key R (elsewhere k) es))
            ≤ sum (e ∷ es)
        by rest true t true u = le_sum (λ e. g e.0 e.1) e es _
            (both_le _ _ _ _ (subst (λ q. g k e.1 ≤ g q e.1) (tied same k e.0 t) (omega arith)) (sum_kept (λ e. g e.0 e.1) (λ e. elsewhere k e.0) es))
        by rest true t false u = not_both t (turned o e.0 k u)
        by rest false t true u = not_both u (turned o k e.0 t)
        by rest false t false u = le_sum (λ e. g e.0 e.1) e es _
            (subst (λ m. at k es + m ≤ g e.0 e.1 + sum es) (sym (sum_by-cons (λ e. g e.0 e.1) e (where_key R (elsewhere k) es)))
            (past (at k es) _ _ (g e.0 e.1) rest))

    found_elsewhere : (k q : K) (es : List (K × Y)) → eq_by_cmp R q k ≡ false → find R q (where_key R (elsewhere k) es) ≡ find R q es
    found_elsewhere k q es e = find-where_key R (elsewhere k) q (λ x t. ap (elsewhere k) (sym (same q x t))) es ∙ ap (λ b. cond (not b) (find R q es) None) e

  module _ {X Y : Type 0} (f : K → X → ℕ) (g : K → Y → ℕ) where
    list_below : (es : List (K × X)) → T (is_sorted R es) → (fs : List (K × Y)) → Each (λ e. f e.0 e.1 ≤ at g e.0 fs) es → sum f es ≤ sum g fs
    list_below [] sorted fs h = zero_le _
    list_below (e ∷ es) sorted fs h = sum_le (λ e. f e.0 e.1) e es _
        (through (f e.0 e.1) (at g e.0 fs) (sum g fs) (sum f es) (sum g (where_key R (elsewhere e.0) fs)) h.0
        (list_below es (second _ _ sorted) (where_key R (elsewhere e.0) fs) (still es (first _ _ sorted) h.1)) (apart g e.0 fs))
      where
        still : (xs : List (K × X)) → T (below_all R e.0 xs) → Each (λ x. f x.0 x.1 ≤ at g x.0 fs) xs →
            Each (λ x. f x.0 x.1 ≤ at g x.0 (where_key R (elsewhere e.0) fs)) xs
        still [] _ k = tt
        still (x ∷ xs) b k = (
          subst (λ y. f x.0 x.1 ≤ option_map_or (g x.0) y 0)
              (sym (found_elsewhere g e.0 x.0 fs (turned o e.0 x.0 (below_unlike (R e.0 x.0) (first _ _ b))))) k.0,
          still xs (second _ _ b) k.1,
        )

    -- where each row counts no more than the row at its key in the other table, neither does the whole
    pub sum_below : (m : FinMap R X) (n : FinMap R Y) → ((k : K) (x : X) → get m k ≡ Some x → f k x ≤ option_map_or (g k) (get n k) 0)
        → sum_by (λ e. f e.0 e.1) (entries m) ≤ sum_by (λ e. g e.0 e.1) (entries n)
    sum_below m n h = list_below (entries m) (entries_sorted m) (entries n)
        (each_row o same (λ k x. f k x ≤ at g k (entries n)) m (λ k x is. subst (λ y. f k x ≤ option_map_or (g k) y 0) (get-entries n k) (h k x is)))

  module _ {X : Type 0} (f : K → X → ℕ) where
    -- without rows there is nothing
    pub sum_none : (m : FinMap R X) → ((k : K) (x : X) → get m k ≡ Some x → ⊥) → sum_by (λ e. f e.0 e.1) (entries m) ≤ 0
    sum_none m none = list_below f f (entries m) (entries_sorted m) [] (each_row o same (λ k x. f k x ≤ 0) m (λ k x is. absurd (none k x is)))

    -- a row counts no more than all
    pub sum_at : (m : FinMap R X) (k : K) (x : X) → get m k ≡ Some x → f k x ≤ sum_by (λ e. f e.0 e.1) (entries m)
    sum_at m k x is = left_part (f k x) (sum f (where_key R (elsewhere k) (entries m))) _
        (subst (λ y. option_map_or (f k) y 0 + sum f (where_key R (elsewhere k) (entries m)) ≤ sum f (entries m)) (sym (get-entries m k) ∙ is)
        (apart f k (entries m)))

    -- with a row put in, and the one that was there counted again, no more than with that row added
    pub sum_put : (m : FinMap R X) (k : K) (v : X) → sum_by (λ e. f e.0 e.1) (entries (insert m k v)) + option_map_or (f k) (get m k) 0 ≤ sum_by
        (λ e. f e.0 e.1) (entries m) + f k v
    sum_put m k v = put_together _ (f k v) (sum f (where_key R (elsewhere k) (entries m))) (option_map_or (f k) (get m k) 0) _
        (subst (λ s. sum f (entries (insert m k v)) ≤ s) (sum_by-cons (λ e. f e.0 e.1) (k, v) (where_key R (elsewhere k) (entries m)))
        (list_below f f (entries (insert m k v)) (entries_sorted (insert m k v)) ((k, v) ∷ where_key R (elsewhere k) (entries m))
        (each_row o same _ (insert m k v) (λ q x is. held q x (sym (there q) ∙ is)))))
        (subst (λ y. option_map_or (f k) y 0 + sum f (where_key R (elsewhere k) (entries m)) ≤ sum f (entries m)) (sym (get-entries m k))
        (apart f k (entries m)))
      where
        there : (q : K) → get (insert m k v) q ≡ find R q ((k, v) ∷ where_key R (elsewhere k) (entries m))
        there q = get-insert o m k v q ∙ by (eq_by_cmp R q k) refl
          where
            by : (b : Bool) → eq_by_cmp R q k ≡ b → cond b (Some v) (get m q) ≡ cond b (Some v) (find R q (where_key R (elsewhere k) (entries m)))
            by true t = refl
            by false t = get-entries m q ∙ sym (found_elsewhere f k q (entries m) t)

        held : (q : K) (x : X) → find R q ((k, v) ∷ where_key R (elsewhere k) (entries m)) ≡ Some x →
            f q x ≤ at f q ((k, v) ∷ where_key R (elsewhere k) (entries m))
        held q x is = subst (λ y. f q x ≤ option_map_or (f q) y 0) (sym is) (omega arith)

    -- a table made of a list has no more than the list
    pub sum_made : (es : List (K × X)) → sum_by (λ e. f e.0 e.1) (entries (from_entries {R = R} es)) ≤ sum_by (λ e. f e.0 e.1) es
    sum_made [] = sum_none empty (λ k x is. not_Some x (sym (get-empty R k) ∙ is))
    sum_made (e ∷ es) = le_sum (λ e. f e.0 e.1) e es _
        (put_first _ (option_map_or (f e.0) (get (from_entries {R = R} es) e.0) 0) (sum f (entries (from_entries {R = R} es))) (f e.0 e.1) (sum f es)
        (sum_put (from_entries {R = R} es) e.0 e.1) (sum_made es))
