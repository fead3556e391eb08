-- Tables: their sizes, their keys as rows come and go, and what holds of all their values.
use Rattle.std.specs.Prelude.{◌≡◌, ℕ, ◌+◌, ◌-◌, ◌≤◌, Bool, true, false, cond, not, T, List, [], ◌∷◌, map, Option, Some, None, ◌&&◌, is_some, length, nat_le}
use Rattle.std.specs.Prelude.{option_map}
use Rattle.std.proofs.Common.{refl, sym, ap, subst, ◌∙◌, arith}
use Rattle.std.proofs.lemmas.List.{length-map}
use Rattle.std.specs.Cmp.{IsTotalOrder}
use Rattle.std.specs.declared.cmp.Ordering.{Ordering}
use Rattle.std.specs.FinMap.{FinMap, IsAntisymmetric, get, get-entries, get-insert, get-remove, entries, contains_key, values, len}
use Rattle.std.specs.FinMap.{len-entries, len-insert, len-remove, insert, remove, same_map}
use Rattle.std.specs.List.{list_all}
use Rattle.std.specs.Ordering.{eq_by_cmp}
use Rattle.ns_types.specs.State.Lists.{Each}
use Rattle.ns_types.specs.State.Names.{Name, ByName, name_cmp, same_name}
use Rattle.ns_types.specs.State.Tables.{table_of, map_rows}
use Rattle.ns_types.proofs.Lists.{not_both}
use Rattle.ns_types.proofs.Named.{names, one_name, same_name_is, same_name_refl, first_of_both, second_of_both}
use Rattle.ns_types.proofs.Tables.{tied, get-table_of, entries-table_of, get-map_rows, each_row}
use Rattle.ns_types.proofs.Elements.{found_of}

-- ---- lists

pub list_all_of : {X : Type 0} (f g : X → Bool) → ((x : X) → f x ≡ true → g x ≡ true) → (xs : List X) → list_all f xs ≡ true → list_all g xs ≡ true
list_all_of f g h [] e = refl
list_all_of f g h (x ∷ xs) e = λ i. h x (first_of_both _ _ e) i && list_all_of f g h xs (second_of_both _ _ e) i

-- ---- sizes

module _ {K X Y : Type 0} {R : K → K → Ordering} (o : IsTotalOrder R) (same : IsAntisymmetric R) where
  marked : (a : Option X) (b : Option Y) → is_some a ≡ is_some b → option_map (λ _. true) a ≡ option_map (λ _. true) b
  marked None None e = refl
  marked None (Some y) e = absurd (subst T (sym e) tt)
  marked (Some x) None e = absurd (subst T e tt)
  marked (Some x) (Some y) e = refl

  -- tables with the same keys have one size
  pub same_len : (m : FinMap R X) (n : FinMap R Y) → ((k : K) → contains_key m k ≡ contains_key n k) → len m ≡ len n
  same_len m n keys = len-entries m ∙ sym (length-map (entries m) _) ∙ ap length (sym (entries-table_of (λ _ _. true) m))
      ∙ ap (λ x. length (entries x)) (same_map o same (table_of (λ _ _. true) m) (table_of (λ _ _. true) n)
      (λ q. get-table_of o same (λ _ _. true) m q ∙ marked (get m q) (get n q) (keys q) ∙ sym (get-table_of o same (λ _ _. true) n q)))
      ∙ ap length (entries-table_of (λ _ _. true) n) ∙ length-map (entries n) _ ∙ sym (len-entries n)

module _ {K X : Type 0} {R : K → K → Ordering} (o : IsTotalOrder R) (same : IsAntisymmetric R) where
  pub keys_mapped : (f : K → X → X) (m : FinMap R X) (k : K) → contains_key (map_rows f m) k ≡ contains_key m k
  keys_mapped f m k = ap is_some (get-map_rows o same f m k) ∙ by (get m k)
    where
      by : (x : Option X) → is_some (option_map (f k) x) ≡ is_some x
      by None = refl
      by (Some x) = refl

  pub len_mapped : (f : K → X → X) (m : FinMap R X) → len (map_rows f m) ≡ len m
  len_mapped f m = same_len o same (map_rows f m) m (keys_mapped f m)

  -- all values pass exactly where each row does
  pub values_pass : (f : X → Bool) (m : FinMap R X) → ((k : K) (x : X) → get m k ≡ Some x → f x ≡ true) → list_all f (values m) ≡ true
  values_pass f m h = by (entries m) (each_row o same (λ _ x. f x ≡ true) m h)
    where
      by : (es : List (K × X)) → Each (λ e. f e.1 ≡ true) es → list_all f (map (λ e. e.1) es) ≡ true
      by [] h = refl
      by (e ∷ es) h = λ i. h.0 i && by es h.1 i

  pub value_passes : (f : X → Bool) (m : FinMap R X) (k : K) (x : X) → list_all f (values m) ≡ true → get m k ≡ Some x → f x ≡ true
  value_passes f m k x h is = found_of R (λ x. f x ≡ true) (entries m) k x (by (entries m) h) (sym (get-entries m k) ∙ is)
    where
      by : (es : List (K × X)) → list_all f (map (λ e. e.1) es) ≡ true → Each (λ e. f e.1 ≡ true) es
      by [] h = tt
      by (e ∷ es) h = (first_of_both _ _ h, by es (second_of_both _ _ h))

-- ---- tables by name

module _ {X : Type 0} (m : ByName X) (k : Name) (v x : X) (is : get m k ≡ Some x) where
  -- a row in the place of another
  pub keys_put : (q : Name) → contains_key (insert m k v) q ≡ contains_key m q
  keys_put q = ap is_some (get-insert names m k v q) ∙ by (eq_by_cmp name_cmp q k) refl
    where
      by : (b : Bool) → eq_by_cmp name_cmp q k ≡ b → is_some (cond b (Some v) (get m q)) ≡ is_some (get m q)
      by true t = sym (ap is_some (ap (get m) (tied one_name q k t) ∙ is))
      by false t = refl

  pub len_put : len (insert m k v) ≡ len m
  len_put = same_len names one_name (insert m k v) m keys_put

module _ {X : Type 0} (m : ByName X) (k : Name) where
  pub still_there : (v : X) (q : Name) → contains_key m q ≡ true → contains_key (insert m k v) q ≡ true
  still_there v q has = ap is_some (get-insert names m k v q) ∙ elim (eq_by_cmp name_cmp q k) as (λ b. is_some (cond b (Some v) (get m q)) ≡ true)
      [ true ↦ refl | false ↦ has ]

  pub there_but : (q : Name) → same_name k q ≡ false → contains_key m q ≡ true → contains_key (remove m k) q ≡ true
  there_but q differs has = ap is_some (get-remove names m k q) ∙ by (eq_by_cmp name_cmp q k) refl
    where
      by : (b : Bool) → eq_by_cmp name_cmp q k ≡ b → is_some (cond b None (get m q)) ≡ true
      by true same = not_both (ap (same_name k) (same_name_is q k same) ∙ same_name_refl k) differs
      by false _ = has

pub len_removed : {X : Type 0} (m : ByName X) (k : Name) → len (remove m k) ≤ len m
len_removed m k = subst (λ n. n ≤ len m) (sym (len-remove names m k)) (by (contains_key m k) (len m))
  where
    by : (b : Bool) (n : ℕ) → cond b (n - 1) n ≤ n
    by true n = omega arith
    by false n = omega arith

-- a table that has room, or the row already, is within its bound with one row more
pub len_room : {X : Type 0} (m : ByName X) (k : Name) (v : X) (most : ℕ) → len m ≤ most → (not (contains_key m k) && nat_le most (len m)) ≡ false →
    len (insert m k v) ≤ most
len_room m k v most le room = subst (λ n. n ≤ most) (sym (len-insert names m k v)) (by (contains_key m k) room)
  where
    below : (a b : ℕ) → nat_le a b ≡ false → b + 1 ≤ a
    below a b e = grind arith

    by : (b : Bool) → (not b && nat_le most (len m)) ≡ false → cond b (len m) (len m + 1) ≤ most
    by true e = le
    by false e = below most (len m) e
