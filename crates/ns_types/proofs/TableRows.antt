-- Tables after one row is put, and the rows of a table that pass.
use Rattle.std.specs.Prelude.{◌≡◌, Bool, true, false, cond, ◌++◌, ◌||◌, List, [], ◌∷◌, Option, Some, None, filter, is_some, length, map, option_map, ◌⊎◌}
use Rattle.std.proofs.Common.{inl, inr, ℕ, ◌+◌, ◌≢◌, Ordering, refl, sym, ap, ◌∙◌, is_eq, arith}
use Rattle.std.specs.Ordering.{eq_by_cmp}
use Rattle.std.specs.Cmp.{IsTotalOrder, eq_by_cmp_equiv, tied_itself}
use Rattle.std.specs.List.{list_any}
use Rattle.std.specs.Option.{option_or}
use Rattle.std.specs.FinMap.{FinMap, IsAntisymmetric, empty, entries, entries-insert, get, get-empty, get-entries, get-from_entries, get-insert, get-remove}
use Rattle.std.specs.FinMap.{remove, from_entries, find, insert, keys, len-empty, len-entries, put, retain_keys, same_map}
use Rattle.ns_types.specs.State.Tables.{map_rows, any_row}
use Rattle.ns_types.specs.State.Lists.{Each}
use Rattle.ns_types.specs.State.Names.{ByName, Name, name_cmp, same_number}
use Rattle.ns_types.proofs.Tests.{not_Some, same_Some}
use Rattle.ns_types.proofs.Lists.{any_alike, filter_none, left_none, not_both, right_none}
use Rattle.ns_types.proofs.Tables.{any_row-none, each_row, filter-retain, get-map_rows, get-retain, none_of_any, tied}
use Rattle.ns_types.proofs.Named.{names, one_number}

pub no_entries : {A : Type 0} (xs : List A) → length xs ≡ 0 → xs ≡ []
no_entries [] e = refl
no_entries (x ∷ xs) e = absurd (omega arith)

-- what passes in a joined list passes in one of the two
pub any_append : {A : Type 0} (f : A → Bool) (xs ys : List A) → list_any f (xs ++ ys) ≡ true → (list_any f xs ≡ true) ⊎ (list_any f ys ≡ true)
any_append f [] ys e = inr e
any_append f (x ∷ xs) ys e = by (f x) e (any_append f xs ys)
  where
    by : (b : Bool) → (b || list_any f (xs ++ ys)) ≡ true → (list_any f (xs ++ ys) ≡ true → (list_any f xs ≡ true) ⊎ (list_any f ys ≡ true)) →
        ((b || list_any f xs) ≡ true) ⊎ (list_any f ys ≡ true)
    by true e later = inl refl
    by false e later = later e

pub each_fails : {A : Type 0} (p : A → Bool) (xs : List A) → list_any p xs ≡ false → Each (λ x. p x ≡ false) xs
each_fails p [] e = tt
each_fails p (x ∷ xs) e = (left_none (p x) _ e, each_fails p xs (right_none (p x) _ e))

filter_keys : {K X : Type 0} (p : K → Bool) (es : List (K × X)) → filter p (map (λ e. e.0) es) ≡ map (λ e. e.0) (filter (λ e. p e.0) es)
filter_keys p [] = refl
filter_keys p (e ∷ es) = elim (p e.0) as (λ b. cond b (e.0 ∷ filter p (map (λ e. e.0) es)) (filter p (map (λ e. e.0) es)) ≡ map (λ e. e.0)
    (cond b (e ∷ filter (λ e. p e.0) es) (filter (λ e. p e.0) es))) [
      | true ↦ ap (λ ks. e.0 ∷ ks) (filter_keys p es)
      | false ↦ filter_keys p es
    ]

-- ---- numbers

pub apart : (a b : ℕ) → a ≢ b → same_number a b ≡ false
apart a b other = by (same_number a b) refl
  where
    by : (b' : Bool) → same_number a b ≡ b' → b' ≡ false
    by true e = absurd (other (tied one_number a b e))
    by false e = refl

pub one_more : (n : ℕ) → same_number n (n + 1) ≡ false
one_more n = apart n (n + 1) (λ e. omega arith)

-- ---- tables

module _ {K : Type 0} {R : K → K → Ordering} (o : IsTotalOrder R) where
  pub turned : (a b : K) → eq_by_cmp R a b ≡ false → eq_by_cmp R b a ≡ false
  turned a b e = (eq_by_cmp_equiv o).symm b a ∙ e

module _ {K X : Type 0} (R : K → K → Ordering) where
  find_either : (q : K) (es fs : List (K × X)) → find R q (es ++ fs) ≡ option_or (find R q es) (find R q fs)
  find_either q [] fs = refl
  find_either q (e ∷ es) fs = elim (eq_by_cmp R q e.0) as
      (λ b. cond b (Some e.1) (find R q (es ++ fs)) ≡ option_or (cond b (Some e.1) (find R q es)) (find R q fs)) [
        | true ↦ refl
        | false ↦ find_either q es fs
      ]

module _ {K X : Type 0} {R : K → K → Ordering} (o : IsTotalOrder R) where
  -- of the rows of two tables those of the first come before
  pub get_joined : (m n : FinMap R X) (q : K) → get (from_entries {R = R} (entries m ++ entries n)) q ≡ option_or (get m q) (get n q)
  get_joined m n q = get-from_entries o (entries m ++ entries n) q ∙ find_either R q (entries m) (entries n) ∙
      (λ i. option_or (sym (get-entries m q) i) (sym (get-entries n q) i))

module _ {K X : Type 0} {R : K → K → Ordering} (o : IsTotalOrder R) (same : IsAntisymmetric R) where
  -- ---- one row is put

  pub get_put : (m : FinMap R X) (k : K) (v : X) → get (insert m k v) k ≡ Some v
  get_put m k v = get-insert o m k v k ∙ ap (λ r. cond (is_eq r) (Some v) (get m k)) (tied_itself o k)

  pub get_other : (m : FinMap R X) (k : K) (v : X) (q : K) → eq_by_cmp R q k ≡ false → get (insert m k v) q ≡ get m q
  get_other m k v q other = get-insert o m k v q ∙ ap (λ b. cond b (Some v) (get m q)) other

  -- a row of the table after it is the new one, or was there before
  pub row_of_insert : (m : FinMap R X) (k : K) (v : X) (q : K) (x : X) → get (insert m k v) q ≡ Some x → ((q ≡ k) × (v ≡ x)) ⊎ (get m q ≡ Some x)
  row_of_insert m k v q x is = by (eq_by_cmp R q k) refl (sym (get-insert o m k v q) ∙ is)
    where
      by : (b : Bool) → eq_by_cmp R q k ≡ b → cond b (Some v) (get m q) ≡ Some x → ((q ≡ k) × (v ≡ x)) ⊎ (get m q ≡ Some x)
      by true t e = inl (tied same q k t, same_Some v x e)
      by false t e = inr e

  -- a put takes no row away
  pub stays : (m : FinMap R X) (k : K) (v : X) (q : K) → is_some (get m q) ≡ true → is_some (get (insert m k v) q) ≡ true
  stays m k v q there = by (eq_by_cmp R q k) refl
    where
      by : (b : Bool) → eq_by_cmp R q k ≡ b → is_some (get (insert m k v) q) ≡ true
      by true t = ap is_some (ap (get (insert m k v)) (tied same q k t) ∙ get_put m k v)
      by false t = ap is_some (get_other m k v q t) ∙ there

  -- where a change leaves all rows of a table, of one with a new row it changes that row
  pub map_rows-put : (f : K → X → X) (m : FinMap R X) (k : K) (v : X) → ((q : K) (x : X) → get m q ≡ Some x → f q x ≡ x) →
      map_rows f (insert m k v) ≡ insert m k (f k v)
  map_rows-put f m k v idle = same_map o same _ _ (λ q. get-map_rows o same f (insert m k v) q ∙ by q (eq_by_cmp R q k) refl)
    where
      left : (q : K) (x : Option X) → get m q ≡ x → option_map (f q) x ≡ x
      left q None is = refl
      left q (Some x) is = ap Some (idle q x is)

      by : (q : K) (b : Bool) → eq_by_cmp R q k ≡ b → option_map (f q) (get (insert m k v) q) ≡ get (insert m k (f k v)) q
      by q true t = ap (λ j. option_map (f j) (get (insert m k v) j)) (tied same q k t) ∙ ap (option_map (f k)) (get_put m k v) ∙ sym (get_put m k (f k v)) ∙
          ap (get (insert m k (f k v))) (sym (tied same q k t))
      by q false t = ap (option_map (f q)) (get_other m k v q t) ∙ left q (get m q) refl ∙ sym (get_other m k (f k v) q t)

  -- ---- whether some row passes

  pub some_row : (f : K → X → Bool) (m : FinMap R X) (k : K) (x : X) → get m k ≡ Some x → f k x ≡ true → any_row f m ≡ true
  some_row f m k x is passes = by (any_row f m) refl
    where
      by : (b : Bool) → any_row f m ≡ b → b ≡ true
      by true e = refl
      by false e = not_both passes (none_of_any same f m k x e is)

  -- where no row passed before
  pub any_row-put : (f : K → X → Bool) (m : FinMap R X) (k : K) (v : X) → any_row f m ≡ false → any_row f (insert m k v) ≡ f k v
  any_row-put f m k v none = by (f k v) refl
    where
      row : f k v ≡ false → (q : K) (x : X) → get (insert m k v) q ≡ Some x → (b : Bool) → eq_by_cmp R q k ≡ b → f q x ≡ false
      row fails q x is true t = (λ i. f (tied same q k t i) (same_Some x v (sym is ∙ ap (get (insert m k v)) (tied same q k t) ∙ get_put m k v) i)) ∙ fails
      row fails q x is false t = none_of_any same f m q x none (sym (get_other m k v q t) ∙ is)

      by : (b : Bool) → f k v ≡ b → any_row f (insert m k v) ≡ b
      by true passes = some_row f (insert m k v) k v (get_put m k v) passes
      by false fails = any_row-none o same f (insert m k v) (λ q x is. row fails q x is (eq_by_cmp R q k) refl)

  pub any_row-empty : (f : K → X → Bool) → any_row f (empty {X = X} {R = R}) ≡ false
  any_row-empty f = any_row-none o same f empty (λ k x is. not_both refl (ap is_some (sym is ∙ get-empty R k)))

  pub any_row-alike : (f g : K → X → Bool) (m : FinMap R X) → ((k : K) (x : X) → get m k ≡ Some x → f k x ≡ g k x) → any_row f m ≡ any_row g m
  unfolding any_row
  any_row-alike f g m alike = any_alike (λ e. f e.0 e.1) (λ e. g e.0 e.1) (entries m) (each_row o same (λ k x. f k x ≡ g k x) m alike)

  -- ---- the rows that pass

  pub filter_no_row : (f : K → X → Bool) (m : FinMap R X) → ((k : K) (x : X) → get m k ≡ Some x → f k x ≡ false) → filter (λ e. f e.0 e.1) (entries m) ≡ []
  filter_no_row f m none = filter_none (λ e. f e.0 e.1) (entries m) (each_row o same (λ k x. f k x ≡ false) m none)

  pub entries_empty : entries (empty {X = X} {R = R}) ≡ []
  entries_empty = no_entries _ (sym (len-entries empty) ∙ len-empty R X)

  retain_one : (m : FinMap R X) (k : K) (x : X) → get m k ≡ Some x → retain_keys m (λ q. eq_by_cmp R q k) ≡ insert empty k x
  retain_one m k x is = same_map o same _ _ (λ q. get-retain o same m (λ q. eq_by_cmp R q k) q ∙ by q (eq_by_cmp R q k) refl ∙ sym (get-insert o empty k x q))
    where
      by : (q : K) (b : Bool) → eq_by_cmp R q k ≡ b → cond b (get m q) None ≡ cond b (Some x) (get (empty {X = X} {R = R}) q)
      by q true t = ap (get m) (tied same q k t) ∙ is
      by q false t = sym (get-empty R q)

  -- where no row at another key passes
  pub filter_one_row : (f : K → X → Bool) (m : FinMap R X) (k : K) (x : X) → get m k ≡ Some x
      → ((q : K) (y : X) → get m q ≡ Some y → eq_by_cmp R q k ≡ false → f q y ≡ false) → filter (λ e. f e.0 e.1) (entries m) ≡ cond (f k x) ((k, x) ∷ []) []
  filter_one_row f m k x is others = filter-retain o same f m (λ q. eq_by_cmp R q k) others
      ∙ ap (λ n. filter (λ e. f e.0 e.1) (entries n)) (retain_one m k x is)
      ∙ ap (filter (λ e. f e.0 e.1)) (entries-insert o empty k x ∙ ap (put R k x) entries_empty)

  -- the same of its keys
  pub filter_one_key : (p : K → Bool) (m : FinMap R X) (k : K) (x : X) → get m k ≡ Some x → ((q : K) → eq_by_cmp R q k ≡ false → p q ≡ false) →
      filter p (keys m) ≡ cond (p k) (k ∷ []) []
  filter_one_key p m k x is others = filter_keys p (entries m)
      ∙ ap (map (λ e. e.0)) (filter_one_row (λ q _. p q) m k x is (λ q y _ other. others q other))
      ∙ elim (p k) as (λ b. map (λ (e : K × X). e.0) (cond b ((k, x) ∷ []) []) ≡ cond b (k ∷ []) []) [ true ↦ refl | false ↦ refl ]

-- ---- a row is taken out

pub row_of_remove : {X : Type 0} (m : ByName X) (k q : Name) (x : X) → get (remove m k) q ≡ Some x → get m q ≡ Some x
row_of_remove {X = X} m k q x is = by (eq_by_cmp name_cmp q k) (sym (get-remove names m k q) ∙ is)
  where
    by : (b : Bool) → cond b None (get m q) ≡ Some x → get m q ≡ Some x
    by true is = absurd (not_Some _ is)
    by false is = is
