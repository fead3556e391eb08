-- What the functions of `specs/Tables.antt` answer, and that they go along with a choice of keys.
use Rattle.std.specs.Prelude.{◌≡◌, Bool, true, false, cond, not, T, List, [], ◌∷◌, map, Option, Some, None, ◌&&◌, ◌||◌, option_map, is_some, filter, flat_map}
use Rattle.std.specs.Prelude.{length, unwrap_or}
use Rattle.std.proofs.Common.{ℕ, ◌+◌, sum_by, add-zero, fold, refl, sym, ap, subst, ◌∙◌, Ordering, Less, Equal, Greater, is_eq, is_lt}
use Rattle.std.proofs.Math.Bool.{or_assoc}
use Rattle.std.proofs.lemmas.List.{length-map}
use Rattle.std.specs.List.{list_any}
use Rattle.std.specs.Ordering.{eq_by_cmp}
use Rattle.std.specs.Cmp.{IsTotalOrder, tied_itself}
use Rattle.std.specs.FinMap.{FinMap, IsAntisymmetric, empty, entries, entries_sorted, entries-from_sorted, same_map, get, get-empty, get-entries, get-insert}
use Rattle.std.specs.FinMap.{get-remove, get-retain_keys, insert, len, len-entries, remove, retain_keys}
use Rattle.std.specs.FinMap.Entries.{find, where_key, below_all, is_sorted, same_entries, is_sorted-where_key, find-where_key}
use Rattle.ns_types.specs.State.Tables.{map_rows, table_of, any_row}
use Rattle.ns_types.specs.State.Lists.{Each}
use Rattle.ns_types.proofs.Tests.{first, not_Some, or_none, second, some_mapped}
use Rattle.ns_types.proofs.Lists.{filter_inside, flat_map_inside, any_part, left_none, right_none}

pub equal_by : (r : Ordering) → is_eq r ≡ true → r ≡ Equal
equal_by Less p = absurd (subst T (sym p) tt)
equal_by Equal p = refl
equal_by Greater p = absurd (subst T (sym p) tt)

pub less_by : (r : Ordering) → T (is_lt r) → r ≡ Less
less_by Less p = refl
less_by Equal p = absurd p
less_by Greater p = absurd p

or_second : (a b c : Bool) → (a || (b || c)) ≡ (b || (a || c))
or_second true true c = refl
or_second true false c = refl
or_second false true c = refl
or_second false false c = refl

changed : {K X Y : Type 0} → (K → X → Y) → List (K × X) → List (K × Y)
changed f es = map (λ e. (e.0, f e.0 e.1)) es

module _ {K : Type 0} {R : K → K → Ordering} (same : IsAntisymmetric R) where
  pub tied : (q k : K) → eq_by_cmp R q k ≡ true → q ≡ k
  tied q k e = same q k (equal_by (R q k) e)

  alike : (p : K → Bool) (q x : K) → R q x ≡ Equal → p x ≡ p q
  alike p q x t = ap p (sym (same q x t))

module _ {K X Y : Type 0} (R : K → K → Ordering) where
  below-changed : (f : K → X → Y) (k : K) (es : List (K × X)) → below_all R k (changed f es) ≡ below_all R k es
  unfolding changed
  below-changed f k [] = refl
  below-changed f k (e ∷ es) = ap (λ b. is_lt (R k e.0) && b) (below-changed f k es)

  is_sorted-changed : (f : K → X → Y) (es : List (K × X)) → is_sorted R (changed f es) ≡ is_sorted R es
  unfolding changed
  is_sorted-changed f [] = refl
  is_sorted-changed f (e ∷ es) = λ i. below-changed f e.0 es i && is_sorted-changed f es i

module _ {K X : Type 0} {R : K → K → Ordering} where
  pub entries-table_of : {Y : Type 0} (f : K → X → Y) (m : FinMap R X) → entries (table_of f m) ≡ map (λ e. (e.0, f e.0 e.1)) (entries m)
  unfolding table_of changed
  entries-table_of f m = entries-from_sorted R (changed f (entries m)) (subst T (sym (is_sorted-changed R f (entries m))) (entries_sorted m))

  -- the same of a change of each row
  pub entries-map_rows : (f : K → X → X) (m : FinMap R X) → entries (map_rows f m) ≡ map (λ e. (e.0, f e.0 e.1)) (entries m)
  entries-map_rows f m = entries-table_of f m

module _ {K X : Type 0} {R : K → K → Ordering} (o : IsTotalOrder R) (same : IsAntisymmetric R) where
  find-changed : {Y : Type 0} (f : K → X → Y) (q : K) (es : List (K × X)) → find R q (changed f es) ≡ option_map (f q) (find R q es)
  unfolding changed
  find-changed f q [] = refl
  find-changed f q (e ∷ es) =
      elim (eq_by_cmp R q e.0) as (λ b. eq_by_cmp R q e.0 ≡ b →
      cond b (Some (f e.0 e.1)) (find R q (changed f es)) ≡ option_map (f q) (cond b (Some e.1) (find R q es))) [
        | true ↦ λ p. ap (λ k. Some (f k e.1)) (sym (tied same q e.0 p))
        | false ↦ λ p. find-changed f q es
      ] refl

  pub get-table_of : {Y : Type 0} (f : K → X → Y) (m : FinMap R X) (q : K) → get (table_of f m) q ≡ option_map (f q) (get m q)
  unfolding changed
  get-table_of f m q = get-entries (table_of f m) q ∙ ap (find R q) (entries-table_of f m) ∙ find-changed f q (entries m) ∙
      ap (option_map (f q)) (sym (get-entries m q))

  pub get-map_rows : (f : K → X → X) (m : FinMap R X) (q : K) → get (map_rows f m) q ≡ option_map (f q) (get m q)
  get-map_rows f m q = get-table_of f m q

  pub get-retain : (m : FinMap R X) (p : K → Bool) (q : K) → get (retain_keys m p) q ≡ cond (p q) (get m q) None
  get-retain m p q = get-retain_keys m p q (alike same p q)

  pub entries-retain : (m : FinMap R X) (p : K → Bool) → entries (retain_keys m p) ≡ where_key R p (entries m)
  entries-retain m p = same_entries R o same _ _ (entries_sorted (retain_keys m p)) (is_sorted-where_key R p (entries m) (entries_sorted m))
      (λ q. sym (get-entries (retain_keys m p) q) ∙ get-retain m p q ∙ ap (λ x. cond (p q) x None) (get-entries m q) ∙
      sym (find-where_key R p q (alike same p q) (entries m)))

  -- a choice of keys goes through an insertion: the row is chosen with its key, or it was never there
  retain_cases : (p a : Bool) (x y : Option X) → cond p (cond a x y) None ≡ cond a (cond p x None) (cond p y None)
  retain_cases true a x y = refl
  retain_cases false true x y = refl
  retain_cases false false x y = refl

  pub retain-insert : (m : FinMap R X) (p : K → Bool) (k : K) (v : X) →
      retain_keys (insert m k v) p ≡ cond (p k) (insert (retain_keys m p) k v) (retain_keys m p)
  retain-insert m p k v = same_map o same _ _ (λ q.
      get-retain (insert m k v) p q ∙ ap (λ x. cond (p q) x None) (get-insert o m k v q) ∙ retain_cases (p q) (eq_by_cmp R q k) (Some v) (get m q)
      ∙ (elim (eq_by_cmp R q k) as (λ b. eq_by_cmp R q k ≡ b →
      cond b (cond (p q) (Some v) None) (cond (p q) (get m q) None) ≡ get (cond (p k) (insert (retain_keys m p) k v) (retain_keys m p)) q) [
        | true ↦ λ t. ap (λ x. cond (p x) (Some v) None) (tied same q k t) ∙ at_key q t
        | false ↦ λ t. sym (get-retain m p q) ∙ elsewhere q t
      ] refl))
    where
      at_key : (q : K) → eq_by_cmp R q k ≡ true → cond (p k) (Some v) None ≡ get (cond (p k) (insert (retain_keys m p) k v) (retain_keys m p)) q
      at_key q t = elim (p k) as (λ b. p k ≡ b → cond b (Some v) None ≡ get (cond b (insert (retain_keys m p) k v) (retain_keys m p)) q) [
        | true ↦ λ _. sym (get-insert o (retain_keys m p) k v q ∙ ap (λ b. cond b (Some v) (get (retain_keys m p) q)) t)
        | false ↦ λ e. sym (get-retain m p q ∙ ap (λ b. cond b (get m q) None) (ap p (tied same q k t) ∙ e))
      ] refl

      elsewhere : (q : K) → eq_by_cmp R q k ≡ false → get (retain_keys m p) q ≡ get (cond (p k) (insert (retain_keys m p) k v) (retain_keys m p)) q
      elsewhere q t = elim (p k) as (λ b. get (retain_keys m p) q ≡ get (cond b (insert (retain_keys m p) k v) (retain_keys m p)) q) [
        | true ↦ sym (get-insert o (retain_keys m p) k v q ∙ ap (λ b. cond b (Some v) (get (retain_keys m p) q)) t)
        | false ↦ refl
      ]

  -- a choice of keys goes through a change of rows, if the chosen rows are changed alike
  pub retain-map_rows : (f g : K → X → X) (m : FinMap R X) (p : K → Bool) → ((k : K) (x : X) → p k ≡ true → get m k ≡ Some x → f k x ≡ g k x)
      → retain_keys (map_rows f m) p ≡ map_rows g (retain_keys m p)
  retain-map_rows f g m p alike_in = same_map o same _ _ (λ q.
      get-retain (map_rows f m) p q ∙ ap (λ x. cond (p q) x None) (get-map_rows f m q)
      ∙ (elim (p q) as (λ b. p q ≡ b → cond b (option_map (f q) (get m q)) None ≡ option_map (g q) (cond b (get m q) None)) [
        | true ↦ λ e. elim (get m q) as (λ x. get m q ≡ x → option_map (f q) x ≡ option_map (g q) x) [
          | Some x ↦ λ is. ap Some (alike_in q x e is)
          | None ↦ λ _. refl
        ] refl
        | false ↦ λ _. refl
      ] refl)
      ∙ ap (option_map (g q)) (sym (get-retain m p q)) ∙ sym (get-map_rows g (retain_keys m p) q))

  -- where each row is left, all is
  pub map_rows_idle : (f : K → X → X) (m : FinMap R X) → ((k : K) (x : X) → get m k ≡ Some x → f k x ≡ x) → map_rows f m ≡ m
  map_rows_idle f m idle = same_map o same _ _ (λ q. get-map_rows f m q
      ∙ elim (get m q) as (λ x. get m q ≡ x → option_map (f q) x ≡ x) [ Some x ↦ λ is. ap Some (idle q x is) | None ↦ λ _. refl ] refl)

  -- ---- what holds of each row

  below : (k : K) (es : List (K × X)) → T (below_all R k es) → find R k es ≡ None
  below k [] h = refl
  below k (e ∷ es) h = ap (λ r. cond (is_eq r) (Some e.1) (find R k es)) (less_by (R k e.0) (first _ _ h)) ∙ below k es (second _ _ h)

  each_entry : (P : K → X → Type 0) (es : List (K × X)) → T (is_sorted R es) → ((k : K) (x : X) → find R k es ≡ Some x → P k x) → Each (λ e. P e.0 e.1) es
  each_entry P [] sorted holds = tt
  each_entry P (e ∷ es) sorted holds = (
    holds e.0 e.1 (ap (λ r. cond (is_eq r) (Some e.1) (find R e.0 es)) (tied_itself o e.0)),
    each_entry P es (second _ _ sorted) (λ k x is. holds k x
        (elim (eq_by_cmp R k e.0) as (λ b. eq_by_cmp R k e.0 ≡ b → cond b (Some e.1) (find R k es) ≡ Some x) [
          | true ↦ λ t. absurd (not_Some x (sym (below e.0 es (first _ _ sorted)) ∙ ap (λ q. find R q es) (sym (tied same k e.0 t)) ∙ is))
          | false ↦ λ _. is
        ] refl)),
  )

  pub each_row : (P : K → X → Type 0) (m : FinMap R X) → ((k : K) (x : X) → get m k ≡ Some x → P k x) → Each (λ e. P e.0 e.1) (entries m)
  each_row P m holds = each_entry P (entries m) (entries_sorted m) (λ k x is. holds k x (get-entries m k ∙ is))

  any_chosen : (f g : K → X → Bool) (p : K → Bool) (es : List (K × X)) →
      Each (λ e. (p e.0 ≡ true → f e.0 e.1 ≡ g e.0 e.1) × (p e.0 ≡ false → f e.0 e.1 ≡ false)) es
      → list_any (λ e. f e.0 e.1) es ≡ list_any (λ e. g e.0 e.1) (where_key R p es)
  any_chosen f g p [] h = refl
  any_chosen f g p (e ∷ es) h = elim (p e.0) as (λ b. p e.0 ≡ b →
      (f e.0 e.1 || list_any (λ e. f e.0 e.1) es) ≡ list_any (λ e. g e.0 e.1) (cond b (e ∷ where_key R p es) (where_key R p es))) [
        | true ↦ λ t i. h.0.0 t i || any_chosen f g p es h.1 i
        | false ↦ λ t i. (h.0.1 t ∙ refl) i || any_chosen f g p es h.1 i
      ] refl

  -- a test that no row outside the choice passes asks the chosen rows alone
  pub any_row-retain : (f g : K → X → Bool) (m : FinMap R X) (p : K → Bool)
      → ((k : K) (x : X) → get m k ≡ Some x → (p k ≡ true → f k x ≡ g k x) × (p k ≡ false → f k x ≡ false))
      → any_row f m ≡ any_row g (retain_keys m p)
  unfolding any_row
  any_row-retain f g m p h = any_chosen f g p (entries m) (each_row _ m h) ∙ ap (list_any (λ e. g e.0 e.1)) (sym (entries-retain m p))

  none_passes : (f : K × X → Bool) (es : List (K × X)) → Each (λ e. f e ≡ false) es → list_any f es ≡ false
  none_passes f [] h = refl
  none_passes f (e ∷ es) h = ap (λ b. b || list_any f es) h.0 ∙ none_passes f es h.1

  pub any_row-none : (f : K → X → Bool) (m : FinMap R X) → ((k : K) (x : X) → get m k ≡ Some x → f k x ≡ false) → any_row f m ≡ false
  unfolding any_row
  any_row-none f m h = none_passes (λ e. f e.0 e.1) (entries m) (each_row _ m h)

  sum_chosen : (f : K × X → ℕ) (p : K → Bool) (n : ℕ) (es : List (K × X)) → Each (λ e. p e.0 ≡ false → f e ≡ 0) es →
      fold (λ a e. a + f e) n es ≡ fold (λ a e. a + f e) n (where_key R p es)
  sum_chosen f p n [] h = refl
  sum_chosen f p n (e ∷ es) h = elim (p e.0) as (λ b. p e.0 ≡ b →
      fold (λ a e. a + f e) (n + f e) es ≡ fold (λ a e. a + f e) n (cond b (e ∷ where_key R p es) (where_key R p es))) [
        | true ↦ λ t. sum_chosen f p (n + f e) es h.1
        | false ↦ λ t. ap (λ k. fold (λ a e. a + f e) k es) (ap (λ k. n + k) (h.0 t) ∙ add-zero n) ∙ sum_chosen f p n es h.1
      ] refl

  -- rows outside the choice that count nothing leave the sum to the chosen ones
  pub sum-retain : (f : K → X → ℕ) (m : FinMap R X) (p : K → Bool) → ((k : K) (x : X) → get m k ≡ Some x → p k ≡ false → f k x ≡ 0)
      → sum_by (λ e. f e.0 e.1) (entries m) ≡ sum_by (λ e. f e.0 e.1) (entries (retain_keys m p))
  sum-retain f m p h = sum_chosen (λ e. f e.0 e.1) p 0 (entries m) (each_row (λ k x. p k ≡ false → f k x ≡ 0) m h) ∙
      ap (sum_by (λ e. f e.0 e.1)) (sym (entries-retain m p))

  -- the same of the rows of a table
  pub filter-retain : (f : K → X → Bool) (m : FinMap R X) (p : K → Bool) → ((k : K) (x : X) → get m k ≡ Some x → p k ≡ false → f k x ≡ false)
      → filter (λ e. f e.0 e.1) (entries m) ≡ filter (λ e. f e.0 e.1) (entries (retain_keys m p))
  filter-retain f m p h = filter_inside (λ e. p e.0) (λ e. f e.0 e.1) (entries m) (each_row (λ k x. p k ≡ false → f k x ≡ false) m h) ∙
      ap (filter (λ e. f e.0 e.1)) (sym (entries-retain m p))

  pub flat_map-retain : {Y : Type 0} (f : K → X → List Y) (m : FinMap R X) (p : K → Bool) → ((k : K) (x : X) → get m k ≡ Some x → p k ≡ false → f k x ≡ [])
      → flat_map (λ e. f e.0 e.1) (entries m) ≡ flat_map (λ e. f e.0 e.1) (entries (retain_keys m p))
  flat_map-retain f m p h = flat_map_inside (λ e. p e.0) (λ e. f e.0 e.1) (entries m) (each_row (λ k x. p k ≡ false → f k x ≡ []) m h) ∙
      ap (flat_map (λ e. f e.0 e.1)) (sym (entries-retain m p))

  -- what no row does, no chosen row does
  pub any_row-retain-none : (f : K → X → Bool) (m : FinMap R X) (p : K → Bool) → any_row f m ≡ false → any_row f (retain_keys m p) ≡ false
  unfolding any_row
  any_row-retain-none f m p e = ap (list_any (λ e. f e.0 e.1)) (entries-retain m p) ∙ any_part (λ e. p e.0) (λ e. f e.0 e.1) (entries m) e

  -- a chosen row stands in the table, at a chosen key
  pub chosen : (m : FinMap R X) (p : K → Bool) (k : K) (x : X) → get (retain_keys m p) k ≡ Some x → (get m k ≡ Some x) × (p k ≡ true)
  chosen m p k x is = by (p k) refl (sym (get-retain m p k) ∙ is)
    where
      by : (b : Bool) → p k ≡ b → cond b (get m k) None ≡ Some x → (get m k ≡ Some x) × (p k ≡ true)
      by true own is = (is, own)
      by false other is = absurd (not_Some x is)

  split_any : (f : K × X → Bool) (p : K → Bool) (es : List (K × X)) →
      list_any f es ≡ (list_any f (where_key R p es) || list_any f (where_key R (λ k. not (p k)) es))
  split_any f p [] = refl
  split_any f p (e ∷ es) = ap (λ b. f e || b) (split_any f p es) ∙
      elim (p e.0) as (λ b. (f e || (list_any f (where_key R p es) || list_any f (where_key R (λ k. not (p k)) es)))
      ≡ (list_any f (cond b (e ∷ where_key R p es) (where_key R p es))
      || list_any f (cond (not b) (e ∷ where_key R (λ k. not (p k)) es) (where_key R (λ k. not (p k)) es)))) [
        | true ↦ sym (or_assoc (f e) _ _)
        | false ↦ or_second (f e) (list_any f (where_key R p es)) _
      ]

  -- what no row outside the choice does, some row does where a chosen one does
  pub any_row-chosen : (f : K → X → Bool) (m : FinMap R X) (p : K → Bool) → any_row f (retain_keys m (λ k. not (p k))) ≡ false →
      any_row f m ≡ any_row f (retain_keys m p)
  unfolding any_row
  any_row-chosen f m p e = split_any (λ e. f e.0 e.1) p (entries m) ∙
      (λ i. list_any (λ e. f e.0 e.1) (sym (entries-retain m p) i) || (ap (list_any (λ e. f e.0 e.1)) (sym (entries-retain m (λ k. not (p k)))) ∙ e) i) ∙
      or_none _

  pub insert_same : (m : FinMap R X) (k : K) (v : X) → get m k ≡ Some v → insert m k v ≡ m
  insert_same m k v is = same_map o same _ _ (λ q. get-insert o m k v q ∙
      elim (eq_by_cmp R q k) as (λ b. eq_by_cmp R q k ≡ b → cond b (Some v) (get m q) ≡ get m q) [
        | true ↦ λ t. sym is ∙ ap (get m) (sym (tied same q k t))
        | false ↦ λ _. refl
      ] refl)

-- ---- tables made of other tables

module _ {K X Y : Type 0} {R : K → K → Ordering} (o : IsTotalOrder R) (same : IsAntisymmetric R) where
  -- a row put into the one table is put into the other
  pub table_of-insert : (f : K → X → Y) (m : FinMap R X) (k : K) (v : X) → table_of f (insert m k v) ≡ insert (table_of f m) k (f k v)
  table_of-insert f m k v = same_map o same _ _ (λ q.
      get-table_of o same f (insert m k v) q ∙ ap (option_map (f q)) (get-insert o m k v q)
      ∙ (elim (eq_by_cmp R q k) as (λ b. eq_by_cmp R q k ≡ b → option_map (f q) (cond b (Some v) (get m q)) ≡ cond b (Some (f k v)) (get (table_of f m) q)) [
        | true ↦ λ t. ap (λ j. Some (f j v)) (tied same q k t)
        | false ↦ λ _. sym (get-table_of o same f m q)
      ] refl)
      ∙ sym (get-insert o (table_of f m) k (f k v) q))

  pub table_of-remove : (f : K → X → Y) (m : FinMap R X) (k : K) → table_of f (remove m k) ≡ remove (table_of f m) k
  table_of-remove f m k = same_map o same _ _ (λ q.
      get-table_of o same f (remove m k) q ∙ ap (option_map (f q)) (get-remove o m k q) ∙ either q (eq_by_cmp R q k) (get m q)
      ∙ ap (cond (eq_by_cmp R q k) None) (sym (get-table_of o same f m q)) ∙ sym (get-remove o (table_of f m) k q))
    where
      either : (q : K) (b : Bool) (x : Option X) → option_map (f q) (cond b None x) ≡ cond b None (option_map (f q) x)
      either q true x = refl
      either q false x = refl

  pub table_of-empty : (f : K → X → Y) → table_of f (empty {R = R}) ≡ empty {R = R}
  table_of-empty f = same_map o same _ _ (λ q. get-table_of o same f empty q ∙ ap (option_map (f q)) (get-empty R q) ∙ sym (get-empty R q))

  -- the keys are the same
  pub get_mapped : (f : K → X → Y) (m : FinMap R X) (q : K) → is_some (get (table_of f m) q) ≡ is_some (get m q)
  get_mapped f m q = ap is_some (get-table_of o same f m q) ∙ some_mapped (f q) (get m q)

module _ {K X Y : Type 0} {R : K → K → Ordering} (f : K → X → Y) where
  pub len-table_of : (m : FinMap R X) → len (table_of f m) ≡ len m
  len-table_of m = len-entries _ ∙ ap length (entries-table_of f m) ∙ length-map (entries m) _ ∙ sym (len-entries m)

-- what no row does, the row at a key does not
module _ {K X : Type 0} {R : K → K → Ordering} (same : IsAntisymmetric R) where
  none_found : (f : K → X → Bool) (k : K) (x : X) (es : List (K × X)) → list_any (λ e. f e.0 e.1) es ≡ false → find R k es ≡ Some x → f k x ≡ false
  none_found f k x [] none is = absurd (not_Some x is)
  none_found f k x (e ∷ es) none is = by (none_found f k x es (right_none (f e.0 e.1) _ none)) (eq_by_cmp R k e.0) refl is
    where
      by : (find R k es ≡ Some x → f k x ≡ false) → (b : Bool) → eq_by_cmp R k e.0 ≡ b → cond b (Some e.1) (find R k es) ≡ Some x → f k x ≡ false
      by later true t is = (λ i. f (tied same k e.0 t i) (sym (ap (λ o. unwrap_or o x) is) i)) ∙ left_none (f e.0 e.1) _ none
      by later false t is = later is

  pub none_of_any : (f : K → X → Bool) (m : FinMap R X) (k : K) (x : X) → any_row f m ≡ false → get m k ≡ Some x → f k x ≡ false
  unfolding any_row
  none_of_any f m k x none is = none_found f k x (entries m) none (sym (get-entries m k) ∙ is)
