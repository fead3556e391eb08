-- What stands in a table with changed rows over it, and that tests and choices of rows ask the changed rows alone.
use Rattle.std.specs.Prelude.{◌≡◌, Bool, true, false, cond, not, List, [], ◌∷◌, map, Option, Some, None, ◌&&◌, ◌||◌, option_map, is_some, filter}
use Rattle.std.specs.Prelude.{unwrap_or}
use Rattle.std.proofs.Common.{refl, sym, ap, ◌∙◌, Ordering}
use Rattle.std.specs.Option.{option_or, option_map_or}
use Rattle.std.specs.Ordering.{eq_by_cmp}
use Rattle.std.specs.Cmp.{IsTotalOrder}
use Rattle.std.specs.FinMap.{FinMap, IsAntisymmetric, entries, same_map, get, get-insert, get-remove, get-empty, insert, remove, empty, retain_keys}
use Rattle.std.specs.FinMap.{contains_key, keys}
use Rattle.keyed.specs.Table.{flat, rows, row_list}
use Rattle.keyed.proofs.Tables.{get-rows, entries-rows}
use Rattle.ns_types.specs.State.Tables.{map_rows, any_row, table_of}
use Rattle.ns_types.specs.State.Lists.{Each}
use Rattle.ns_types.proofs.Tables.{each_row, get-table_of, get-retain, entries-retain, entries-table_of, filter-retain, any_row-retain}
use Rattle.ns_types.proofs.Lists.{not_both, any_alike, each}
use Rattle.ns_types.proofs.TableRows.{get_joined}
use Rattle.std.specs.List.{list_any}
use Rattle.keyed.specs.Table.{at_slot}
use Rattle.keyed.proofs.Tables.{any-at_slot}
use Rattle.keyed.specs.Over.{over}
use Rattle.ns_types.proofs.Tests.{swap_or}

module _ {K X : Type 0} {R : K → K → Ordering} (o : IsTotalOrder R) (same : IsAntisymmetric R) where
  first_row : (a : Option (Option X)) (b : Option X) → flat (option_or a (option_map (λ x. Some x) b)) ≡ unwrap_or a b
  first_row None None = refl
  first_row None (Some x) = refl
  first_row (Some x) b = refl

  pub get-over : (m : FinMap R X) (c : FinMap R (Option X)) (q : K) → get (over m c) q ≡ unwrap_or (get c q) (get m q)
  unfolding over
  get-over m c q = get-rows o _ q ∙ ap flat (get_joined o c (table_of (λ _ x. Some x) m) q)
      ∙ ap (λ r. flat (option_or (get c q) r)) (get-table_of o same (λ _ x. Some x) m q) ∙ first_row (get c q) (get m q)

  pub over-empty : (m : FinMap R X) → over m empty ≡ m
  over-empty m = same_map o same _ _ (λ q. get-over m empty q ∙ ap (λ r. unwrap_or r (get m q)) (get-empty R q))

  put_cases : (b : Bool) (v a r : Option X) (x : Option (Option X)) → unwrap_or (cond b (Some v) x) a ≡ cond b v (unwrap_or x a)
  put_cases true v a r x = refl
  put_cases false v a r x = refl

  -- a row put into the change is put into the table
  pub over-put : (m : FinMap R X) (c : FinMap R (Option X)) (k : K) (v : X) → over m (insert c k (Some v)) ≡ insert (over m c) k v
  over-put m c k v = same_map o same _ _ (λ q. get-over m _ q ∙ ap (λ r. unwrap_or r (get m q)) (get-insert o c k (Some v) q)
      ∙ put_cases (eq_by_cmp R q k) (Some v) (get m q) None (get c q) ∙ ap (cond (eq_by_cmp R q k) (Some v)) (sym (get-over m c q)) ∙
      sym (get-insert o (over m c) k v q))

  -- a vacant slot takes the row out
  pub over-gone : (m : FinMap R X) (c : FinMap R (Option X)) (k : K) → over m (insert c k None) ≡ remove (over m c) k
  over-gone m c k = same_map o same _ _ (λ q. get-over m _ q ∙ ap (λ r. unwrap_or r (get m q)) (get-insert o c k None q)
      ∙ put_cases (eq_by_cmp R q k) None (get m q) None (get c q) ∙ ap (cond (eq_by_cmp R q k) None) (sym (get-over m c q)) ∙ sym (get-remove o (over m c) k q))

  -- a row of the table that the change does not hold stays
  pub over_apart : (m : FinMap R X) (c : FinMap R (Option X)) (q : K) → contains_key c q ≡ false → get (over m c) q ≡ get m q
  over_apart m c q e = get-over m c q ∙ by (get c q) e
    where
      by : (r : Option (Option X)) → is_some r ≡ false → unwrap_or r (get m q) ≡ get m q
      by None e = refl
      by (Some x) e = not_both refl e

  -- ---- a change of each row

  pub map_rows-over : (f : K → X → X) (m : FinMap R X) (c : FinMap R (Option X)) → ((k : K) (x : X) → get m k ≡ Some x → contains_key c k ≡ false → f k x ≡ x)
      → map_rows f (over m c) ≡ over m (map_rows (λ k r. option_map (f k) r) c)
  map_rows-over f m c idle = same_map o same _ _ (λ q. get-table_of o same f (over m c) q ∙ ap (option_map (f q)) (get-over m c q)
      ∙ by q (get c q) refl (get m q) refl
      ∙ ap (λ r. unwrap_or r (get m q)) (sym (get-table_of o same (λ k r. option_map (f k) r) c q)) ∙ sym (get-over m _ q))
    where
      by : (q : K) (r : Option (Option X)) → get c q ≡ r → (a : Option X) → get m q ≡ a →
          option_map (f q) (unwrap_or r a) ≡ unwrap_or (option_map (λ r. option_map (f q) r) r) a
      by q None is None at = refl
      by q None is (Some x) at = ap Some (idle q x at (ap is_some is))
      by q (Some r) is a at = refl

  -- ---- tests

  pub retain-over : (m : FinMap R X) (c : FinMap R (Option X)) → retain_keys (over m c) (contains_key c) ≡ rows c
  retain-over m c = same_map o same _ _ (λ q. get-retain o same (over m c) (contains_key c) q ∙ ap (λ r. cond (contains_key c q) r None) (get-over m c q)
      ∙ by (get c q) (get m q) ∙ sym (get-rows o c q))
    where
      by : (r : Option (Option X)) (a : Option X) → cond (is_some r) (unwrap_or r a) None ≡ flat r
      by None a = refl
      by (Some r) a = refl

  -- what no row of the table does, but for those that the change holds
  abbrev pub IsIdle : (K → X → Bool) → FinMap R X → FinMap R (Option X) → Type 0
  IsIdle f m c = (k : K) (x : X) → get m k ≡ Some x → contains_key c k ≡ false → f k x ≡ false

  at_over : (f : K → X → Bool) (m : FinMap R X) (c : FinMap R (Option X)) → IsIdle f m c → (k : K) (x : X) → get (over m c) k ≡ Some x →
      contains_key c k ≡ false → f k x ≡ false
  at_over f m c idle k x is e = idle k x (sym (over_apart m c k e) ∙ is) e

  -- the rows that pass are changed ones
  pub filter-over : (f : K → X → Bool) (m : FinMap R X) (c : FinMap R (Option X)) → IsIdle f m c →
      filter (λ e. f e.0 e.1) (entries (over m c)) ≡ filter (λ e. f e.0 e.1) (row_list (entries c))
  filter-over f m c idle = filter-retain o same f (over m c) (contains_key c) (at_over f m c idle)
      ∙ ap (λ n. filter (λ e. f e.0 e.1) (entries n)) (retain-over m c) ∙ ap (filter (λ e. f e.0 e.1)) (entries-rows c)

  pub any_row-over : (f : K → X → Bool) (m : FinMap R X) (c : FinMap R (Option X)) → IsIdle f m c →
      any_row f (over m c) ≡ list_any (at_slot (λ e. f e.0 e.1)) (entries c)
  unfolding any_row
  any_row-over f m c idle = any_row-retain o same f f (over m c) (contains_key c) (λ k x is. ((λ _. refl), at_over f m c idle k x is))
      ∙ ap (any_row f) (retain-over m c) ∙ ap (list_any (λ e. f e.0 e.1)) (entries-rows c) ∙ sym (any-at_slot R (λ e. f e.0 e.1) (entries c))

-- ---- the rows before, at the keys of the change

module _ {K X : Type 0} where
  -- a row that was there passes
  abbrev pub passed : (K → X → Bool) → (K → Option X) → K → Bool
  passed f look k = option_map_or (f k) (look k) false

  pub any_looked : {C : Type 0} (f : K → X → Bool) (look : K → Option X) (es : List (K × C)) →
      list_any (at_slot (λ e. f e.0 e.1)) (map (λ e. (e.0, look e.0)) es) ≡ list_any (λ e. passed f look e.0) es
  any_looked f look [] = refl
  any_looked f look (e ∷ es) = λ i. by (look e.0) i || any_looked f look es i
    where
      by : (r : Option X) → at_slot (λ e. f e.0 e.1) (e.0, r) ≡ option_map_or (f e.0) r false
      by None = refl
      by (Some x) = refl

module _ {K X C : Type 0} {R : K → K → Ordering} (o : IsTotalOrder R) (same : IsAntisymmetric R) where
  before : FinMap R X → FinMap R C → FinMap R X
  before m c = rows (table_of (λ k _. get m k) c)

  retain-before : (m : FinMap R X) (c : FinMap R C) → retain_keys m (contains_key c) ≡ before m c
  unfolding before
  retain-before m c = same_map o same _ _ (λ q. get-retain o same m (contains_key c) q ∙ by q (get c q)
      ∙ ap flat (sym (get-table_of o same (λ k _. get m k) c q)) ∙ sym (get-rows o _ q))
    where
      by : (q : K) (r : Option C) → cond (is_some r) (get m q) None ≡ flat (option_map (λ _. get m q) r)
      by q None = refl
      by q (Some r) = refl

  -- whether a row before the change passes
  pub any_row-before : (f : K → X → Bool) (m : FinMap R X) (c : FinMap R C) → ((k : K) (x : X) → get m k ≡ Some x → contains_key c k ≡ false → f k x ≡ false)
      → any_row f m ≡ list_any (λ e. passed f (get m) e.0) (entries c)
  unfolding any_row before
  any_row-before f m c idle = any_row-retain o same f f m (contains_key c) (λ k x is. ((λ _. refl), idle k x is))
      ∙ ap (any_row f) (retain-before m c) ∙ ap (list_any (λ e. f e.0 e.1)) (entries-rows (table_of (λ k _. get m k) c)) ∙
      sym (any-at_slot R (λ e. f e.0 e.1) (entries (table_of (λ k _. get m k) c)))
      ∙ ap (list_any (at_slot (λ e. f e.0 e.1))) (entries-table_of (λ k _. get m k) c) ∙ any_looked f (get m) (entries c)

-- ---- keys

module _ {K X Y : Type 0} where
  keys_left : (f : K → X → Y) (es : List (K × X)) → map (λ (e : K × Y). e.0) (map (λ (e : K × X). (e.0, f e.0 e.1)) es) ≡ map (λ e. e.0) es
  keys_left f [] = refl
  keys_left f (e ∷ es) = ap (λ ks. e.0 ∷ ks) (keys_left f es)

module _ {K X : Type 0} where
  filter_keys : (p : K → Bool) (es : List (K × X)) → filter p (map (λ e. e.0) es) ≡ map (λ e. e.0) (filter (λ e. p e.0) es)
  filter_keys p [] = refl
  filter_keys p (e ∷ es) = elim (p e.0) as (λ b. cond b (e.0 ∷ filter p (map (λ e. e.0) es)) (filter p (map (λ e. e.0) es)) ≡ map (λ e. e.0)
      (cond b (e ∷ filter (λ e. p e.0) es) (filter (λ e. p e.0) es))) [
        | true ↦ ap (λ ks. e.0 ∷ ks) (filter_keys p es)
        | false ↦ filter_keys p es
      ]

module _ {K X : Type 0} {R : K → K → Ordering} (o : IsTotalOrder R) (same : IsAntisymmetric R) where
  marks : (m : FinMap R X) → keys (table_of (λ _ _. true) m) ≡ keys m
  marks m = ap (map (λ e. e.0)) (entries-table_of (λ _ _. true) m) ∙ keys_left (λ _ _. true) (entries m)

  marked : (m : FinMap R X) (q : K) → get (table_of (λ _ _. true) m) q ≡ cond (contains_key m q) (Some true) None
  marked m q = get-table_of o same (λ _ _. true) m q ∙ by (get m q)
    where
      by : (r : Option X) → option_map (λ _. true) r ≡ cond (is_some r) (Some true) None
      by None = refl
      by (Some x) = refl

  chosen_keys : (p : K → Bool) (m : FinMap R X) → filter p (keys m) ≡ keys (retain_keys m p)
  chosen_keys p m = filter_keys p (entries m) ∙ ap (map (λ e. e.0)) (sym (entries-retain o same m p))

module _ {K X Y : Type 0} {R : K → K → Ordering} (o : IsTotalOrder R) (same : IsAntisymmetric R) where
  -- tables with rows at the same keys have the same keys in order
  pub same_keys : (m : FinMap R X) (n : FinMap R Y) → ((q : K) → contains_key m q ≡ contains_key n q) → keys m ≡ keys n
  same_keys m n e = sym (marks o same m) ∙ ap (λ t. map (λ e. e.0) (entries t)) (same_map o same (table_of (λ _ _. true) m) (table_of (λ _ _. true) n)
      (λ q. marked o same m q ∙ ap (λ b. cond b (Some true) None) (e q) ∙ sym (marked o same n q))) ∙ marks o same n

  -- the keys that pass are the same, where both tables have those
  pub same_chosen : (p : K → Bool) (m : FinMap R X) (n : FinMap R Y) → ((q : K) → p q ≡ true → contains_key m q ≡ contains_key n q) →
      filter p (keys m) ≡ filter p (keys n)
  same_chosen p m n e = chosen_keys o same p m ∙ same_keys (retain_keys m p) (retain_keys n p)
      (λ q. ap is_some (get-retain o same m p q) ∙ by q (p q) refl ∙ ap is_some (sym (get-retain o same n p q))) ∙ sym (chosen_keys o same p n)
    where
      by : (q : K) (b : Bool) → p q ≡ b → is_some (cond b (get m q) None) ≡ is_some (cond b (get n q) None)
      by q true t = e q t
      by q false t = refl

-- ---- any test

or_cases : (b f : Bool) → f ≡ ((b && f) || (not b && f))
or_cases true true = refl
or_cases true false = refl
or_cases false f = refl

pub any_both : {A : Type 0} (f g : A → Bool) (xs : List A) → list_any (λ x. f x || g x) xs ≡ (list_any f xs || list_any g xs)
any_both f g [] = refl
any_both f g (x ∷ xs) = ap (λ b. (f x || g x) || b) (any_both f g xs) ∙ swap_or (f x) (g x) (list_any f xs) (list_any g xs)

module _ {K X : Type 0} {R : K → K → Ordering} (o : IsTotalOrder R) (same : IsAntisymmetric R) (f : K → X → Bool) (c : FinMap R (Option X)) where
  abbrev inside : K → X → Bool
  inside k x = contains_key c k && f k x

  abbrev outside : K → X → Bool
  outside k x = not (contains_key c k) && f k x

  kept_rows : (m : FinMap R X) → retain_keys (over m c) (λ k. not (contains_key c k)) ≡ retain_keys m (λ k. not (contains_key c k))
  kept_rows m = same_map o same _ _ (λ q. get-retain o same (over m c) _ q ∙ by q (contains_key c q) refl ∙ sym (get-retain o same m _ q))
    where
      by : (q : K) (b : Bool) → contains_key c q ≡ b → cond (not b) (get (over m c) q) None ≡ cond (not b) (get m q) None
      by q true e = refl
      by q false e = over_apart o same m c q e

  only_outside : (m : FinMap R X) → any_row outside m ≡ any_row outside (retain_keys m (λ k. not (contains_key c k)))
  only_outside m = any_row-retain o same outside outside m (λ k. not (contains_key c k)) (λ k x _. ((λ _. refl), λ e. ap (λ b. b && f k x) e))

  here : (es : List (K × Option X)) → Each (λ e. contains_key c e.0 ≡ true) es →
      list_any (at_slot (λ e. inside e.0 e.1)) es ≡ list_any (at_slot (λ e. f e.0 e.1)) es
  here [] h = refl
  here ((k, None) ∷ es) h = here es h.1
  here ((k, Some x) ∷ es) h = λ i. (h.0 i && f k x) || here es h.1 i

  -- whether a row passes: a changed one, or one that the change does not hold
  pub any_row-both : (m : FinMap R X) → any_row f (over m c) ≡ (list_any (at_slot (λ e. f e.0 e.1)) (entries c) || any_row outside m)
  unfolding any_row
  any_row-both m = any_alike (λ e. f e.0 e.1) (λ e. inside e.0 e.1 || outside e.0 e.1) (entries (over m c))
      (each _ (λ e. or_cases (contains_key c e.0) (f e.0 e.1)) (entries (over m c)))
      ∙ any_both (λ e. inside e.0 e.1) (λ e. outside e.0 e.1) (entries (over m c))
      ∙ (λ i. (any_row-over o same inside m c (λ k x _ e. ap (λ b. b && f k x) e) ∙
      here (entries c) (each_row o same (λ k _. contains_key c k ≡ true) c (λ k x is. ap is_some is))) i
      || (only_outside (over m c) ∙ ap (any_row outside) (kept_rows m) ∙ sym (only_outside m)) i)
