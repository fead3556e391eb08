-- Laws of tables: what a write, a new slot or a slot that goes makes of the slots and of the rows.
use Rattle.std.specs.Prelude.{◌≡◌, IsTrue, Bool, true, false, cond, not, ◌||◌, T, List, [], ◌∷◌, map, length, is_some, Option, Some, None, refl}
use Rattle.std.proofs.Common.{ap, sym, ◌∙◌, subst}
use Rattle.std.specs.declared.cmp.Ordering.{Ordering}
use Rattle.std.specs.declared.cmp.Ordering.TheVariants.{Less, Equal, Greater}
use Rattle.std.specs.Ordering.{eq_by_cmp, is_eq}
use Rattle.std.specs.Cmp.{IsTotalOrder, tied_itself, alike_right, eq_by_cmp_equiv}
use Rattle.std.specs.List.{filter, list_any}
use Rattle.std.specs.FinMap.{IsAntisymmetric, FinMap, entries, get, insert, from_sorted, empty, empty_of_len, len, len-entries, entries_sorted}
use Rattle.std.specs.FinMap.{entries-from_sorted, entries-insert, get-entries, get-insert, get-from_sorted, get-remove, remove, same_map, same_entries_map}
use Rattle.std.specs.FinMap.Entries.{find, put, is_sorted, below_all, is_sorted-put, find-where_key}
use Rattle.keyed.specs.Table.{flat, with_row, row_list, at_slot, rows, with_slot, emptied, without_vacant, added, has_slot, row_at}
use Rattle.keyed.specs.Slots.{without}
use Rattle.ns_types.proofs.Tests.{first, second, both}
use Rattle.keyed.proofs.Ordered.{absent, below_tied, below-filter, is_sorted-filter}

-- ---- the rows of slots
module _ {K V : Type 0} (R : K → K → Ordering) where
  below-row_list : (k : K) (es : List (K × Option V)) → T (below_all R k es) → T (below_all R k (row_list es))
  below-row_list k [] h = tt
  below-row_list k (e ∷ es) h =
      let rest = below-row_list k es (second _ _ h) in
      elim e.1 as (λ x. T (below_all R k (with_row e.0 x (row_list es)))) [ None ↦ rest | Some v ↦ both _ _ (first _ _ h) rest ]

  pub is_sorted-row_list : (es : List (K × Option V)) → T (is_sorted R es) → T (is_sorted R (row_list es))
  is_sorted-row_list [] h = tt
  is_sorted-row_list (e ∷ es) h =
      let rest = is_sorted-row_list es (second _ _ h) in
      elim e.1 as (λ x. T (is_sorted R (with_row e.0 x (row_list es)))) [ None ↦ rest | Some v ↦ both _ _ (below-row_list e.0 es (first _ _ h)) rest ]

  pub find-row_list : IsTotalOrder R → (k : K) (es : List (K × Option V)) → T (is_sorted R es) → find R k (row_list es) ≡ flat (find R k es)
  find-row_list o k [] s = refl
  find-row_list o k (e ∷ es) s =
      let rest = find-row_list o k es (second _ _ s) in
      elim (R k e.0) as (λ r. R k e.0 ≡ r → find R k (with_row e.0 e.1 (row_list es)) ≡ flat (cond (is_eq r) (Some e.1) (find R k es))) [
        | Less ↦ λ t. passed e es Less t refl rest
        | Equal ↦ λ t. elim e.1 as (λ x. find R k (with_row e.0 x (row_list es)) ≡ x) [
          | None ↦ (absent R o k _ (below-row_list k es (below_tied R o k e.0 es t (first _ _ s)))).0
          | Some v ↦ ap (λ r. cond (is_eq r) (Some v) (find R k (row_list es))) t
        ]
        | Greater ↦ λ t. passed e es Greater t refl rest
      ] refl
    where
      passed : (e : K × Option V) (es : List (K × Option V)) (r : Ordering) → R k e.0 ≡ r → is_eq r ≡ false → find R k (row_list es) ≡ flat (find R k es) →
          find R k (with_row e.0 e.1 (row_list es)) ≡ flat (find R k es)
      passed e es r t apart rest = elim e.1 as (λ x. find R k (with_row e.0 x (row_list es)) ≡ flat (find R k es)) [
        | None ↦ rest
        | Some v ↦ ap (λ b. cond b (Some v) (find R k (row_list es))) (ap is_eq t ∙ apart) ∙ rest
      ]

  -- what a scan of the slots collects is what a scan of the rows does
  pub map-at_slot : {Y : Type 0} (p : K × V → Bool) (f : K → Y) (es : List (K × Option V)) →
      map (λ e. f e.0) (filter (at_slot p) es) ≡ map (λ e. f e.0) (filter p (row_list es))
  map-at_slot p f [] = refl
  map-at_slot p f ((k, None) ∷ es) = map-at_slot p f es
  map-at_slot p f ((k, Some v) ∷ es) =
      elim (p (k, v)) as (λ b. map (λ e. f e.0) (cond b ((k, Some v) ∷ filter (at_slot p) es) (filter (at_slot p) es)) ≡ map (λ e. f e.0)
      (cond b ((k, v) ∷ filter p (row_list es)) (filter p (row_list es)))) [
        | true ↦ ap (λ ys. f k ∷ ys) (map-at_slot p f es)
        | false ↦ map-at_slot p f es
      ]

  pub any-at_slot : (p : K × V → Bool) (es : List (K × Option V)) → list_any (at_slot p) es ≡ list_any p (row_list es)
  any-at_slot p [] = refl
  any-at_slot p ((k, None) ∷ es) = any-at_slot p es
  any-at_slot p ((k, Some v) ∷ es) = ap (λ b. p (k, v) || b) (any-at_slot p es)

  pub filled_rows : (es : List (K × Option V)) → row_list (filter (λ e. is_some e.1) es) ≡ row_list es
  filled_rows [] = refl
  filled_rows ((k, None) ∷ es) = filled_rows es
  filled_rows ((k, Some v) ∷ es) = ap (λ fs. (k, v) ∷ fs) (filled_rows es)

  -- of the slots those with a row are left
  find-filled : IsTotalOrder R → (k : K) (es : List (K × Option V)) → T (is_sorted R es) →
      is_some (find R k (filter (λ e. is_some e.1) es)) ≡ is_some (flat (find R k es))
  find-filled o k [] s = refl
  find-filled o k (e ∷ es) s =
      let rest = find-filled o k es (second _ _ s) in
      elim (R k e.0) as (λ r. R k e.0 ≡ r → is_some (find R k (cond (is_some e.1) (e ∷ filter (λ e. is_some e.1) es) (filter (λ e. is_some e.1) es))) ≡ is_some
      (flat (cond (is_eq r) (Some e.1) (find R k es)))) [
        | Less ↦ λ t. passed e es Less t refl rest
        | Equal ↦ λ t. here e es t (below-filter R (λ e. is_some e.1) k es (below_tied R o k e.0 es t (first _ _ s)))
        | Greater ↦ λ t. passed e es Greater t refl rest
      ] refl
    where
      passed : (e : K × Option V) (es : List (K × Option V)) (r : Ordering) → R k e.0 ≡ r → is_eq r ≡ false →
          is_some (find R k (filter (λ e. is_some e.1) es)) ≡ is_some (flat (find R k es))
          → is_some (find R k (cond (is_some e.1) (e ∷ filter (λ e. is_some e.1) es) (filter (λ e. is_some e.1) es))) ≡ is_some (flat (find R k es))
      passed e es r t apart rest = elim (is_some e.1) as
          (λ b. is_some (find R k (cond b (e ∷ filter (λ e. is_some e.1) es) (filter (λ e. is_some e.1) es))) ≡ is_some (flat (find R k es))) [
            | true ↦ ap (λ b. is_some (cond b (Some e.1) (find R k (filter (λ e. is_some e.1) es)))) (ap is_eq t ∙ apart) ∙ rest
            | false ↦ rest
          ]

      here : (e : K × Option V) (es : List (K × Option V)) → R k e.0 ≡ Equal → T (below_all R k (filter (λ e. is_some e.1) es))
          → is_some (find R k (cond (is_some e.1) (e ∷ filter (λ e. is_some e.1) es) (filter (λ e. is_some e.1) es))) ≡ is_some e.1
      here (q, None) es t below = ap is_some (absent R o k _ below).0
      here (q, Some v) es t below = ap (λ r. is_some (cond (is_eq r) (Some (Some v)) (find R k (filter (λ e. is_some e.1) es)))) t

-- ---- tables
covered : {A : Type 0} (b : Bool) (x y z : A) → cond b x (cond b y z) ≡ cond b x z
covered true x y z = refl
covered false x y z = refl

module _ {K V : Type 0} {R : K → K → Ordering} where
  pub entries-rows : (m : FinMap R (Option V)) → entries (rows m) ≡ row_list (entries m)
  unfolding rows
  entries-rows m = entries-from_sorted R _ (is_sorted-row_list R _ (entries_sorted m))

  pub rows-from_sorted : (es : List (K × Option V)) → T (is_sorted R es) → rows (from_sorted {R = R} es) ≡ from_sorted (row_list es)
  unfolding rows
  rows-from_sorted es s = ap (λ fs. from_sorted (row_list fs)) (entries-from_sorted R es s)

  -- the empty slots make no row
  pub rows-filled : (es : List (K × Option V)) → T (is_sorted R es) → rows (from_sorted {R = R} (filter (λ e. is_some e.1) es)) ≡ rows (from_sorted es)
  rows-filled es s =
      rows-from_sorted _ (is_sorted-filter R (λ e. is_some e.1) es s) ∙ ap from_sorted (filled_rows R es) ∙ sym (rows-from_sorted es s)

module _ {K V : Type 0} {R : K → K → Ordering} (o : IsTotalOrder R) where
  pub get-rows : (m : FinMap R (Option V)) (k : K) → get (rows m) k ≡ row_at m k
  get-rows m k = get-entries _ k ∙ ap (find R k) (entries-rows m) ∙ find-row_list R o k _ (entries_sorted m) ∙ sym (ap flat (get-entries m k))

  -- to write a row is to insert it
  pub rows-set : IsAntisymmetric R → (m : FinMap R (Option V)) (k : K) (v : V) → rows (insert m k (Some v)) ≡ insert (rows m) k v
  rows-set same m k v = same_map o same _ _ (λ q.
      get-rows _ q ∙ ap flat (get-insert o m k (Some v) q) ∙ pushed (eq_by_cmp R q k) (Some (Some v)) (get m q)
      ∙ ap (cond (eq_by_cmp R q k) (Some v)) (sym (get-rows m q)) ∙ sym (get-insert o (rows m) k v q))
    where
      pushed : (b : Bool) (x y : Option (Option V)) → flat (cond b x y) ≡ cond b (flat x) (flat y)
      pushed true x y = refl
      pushed false x y = refl

  -- a vacant slot is no row
  pub rows-with_slot : IsAntisymmetric R → (m : FinMap R (Option V)) (k : K) → rows (with_slot m k) ≡ rows m
  rows-with_slot same m k =
      elim (get m k) as (λ x. get m k ≡ x → rows (cond (is_some x) m (insert m k None)) ≡ rows m) [
        | Some x ↦ λ _. refl
        | None ↦ λ none. same_map o same _ _ (λ q.
            get-rows _ q ∙ ap flat (get-insert o m k None q)
            ∙ elim (R q k) as (λ r. R q k ≡ r → flat (cond (is_eq r) (Some None) (get m q)) ≡ flat (get m q)) [
              | Less ↦ λ _. refl
              | Equal ↦ λ t. ap flat (sym (ap (get m) (same q k t) ∙ none))
              | Greater ↦ λ _. refl
            ] refl
            ∙ sym (get-rows m q))
      ] refl

  without_one : (b : Bool) (y : Option (Option V)) → flat (cond b None y) ≡ cond b None (flat y)
  without_one true y = refl
  without_one false y = refl

  vacant_one : (b : Bool) (y : Option (Option V)) → flat (cond b (Some None) y) ≡ cond b None (flat y)
  vacant_one true y = refl
  vacant_one false y = refl

  -- to take a slot out is to take its row out
  pub rows-remove : IsAntisymmetric R → (m : FinMap R (Option V)) (k : K) → rows (remove m k) ≡ remove (rows m) k
  rows-remove same m k = same_map o same _ _ (λ q.
      get-rows _ q ∙ ap flat (get-remove o m k q) ∙ without_one (eq_by_cmp R q k) (get m q)
      ∙ ap (cond (eq_by_cmp R q k) None) (sym (get-rows m q)) ∙ sym (get-remove o (rows m) k q))

  -- where there is no row, nothing goes
  rows_absent : IsAntisymmetric R → (m : FinMap R (Option V)) (k : K) → row_at m k ≡ None → remove (rows m) k ≡ rows m
  rows_absent same m k none = same_map o same _ _ (λ q.
      get-remove o (rows m) k q
      ∙ elim (R q k) as (λ r. R q k ≡ r → cond (is_eq r) None (get (rows m) q) ≡ get (rows m) q) [
        | Less ↦ λ _. refl
        | Equal ↦ λ t. sym (get-rows m q ∙ ap (row_at m) (same q k t) ∙ none)
        | Greater ↦ λ _. refl
      ] refl)

  pub rows-without_vacant : IsAntisymmetric R → (m : FinMap R (Option V)) (k : K) → rows (without_vacant m k) ≡ rows m
  rows-without_vacant same m k =
      elim (row_at m k) as (λ x. row_at m k ≡ x → rows (cond (is_some x) m (remove m k)) ≡ rows m) [
        | Some x ↦ λ _. refl
        | None ↦ λ none. rows-remove same m k ∙ rows_absent same m k none
      ] refl

  -- a row that is taken is no row of the table
  pub rows-emptied : IsAntisymmetric R → (m : FinMap R (Option V)) (k : K) → rows (emptied m k) ≡ remove (rows m) k
  rows-emptied same m k =
      elim (get m k) as (λ x. get m k ≡ x → rows (cond (is_some x) (insert m k None) m) ≡ remove (rows m) k) [
        | Some x ↦ λ _. same_map o same _ _ (λ q.
            get-rows _ q ∙ ap flat (get-insert o m k None q) ∙ vacant_one (eq_by_cmp R q k) (get m q)
            ∙ ap (cond (eq_by_cmp R q k) None) (sym (get-rows m q)) ∙ sym (get-remove o (rows m) k q))
        | None ↦ λ none. sym (rows_absent same m k (ap flat none))
      ] refl

  -- a row that is taken and set again is written
  pub insert-emptied : IsAntisymmetric R → (m : FinMap R (Option V)) (k : K) (x : Option V) → insert (emptied m k) k x ≡ insert m k x
  insert-emptied same m k x =
      elim (has_slot m k) as (λ b. insert (cond b (insert m k None) m) k x ≡ insert m k x) [
        | true ↦ same_map o same _ _ (λ q.
            get-insert o (insert m k None) k x q ∙ ap (cond (eq_by_cmp R q k) (Some x)) (get-insert o m k None q)
            ∙ covered (eq_by_cmp R q k) (Some x) (Some None) (get m q) ∙ sym (get-insert o m k x q))
        | false ↦ refl
      ]

  pub rows-put_back : IsAntisymmetric R → (m : FinMap R (Option V)) (k : K) (v : V) → rows (insert (emptied m k) k (Some v)) ≡ insert (rows m) k v
  rows-put_back same m k v = ap rows (insert-emptied same m k (Some v)) ∙ rows-set same m k v

module _ {K X : Type 0} {R : K → K → Ordering} (o : IsTotalOrder R) where
  pub from_sorted-put : (k : K) (v : X) (es : List (K × X)) → T (is_sorted R es) → from_sorted {R = R} (put R k v es) ≡ insert (from_sorted es) k v
  from_sorted-put k v es s =
      same_entries_map _ _ (entries-from_sorted R _ (is_sorted-put R o k v es s) ∙ ap (put R k v) (sym (entries-from_sorted R es s)) ∙
      sym (entries-insert o (from_sorted es) k v))

  turned : (b : Bool) (x : Option X) → cond (not b) x None ≡ cond b None x
  turned true x = refl
  turned false x = refl

  pub from_sorted-without : IsAntisymmetric R → (k : K) (es : List (K × X)) → T (is_sorted R es) →
      from_sorted {R = R} (without R k es) ≡ remove (from_sorted es) k
  from_sorted-without same k es s =
      same_map o same _ _ (λ q.
      get-from_sorted R _ q (is_sorted-filter R (λ e. not (eq_by_cmp R k e.0)) es s)
      ∙ find-where_key R (λ x. not (eq_by_cmp R k x)) q (λ x t. ap (λ r. not (is_eq r)) (sym (alike_right o q x k t))) es
      ∙ turned (eq_by_cmp R k q) _
      ∙ ap (λ b. cond b None (find R q es)) ((eq_by_cmp_equiv o).symm k q)
      ∙ ap (cond (eq_by_cmp R q k) None) (sym (get-from_sorted R es q s))
      ∙ sym (get-remove o (from_sorted es) k q))

pub empty_table : {K X : Type 0} {R : K → K → Ordering} → ◌≡◌ {A = FinMap R X} (from_sorted []) empty
empty_table {R = R} = empty_of_len _ (len-entries _ ∙ ap length (entries-from_sorted R [] tt))

module _ {K V : Type 0} {R : K → K → Ordering} (o : IsTotalOrder R) where
  pub sorted-with_slot : (k : K) (es : List (K × Option V)) → T (is_sorted R es) → T (is_sorted R (cond (is_some (find R k es)) es (put R k None es)))
  sorted-with_slot k es s = elim (is_some (find R k es)) as (λ b. T (is_sorted R (cond b es (put R k None es))))
      [ true ↦ s | false ↦ is_sorted-put R o k None es s ]

  pub from_sorted-with_slot : (k : K) (es : List (K × Option V)) → T (is_sorted R es) →
      from_sorted {R = R} (cond (is_some (find R k es)) es (put R k None es)) ≡ with_slot (from_sorted es) k
  from_sorted-with_slot k es s =
      ap (λ x. from_sorted (cond (is_some x) es (put R k None es))) (sym (get-from_sorted R es k s))
      ∙ elim (is_some (get (from_sorted {R = R} es) k)) as
      (λ b. from_sorted {R = R} (cond b es (put R k None es)) ≡ cond b (from_sorted es) (insert (from_sorted es) k None)) [
        | true ↦ refl
        | false ↦ from_sorted-put o k None es s
      ]

  pub sorted-added : (k : K) (v : V) (es : List (K × Option V)) → T (is_sorted R es) →
      T (is_sorted R (cond (is_some (flat (find R k es))) es (put R k (Some v) es)))
  sorted-added k v es s = elim (is_some (flat (find R k es))) as (λ b. T (is_sorted R (cond b es (put R k (Some v) es))))
      [ true ↦ s | false ↦ is_sorted-put R o k (Some v) es s ]

  pub from_sorted-added : (k : K) (v : V) (es : List (K × Option V)) → T (is_sorted R es) →
      from_sorted {R = R} (cond (is_some (flat (find R k es))) es (put R k (Some v) es)) ≡ added (from_sorted es) k v
  from_sorted-added k v es s =
      ap (λ x. from_sorted (cond (is_some (flat x)) es (put R k (Some v) es))) (sym (get-from_sorted R es k s))
      ∙ elim (is_some (flat (get (from_sorted {R = R} es) k))) as
      (λ b. from_sorted {R = R} (cond b es (put R k (Some v) es)) ≡ cond b (from_sorted es) (insert (from_sorted es) k (Some v))) [
        | true ↦ refl
        | false ↦ from_sorted-put o k (Some v) es s
      ]

  pub sorted-emptied : (k : K) (es : List (K × Option V)) → T (is_sorted R es) → T (is_sorted R (cond (is_some (find R k es)) (put R k None es) es))
  sorted-emptied k es s = elim (is_some (find R k es)) as (λ b. T (is_sorted R (cond b (put R k None es) es))) [
    | true ↦ is_sorted-put R o k None es s
    | false ↦
        s
  ]

  pub from_sorted-emptied : (k : K) (es : List (K × Option V)) → T (is_sorted R es) →
      from_sorted {R = R} (cond (is_some (find R k es)) (put R k None es) es) ≡ emptied (from_sorted es) k
  from_sorted-emptied k es s =
      ap (λ x. from_sorted (cond (is_some x) (put R k None es) es)) (sym (get-from_sorted R es k s))
      ∙ elim (is_some (get (from_sorted {R = R} es) k)) as
      (λ b. from_sorted {R = R} (cond b (put R k None es) es) ≡ cond b (insert (from_sorted es) k None) (from_sorted es)) [
        | true ↦ from_sorted-put o k None es s
        | false ↦ refl
      ]

  pub sorted-without_vacant : (k : K) (es : List (K × Option V)) → T (is_sorted R es) →
      T (is_sorted R (cond (is_some (flat (find R k es))) es (without R k es)))
  sorted-without_vacant k es s = elim (is_some (flat (find R k es))) as (λ b. T (is_sorted R (cond b es (without R k es))))
      [ true ↦ s | false ↦ is_sorted-filter R (λ e. not (eq_by_cmp R k e.0)) es s ]

  pub from_sorted-without_vacant : IsAntisymmetric R → (k : K) (es : List (K × Option V)) → T (is_sorted R es)
      → from_sorted {R = R} (cond (is_some (flat (find R k es))) es (without R k es)) ≡ without_vacant (from_sorted es) k
  from_sorted-without_vacant same k es s =
      ap (λ x. from_sorted (cond (is_some (flat x)) es (without R k es))) (sym (get-from_sorted R es k s))
      ∙ elim (is_some (flat (get (from_sorted {R = R} es) k))) as
      (λ b. from_sorted {R = R} (cond b es (without R k es)) ≡ cond b (from_sorted es) (remove (from_sorted es) k)) [
        | true ↦ refl
        | false ↦ from_sorted-without o same k es s
      ]

  -- of the slots those with a row are left
  pub has_slot-filled : (es : List (K × Option V)) → T (is_sorted R es) → (k : K) →
      has_slot (from_sorted {R = R} (filter (λ e. is_some e.1) es)) k ≡ is_some (row_at (from_sorted {R = R} es) k)
  has_slot-filled es s k =
      ap is_some (get-from_sorted R (filter (λ e. is_some e.1) es) k (is_sorted-filter R (λ e. is_some e.1) es s))
      ∙ find-filled R o k es s ∙ sym (ap (λ x. is_some (flat x)) (get-from_sorted R es k s))

  pub len-rows : (es : List (K × Option V)) → T (is_sorted R es) → length (row_list es) ≡ len (rows (from_sorted {R = R} es))
  len-rows es s = sym (len-entries _ ∙ ap length (entries-rows (from_sorted es) ∙ ap row_list (entries-from_sorted R es s)))

module _ {K V : Type 0} {R : K → K → Ordering} (o : IsTotalOrder R) where
  -- no slot is lost by a write
  pub has_slot-insert : (m : FinMap R (Option V)) (k : K) (x : Option V) (q : K) → IsTrue (has_slot m q) → IsTrue (has_slot (insert m k x) q)
  has_slot-insert m k x q h =
      subst (λ y. IsTrue (is_some y)) (sym (get-insert o m k x q)) (either (eq_by_cmp R q k))
    where
      either : (b : Bool) → IsTrue (is_some (cond b (Some x) (get m q)))
      either true = refl
      either false = h

  pub has_slot-insert_here : (m : FinMap R (Option V)) (k : K) (x : Option V) → IsTrue (has_slot (insert m k x) k)
  has_slot-insert_here m k x =
      subst (λ y. IsTrue (is_some y)) (sym (get-insert o m k x k ∙ ap (λ r. cond (is_eq r) (Some x) (get m k)) (tied_itself o k))) refl

  pub has_slot-with_slot : (m : FinMap R (Option V)) (k : K) (q : K) → IsTrue (has_slot m q) → IsTrue (has_slot (with_slot m k) q)
  has_slot-with_slot m k q h =
      elim (has_slot m k) as (λ b. IsTrue (has_slot (cond b m (insert m k None)) q)) [ true ↦ h | false ↦ has_slot-insert m k None q h ]

  pub has_slot-with_slot_here : (m : FinMap R (Option V)) (k : K) → IsTrue (has_slot (with_slot m k) k)
  has_slot-with_slot_here m k =
      elim (has_slot m k) as (λ b. has_slot m k ≡ b → IsTrue (has_slot (cond b m (insert m k None)) k)) [
        | true ↦ λ e. e
        | false ↦ λ e. has_slot-insert_here m k None
      ] refl

module _ {K V : Type 0} {R : K → K → Ordering} (o : IsTotalOrder R) where
  -- a slot that was made is there
  pub slot_made : (old made : FinMap R (Option V)) (k : K) → made ≡ with_slot old k → IsTrue (has_slot made k)
  slot_made old made k e = subst (λ m. IsTrue (has_slot m k)) (sym e) (has_slot-with_slot_here o old k)

  -- a row set in a slot that was made for it is inserted
  pub row_put : IsAntisymmetric R → (old made new : FinMap R (Option V)) (k : K) (v : V) → made ≡ with_slot old k → new ≡ insert made k (Some v) →
      rows new ≡ insert (rows old) k v
  row_put same old made new k v e f = ap rows f ∙ rows-set o same made k v ∙ ap (λ m. insert (rows m) k v) e ∙
      ap (λ m. insert m k v) (rows-with_slot o same old k)

  -- a row that is added is inserted, unless one is there
  pub rows-added : IsAntisymmetric R → (m : FinMap R (Option V)) (k : K) (v : V) →
      rows (added m k v) ≡ cond (is_some (get (rows m) k)) (rows m) (insert (rows m) k v)
  rows-added same m k v = by (is_some (row_at m k)) ∙ ap (λ x. cond (is_some x) (rows m) (insert (rows m) k v)) (sym (get-rows o m k))
    where
      by : (b : Bool) → rows (cond b m (insert m k (Some v))) ≡ cond b (rows m) (insert (rows m) k v)
      by true = refl
      by false = rows-set o same m k v

  -- a slot that was made goes again
  pub remove-with_slot : IsAntisymmetric R → (m : FinMap R (Option V)) (k : K) → has_slot m k ≡ false → remove (with_slot m k) k ≡ m
  remove-with_slot same m k none = ap (λ b. remove (cond b m (insert m k None)) k) none ∙ same_map o same _ _ (λ q.
      get-remove o (insert m k None) k q ∙ ap (cond (eq_by_cmp R q k) None) (get-insert o m k None q)
      ∙ elim (R q k) as (λ r. R q k ≡ r → cond (is_eq r) None (cond (is_eq r) (Some None) (get m q)) ≡ get m q) [
        | Less ↦ λ _. refl
        | Equal ↦ λ t. sym (ap (get m) (same q k t) ∙ absent_at (get m k) none)
        | Greater ↦ λ _. refl
      ] refl)
    where
      absent_at : (x : Option (Option V)) → is_some x ≡ false → x ≡ None
      absent_at None e = refl
      absent_at (Some x) e = cc

module _ {K V : Type 0} {R : K → K → Ordering} where
  -- a row has a slot
  pub has_slot-row : (m : FinMap R (Option V)) (k : K) (v : V) → row_at m k ≡ Some v → IsTrue (has_slot m k)
  has_slot-row m k v is = by (get m k) is
    where
      by : (x : Option (Option V)) → flat x ≡ Some v → IsTrue (is_some x)
      by None e = cc
      by (Some x) e = refl

-- the table with no slot has no row
pub rows-empty : {K V : Type 0} {R : K → K → Ordering} → rows (empty {X = Option V} {R = R}) ≡ empty
rows-empty {R = R} = ap rows (sym empty_table) ∙ rows-from_sorted {R = R} [] tt ∙ empty_table
