-- A queue of rows by their places: what its rows are, and what one more or one less leaves.
--     in_order, items_are      the items are the rows of the table in the order of their places
--     same_items, same_queue   where the same rows are at the same places, the items are the same; where no items are, no row is
--     items_chosen             where the rows at the places are those that pass a test, the items are those that pass
--     places_passing           where a set has the places of the rows that pass, its places in their order are those of these rows
--     found_again              the row at the place of a row is that row
--     items_pushed             a row behind all others is the last item
--     others_left, fewer_items where one place is emptied, the other items are left, in their order
use Rattle.std.specs.Prelude.{◌≡◌, ℕ, ◌+◌, ◌-◌, ◌<◌, ◌≤◌, Bool, true, false, cond, nat_eq, nat_lt, not, ◌&&◌, ◌||◌, T, IsTrue, List, [], ◌∷◌, ◌++◌}
use Rattle.std.specs.Prelude.{filter, flat_map, length, map, Option, Some, None, is_some, option_map, slice_get, unwrap_or}
use Rattle.std.proofs.Common.{refl, sym, ap, subst, ◌∙◌, arith, Greater, Less}
use Rattle.std.proofs.lemmas.Bool.Decides.{nat_tests}
use Rattle.std.proofs.lemmas.List.{length-map, map-append}
use Rattle.std.specs.Cmp.{nat_cmp_is, tied_itself}
use Rattle.std.specs.Option.{option_map_or}
use Rattle.std.specs.Ordering.{is_eq, nat_cmp}
use Rattle.std.specs.FinMap.{empty, empty_of_len, entries, entries-insert, entries_sorted, get, get-empty, get-entries, get-insert, get-remove, insert}
use Rattle.std.specs.FinMap.{len, len-entries, len-remove, remove, same_map}
use Rattle.std.specs.FinMap.Entries.{by_order, find, is_sorted, put}
use Rattle.keyed.specs.Levels.{holds_place, same_place}
use Rattle.keyed.specs.Queue.{ClearsRoom, IsHeldAt, IsPlaced, IsPlaceOf, KeepsPlaces, LeavesOthers, LeavesPlace, PutsRow, Queue, TakesRow}
use Rattle.keyed.specs.Queue.{at, has_row, is_at, queue_of, rows_in}
use Rattle.keyed.specs.Table.{IsNextRow, KeepsSlots, emptied, flat, has_slot, row_at, row_list, rows, with_row, with_slot}
use Rattle.keyed.specs.declared.placed_rows.PlacedRows.{PlacedRows}
use Rattle.keyed.proofs.Levels.{not_true, row-insert}
use Rattle.keyed.proofs.Ordered.{not_there}
use Rattle.keyed.proofs.Tables.{entries-rows, get-rows, has_slot-insert, has_slot-with_slot, rows-emptied}
use Rattle.ns_types.specs.State.Lists.{Each}
use Rattle.ns_types.specs.State.Names.{ByNumber, Key, Name, same_key, same_name, same_number}
use Rattle.ns_types.specs.State.Tables.{any_row, table_of}
use Rattle.ns_types.proofs.Elements.{any_map, filter_map, map_map}
use Rattle.ns_types.proofs.Lists.{cond_same, not_both}
use Rattle.ns_types.proofs.Named.{numbers, one_number, same_number_refl, second_of_both}
use Rattle.ns_types.proofs.Once.{key_is}
use Rattle.ns_types.proofs.TableRows.{apart, some_row}
use Rattle.ns_types.proofs.Tables.{any_row-none, each_row, entries-table_of, get-table_of, tied}
use Rattle.ns_types.proofs.Tests.{not_Some}

-- ---- tables by number

module _ {V : Type 0} (m new : ByNumber (Option V)) where
  pub same_rows : rows new ≡ rows m → (n : ℕ) → row_at new n ≡ row_at m n
  same_rows e n = sym (get-rows numbers new n) ∙ ap (λ t. get t n) e ∙ get-rows numbers m n

  pub rows_alike : ((n : ℕ) → row_at new n ≡ row_at m n) → rows new ≡ rows m
  rows_alike e = same_map numbers one_number (rows new) (rows m) (λ n. get-rows numbers new n ∙ e n ∙ sym (get-rows numbers m n))

  module _ (k : ℕ) where
    pub slots_made : new ≡ with_slot m k → KeepsSlots m new
    slots_made e q h = subst (λ t. IsTrue (has_slot t q)) (sym e) (has_slot-with_slot numbers m k q h)

    pub row_set : (v : V) → new ≡ insert m k (Some v) → (n : ℕ) → row_at new n ≡ cond (same_number n k) (Some v) (row_at m n)
    row_set v e n = ap (λ t. row_at t n) e ∙ row-insert numbers m k (Some v) n

    pub slots_set : (v : V) → new ≡ insert m k (Some v) → KeepsSlots m new
    slots_set v e q h = subst (λ t. IsTrue (has_slot t q)) (sym e) (has_slot-insert numbers m k (Some v) q h)

    pub row_taken : new ≡ emptied m k → (n : ℕ) → row_at new n ≡ cond (same_number n k) None (row_at m n)
    row_taken e n = ap (λ t. row_at t n) e ∙ sym (get-rows numbers (emptied m k) n) ∙ ap (λ t. get t n) (rows-emptied numbers one_number m k)
        ∙ get-remove numbers (rows m) k n ∙ ap (cond (same_number n k) None) (get-rows numbers m n)

    pub slots_taken : new ≡ emptied m k → KeepsSlots m new
    slots_taken e q h = subst (λ t. IsTrue (has_slot t q)) (sym e) (by (has_slot m k))
      where
        by : (b : Bool) → IsTrue (has_slot (cond b (insert m k None) m) q)
        by true = has_slot-insert numbers m k None q h
        by false = h

-- ---- the rows

module _ {R : Type 0} where
  pub items_are : (m : ByNumber (Option R)) → rows_in (entries m) ≡ map (λ e. e.1) (entries (rows m))
  items_are m = ap (map (λ (e : ℕ × R). e.1)) (sym (entries-rows m))

  pub same_items : (m new : ByNumber (Option R)) → ((n : ℕ) → row_at new n ≡ row_at m n) → rows_in (entries new) ≡ rows_in (entries m)
  same_items m new e = items_are new ∙ ap (λ t. map (λ (e : ℕ × R). e.1) (entries t)) (rows_alike m new e) ∙ sym (items_are m)

  pub length_items : (m : ByNumber (Option R)) → length (rows_in (entries m)) ≡ len (rows m)
  length_items m = ap length (items_are m) ∙ length-map (entries (rows m)) _ ∙ sym (len-entries (rows m))

  -- two queues with the same rows at the same places have the same items
  pub same_queue : (old new : Queue R) → KeepsPlaces old new → new.items ≡ old.items
  same_queue old new keeps = sym new.in_order ∙ same_items old.placed.rows new.placed.rows keeps.rows ∙ old.in_order

  pub keeps_then : (one two three : Queue R) → KeepsPlaces one two → KeepsPlaces two three → KeepsPlaces one three
  keeps_then one two three k l = record { rows = λ n. l.rows n ∙ k.rows n; next = l.next ∙ k.next }

  -- a table with the row at its place
  pub each_placed : (m : ByNumber (Option R)) → Each (λ e. row_at m e.0 ≡ Some e.1) (row_list (entries m))
  each_placed m = subst (Each (λ (e : ℕ × R). row_at m e.0 ≡ Some e.1)) (entries-rows m)
      (each_row numbers one_number (λ n row. row_at m n ≡ Some row) (rows m) (λ n row is. sym (get-rows numbers m n) ∙ is))

  -- where there are no items, no row is at any place
  pub nothing_at : (q : Queue R) → q.items ≡ [] → (n : ℕ) → row_at q.placed.rows n ≡ None
  nothing_at q none n = sym (get-rows numbers q.placed.rows n) ∙ ap (λ t. get t n) (empty_of_len (rows q.placed.rows)
      (sym (length_items q.placed.rows) ∙ ap length (q.in_order ∙ none))) ∙ get-empty nat_cmp n

module _ {R : Type 0} (key_of : R → Key) where
  has_items : (m : ByNumber (Option R)) (key : Key) →
      has_row key_of (rows_in (entries m)) key ≡ any_row (λ _ row. same_key key (key_of row)) (rows m)
  unfolding any_row
  has_items m key = ap (λ l. has_row key_of l key) (items_are m)
      ∙ any_map (λ row. same_key key (key_of row)) (λ (e : ℕ × R). e.1) (entries (rows m))

-- ---- the places alone

module _ {X : Type 0} where
  abbrev bare_row : Option X → Option (Unit {0})
  bare_row r = option_map (λ _. tt) r

  abbrev bare : ByNumber X → ByNumber (Unit {0})
  bare t = table_of (λ _ _. tt) t

  bare_numbers : (t : ByNumber X) → map (λ e. e.0) (entries (bare t)) ≡ map (λ e. e.0) (entries t)
  bare_numbers t = ap (map (λ (e : ℕ × Unit {0}). e.0)) (entries-table_of (λ _ _. tt) t)
      ∙ map_map (λ (e : ℕ × Unit {0}). e.0) (λ (e : ℕ × X). (e.0, tt)) (entries t)

  get_bare : (t : ByNumber X) (n : ℕ) → get (bare t) n ≡ bare_row (get t n)
  get_bare t n = get-table_of numbers one_number (λ _ _. tt) t n

-- ---- those that pass

-- the row, if it passes the test
abbrev pub chosen : {R : Type 0} → (R → Bool) → Option R → Option R
chosen passes r = flat (option_map (λ row. cond (passes row) (Some row) None) r)

module _ {R : Type 0} (passes : R → Bool) where
  chosen_filter : (xs : List (ℕ × R)) → row_list (map (λ e. (e.0, cond (passes e.1) (Some e.1) None)) xs) ≡ filter (λ e. passes e.1) xs
  chosen_filter [] = refl
  chosen_filter (e ∷ xs) = ap (with_row e.0 (cond (passes e.1) (Some e.1) None)) (chosen_filter xs) ∙ by (passes e.1)
    where
      by : (b : Bool) → with_row e.0 (cond b (Some e.1) None) (filter (λ e. passes e.1) xs) ≡ cond b (e ∷ filter (λ e. passes e.1) xs)
          (filter (λ e. passes e.1) xs)
      by true = refl
      by false = refl

  abbrev passing : ByNumber R → ByNumber R
  passing t = rows (table_of (λ _ k. cond (passes k) (Some k) None) t)

  entries_passing : (t : ByNumber R) → entries (passing t) ≡ filter (λ e. passes e.1) (entries t)
  entries_passing t = entries-rows (table_of (λ _ k. cond (passes k) (Some k) None) t)
      ∙ ap row_list (entries-table_of (λ _ k. cond (passes k) (Some k) None) t) ∙ chosen_filter (entries t)

  get_passing : (t : ByNumber R) (n : ℕ) → get (passing t) n ≡ chosen passes (get t n)
  get_passing t n = get-rows numbers (table_of (λ _ k. cond (passes k) (Some k) None) t) n
      ∙ ap flat (get-table_of numbers one_number (λ _ k. cond (passes k) (Some k) None) t n)

  passing_at_place : (m : ByNumber (Option R)) (n : ℕ) → get (passing (rows m)) n ≡ chosen passes (row_at m n)
  passing_at_place m n = get_passing (rows m) n ∙ ap (chosen passes) (get-rows numbers m n)

  items_passing : (m : ByNumber (Option R)) → filter passes (rows_in (entries m)) ≡ map (λ e. e.1) (entries (passing (rows m)))
  items_passing m = ap (filter passes) (items_are m) ∙ filter_map passes (λ (e : ℕ × R). e.1) (entries (rows m))
      ∙ ap (map (λ (e : ℕ × R). e.1)) (sym (entries_passing (rows m)))

  -- where those that pass are at the same places
  same_passing : (m new : ByNumber (Option R)) → ((n : ℕ) → chosen passes (row_at new n) ≡ chosen passes (row_at m n)) →
      filter passes (rows_in (entries new)) ≡ filter passes (rows_in (entries m))
  same_passing m new e = items_passing new ∙ ap (λ t. map (λ (e : ℕ × R). e.1) (entries t))
      (same_map numbers one_number (passing (rows new)) (passing (rows m)) (λ n. passing_at_place new n ∙ e n ∙ sym (passing_at_place m n)))
      ∙ sym (items_passing m)

  -- where only those that pass are left, the items that pass are left
  pub items_chosen : (m new : ByNumber (Option R)) → ((n : ℕ) → row_at new n ≡ chosen passes (row_at m n)) →
      rows_in (entries new) ≡ filter passes (rows_in (entries m))
  items_chosen m new e = items_are new ∙ ap (λ t. map (λ (e : ℕ × R). e.1) (entries t))
      (same_map numbers one_number (rows new) (passing (rows m)) (λ n. get-rows numbers new n ∙ e n ∙ sym (passing_at_place m n)))
      ∙ sym (items_passing m)

  -- where a set has the places of those that pass, they are its places, in their order
  pub places_passing : {V : Type 0} (places : ByNumber (Option V)) (m : ByNumber (Option R)) →
      ((n : ℕ) → is_some (row_at places n) ≡ option_map_or passes (row_at m n) false) →
      map (λ e. e.0) (row_list (entries places)) ≡ map (λ e. e.0) (filter (λ e. passes e.1) (row_list (entries m)))
  places_passing {V = V} places m alike = ap (map (λ (e : ℕ × V). e.0)) (sym (entries-rows places)) ∙ sym (bare_numbers (rows places))
      ∙ ap (λ t. map (λ (e : ℕ × Unit {0}). e.0) (entries t)) (same_map numbers one_number (bare (rows places)) (bare (passing (rows m)))
      (λ n. get_bare (rows places) n ∙ ap bare_row (get-rows numbers places n) ∙ by (row_at places n) (row_at m n) (alike n)
      ∙ ap bare_row (sym (passing_at_place m n)) ∙ sym (get_bare (passing (rows m)) n)))
      ∙ bare_numbers (passing (rows m))
      ∙ ap (map (λ (e : ℕ × R). e.0)) (entries_passing (rows m) ∙ ap (filter (λ (e : ℕ × R). passes e.1)) (entries-rows m))
    where
      either : (p : Option V) (row : R) (b : Bool) → is_some p ≡ b → bare_row p ≡ bare_row (cond b (Some row) None)
      either None row true e = not_true e
      either None row false e = refl
      either (Some v) row true e = refl
      either (Some v) row false e = not_true (sym e)

      by : (p : Option V) (r : Option R) → is_some p ≡ option_map_or passes r false → bare_row p ≡ bare_row (chosen passes r)
      by None None e = refl
      by (Some v) None e = not_true (sym e)
      by p (Some row) e = either p row (passes row) e

-- a look-up at the place of a row finds the row
module _ {R Y : Type 0} (passes : R → Bool) (look : ℕ → Option R → List Y) (m : ByNumber (Option R)) where
  abbrev looked : List (ℕ × R) → List Y
  looked es = flat_map (λ n. look n (row_at m n)) (map (λ e. e.0) es)

  along : (es : List (ℕ × R)) → Each (λ e. row_at m e.0 ≡ Some e.1) es →
      looked (filter (λ e. passes e.1) es) ≡ flat_map (λ e. look e.0 (Some e.1)) (filter (λ e. passes e.1) es)
  along [] h = refl
  along (e ∷ es) h = by (along es h.1) (passes e.1)
    where
      rest : List (ℕ × R)
      rest = filter (λ e. passes e.1) es

      by : looked rest ≡ flat_map (λ e. look e.0 (Some e.1)) rest → (b : Bool) →
          looked (cond b (e ∷ rest) rest) ≡ flat_map (λ e. look e.0 (Some e.1)) (cond b (e ∷ rest) rest)
      by later true = λ i. look e.0 (h.0 i) ++ later i
      by later false = later

  pub found_again : flat_map (λ n. look n (row_at m n)) (map (λ e. e.0) (filter (λ e. passes e.1) (row_list (entries m))))
      ≡ flat_map (λ e. look e.0 (Some e.1)) (filter (λ e. passes e.1) (row_list (entries m)))
  found_again = along (row_list (entries m)) (each_placed m)

-- ---- one more

pub put_last : {X : Type 0} (k : ℕ) (x : X) (xs : List (ℕ × X)) → Each (λ e. e.0 < k) xs → put nat_cmp k x xs ≡ xs ++ (k, x) ∷ []
put_last k x [] h = refl
put_last k x (e ∷ xs) h = ap (λ r. by_order r ((k, x) ∷ e ∷ xs) ((e.0, x) ∷ xs) (e ∷ put nat_cmp k x xs)) (sym (nat_cmp_is k e.0 Greater h.0))
    ∙ ap (λ l. e ∷ l) (put_last k x xs h.1)

module _ {R : Type 0} where
  pub items_pushed : (m new : ByNumber (Option R)) (next : ℕ) (row : R) → ((n : ℕ) → next ≤ n → row_at m n ≡ None) →
      ((n : ℕ) → row_at new n ≡ cond (same_number n next) (Some row) (row_at m n)) → rows_in (entries new) ≡ rows_in (entries m) ++ row ∷ []
  items_pushed m new next row behind pushed = items_are new ∙ ap (map (λ (e : ℕ × R). e.1))
      (ap entries (same_map numbers one_number (rows new) (insert (rows m) next row) (λ n. get-rows numbers new n ∙ pushed n
      ∙ ap (cond (same_number n next) (Some row)) (sym (get-rows numbers m n)) ∙ sym (get-insert numbers (rows m) next row n)))
      ∙ entries-insert numbers (rows m) next row
      ∙ put_last next row (entries (rows m)) (each_row numbers one_number (λ n _. n < next) (rows m) (λ n k is. below n k is (nat_lt n next) refl)))
      ∙ map-append (λ (e : ℕ × R). e.1) (entries (rows m)) ((next, row) ∷ []) ∙ ap (λ l. l ++ row ∷ []) (sym (items_are m))
    where
      below : (n : ℕ) (k : R) → get (rows m) n ≡ Some k → (b : Bool) → nat_lt n next ≡ b → n < next
      below n k is true e = grind (arith, nat_tests)
      below n k is false e =
          let le : next ≤ n = grind (arith, nat_tests) in
          absurd (not_Some k (sym (get-rows numbers m n ∙ behind n le) ∙ is))

-- ---- one less

fewer_rows : {X : Type 0} (t : ByNumber X) (k : ℕ) (x : X) → get t k ≡ Some x → len (remove t k) < len t
fewer_rows t k x is =
    let one : len (remove t k) ≡ len t - 1 = len-remove numbers t k ∙ ap (λ r. cond (is_some r) (len t - 1) (len t)) is in
    let some : 0 < len t = by (nat_eq (len t) 0) refl in
    omega (arith, one, some)
  where
    by : (b : Bool) → nat_eq (len t) 0 ≡ b → 0 < len t
    by true e =
        let none : len t ≡ 0 = grind (arith, nat_tests) in
        absurd (not_Some x (sym (ap (λ t. get t k) (empty_of_len t none) ∙ get-empty nat_cmp k) ∙ is))
    by false e = grind (arith, nat_tests)

module _ {R : Type 0} (m new : ByNumber (Option R)) (k : ℕ) (taken : (n : ℕ) → row_at new n ≡ cond (same_number n k) None (row_at m n)) where
  pub fewer_items : IsTrue (is_some (row_at m k)) → length (rows_in (entries new)) < length (rows_in (entries m))
  fewer_items there = by (row_at m k) refl there
    where
      by : (r : Option R) → row_at m k ≡ r → IsTrue (is_some r) → length (rows_in (entries new)) < length (rows_in (entries m))
      by None is there = not_true there
      by (Some row) is there =
          let less = fewer_rows (rows m) k row (get-rows numbers m k ∙ is) in
          let now : length (rows_in (entries new)) ≡ len (remove (rows m) k) = length_items new ∙ ap len
          (same_map numbers one_number (rows new) (remove (rows m) k) (λ n. get-rows numbers new n ∙ taken n
          ∙ ap (cond (same_number n k) None) (sym (get-rows numbers m n)) ∙ sym (get-remove numbers (rows m) k n))) in
          let was = length_items m in
          omega (arith, less, now, was)

  pub others_left : LeavesOthers (row_at m k) (rows_in (entries m)) (rows_in (entries new))
  others_left passes out = same_passing passes m new (λ n. ap (chosen passes) (taken n) ∙ by n (same_number n k) refl)
    where
      fails : (r : Option R) → option_map_or passes r false ≡ false → chosen passes r ≡ None
      fails None out = refl
      fails (Some row) out = ap (λ b. cond b (Some row) None) out

      by : (n : ℕ) (b : Bool) → same_number n k ≡ b → chosen passes (cond b None (row_at m n)) ≡ chosen passes (row_at m n)
      by n true t = sym (ap (λ n. chosen passes (row_at m n)) (tied one_number n k t) ∙ fails (row_at m k) out)
      by n false t = refl

-- ---- what holds of every queue

-- the key of a row with a place, as its parts are read
pub at_key : (place : ℕ) {name : Name} {number : ℕ} {read key : Key} →
    name ≡ read.0 → number ≡ read.1 → read ≡ key → (name, (number, place)) ≡ at key place
at_key place n m is = (λ i. (n i, (m i, place))) ∙ ap (λ k. at k place) is

module _ {R : Type 0} where
  no_row_at : (m : ByNumber (Option R)) → m ≡ empty → (n : ℕ) → row_at m n ≡ None
  no_row_at m e n = ap (λ t. row_at t n) e ∙ ap flat (get-empty nat_cmp n)

  pub nothing_placed : (key_of : R → Key) (placed : PlacedRows R) → placed.rows ≡ empty →
      ((q : Key) (n : ℕ) → holds_place placed.places (at q n) ≡ false) → IsPlaced key_of 0 0 placed
  nothing_placed key_of placed none places = record {
    held = λ q n. places q n ∙ ap (is_at key_of q) (sym (no_row_at placed.rows none n));
    behind = λ n le. no_row_at placed.rows none n;
    before = λ n lt. no_row_at placed.rows none n;
    at_first = λ e. refl;
  }

module _ {R : Type 0} (key_of : R → Key) (first next : ℕ) (old : PlacedRows R) (h : IsPlaced key_of first next old) where
  pub place_found : (key : Key) (r : Option ℕ) → IsHeldAt old.places key r → IsPlaceOf key_of key (queue_of next old) r
  place_found key None none = has_items key_of old.rows key ∙ any_row-none numbers one_number (λ _ row. same_key key (key_of row)) (rows old.rows)
      (λ n row is. sym (ap (is_at key_of key) (sym (get-rows numbers old.rows n) ∙ is)) ∙ sym (h.held key n) ∙ none n)
  place_found key (Some n) there = by (row_at old.rows n) refl (sym (h.held key n) ∙ there)
    where
      by : (r : Option R) → row_at old.rows n ≡ r → is_at key_of key r ≡ true →
          IsTrue (has_row key_of (rows_in (entries old.rows)) key) × (option_map key_of (row_at old.rows n) ≡ Some key)
      by None is t = not_true t
      by (Some row) is t = (
        has_items key_of old.rows key
            ∙ some_row numbers one_number (λ _ row. same_key key (key_of row)) (rows old.rows) n row (get-rows numbers old.rows n ∙ is) t,
        ap (option_map key_of) is ∙ ap Some (sym (key_is key (key_of row) t)),
      )

  first_most : first ≤ next
  first_most = by (nat_lt next first) refl
    where
      by : (b : Bool) → nat_lt next first ≡ b → first ≤ next
      by true e =
          let le : next ≤ first = grind (arith, nat_tests) in
          let same : first ≡ next = h.at_first (h.behind first le) in
          omega (arith, same)
      by false e = grind (arith, nat_tests)

  pub place_most : (n : ℕ) (row : R) → row_at old.rows n ≡ Some row → n < next
  place_most n row is = by (nat_lt n next) refl
    where
      by : (b : Bool) → nat_lt n next ≡ b → n < next
      by true e = grind (arith, nat_tests)
      by false e =
          let le : next ≤ n = grind (arith, nat_tests) in
          absurd (not_Some row (sym (h.behind n le) ∙ is))

  -- the first row is the one at the first place
  pub first_is : row_at old.rows first ≡ slice_get (rows_in (entries old.rows)) 0
  first_is = by (entries (rows old.rows)) (entries_sorted (rows old.rows)) (λ n. sym (get-rows numbers old.rows n) ∙ get-entries (rows old.rows) n)
      ∙ ap (λ l. slice_get l 0) (sym (items_are old.rows))
    where
      by : (es : List (ℕ × R)) → T (is_sorted nat_cmp es) → ((n : ℕ) → row_at old.rows n ≡ find nat_cmp n es) →
          row_at old.rows first ≡ slice_get (map (λ e. e.1) es) 0
      by [] s found = found first
      by (e ∷ es) s found = here (nat_lt e.0 first) refl
        where
          there : row_at old.rows e.0 ≡ Some e.1
          there = found e.0 ∙ ap (λ r. cond (is_eq r) (Some e.1) (find nat_cmp e.0 es)) (tied_itself numbers e.0)

          at_it : first ≤ e.0 → (b : Bool) → nat_eq first e.0 ≡ b → row_at old.rows first ≡ Some e.1
          at_it le true t =
              let same : first ≡ e.0 = grind (arith, nat_tests) in
              ap (row_at old.rows) same ∙ there
          at_it le false t =
              let less : first < e.0 = grind (arith, nat_tests) in
              let below = nat_cmp_is first e.0 Less less in
              let none : row_at old.rows first ≡ None =
              found first ∙ ap (λ r. cond (is_eq r) (Some e.1) (find nat_cmp first es)) (sym below)
              ∙ (not_there nat_cmp numbers first e es s (sym below)).0 in
              let same : first ≡ next = h.at_first none in
              absurd (not_Some e.1 (sym (h.behind e.0 (omega (arith, same, le))) ∙ there))

          here : (b : Bool) → nat_lt e.0 first ≡ b → row_at old.rows first ≡ Some e.1
          here true t =
              let less : e.0 < first = grind (arith, nat_tests) in
              absurd (not_Some e.1 (sym (h.before e.0 less) ∙ there))
          here false t =
              let le : first ≤ e.0 = grind (arith, nat_tests) in
              at_it le (nat_eq first e.0) refl

  module _ (new : PlacedRows R) where
    pub still_placed : ((n : ℕ) → row_at new.rows n ≡ row_at old.rows n) →
        ((q : Key) (n : ℕ) → holds_place new.places (at q n) ≡ holds_place old.places (at q n)) → IsPlaced key_of first next new
    still_placed same places = record {
      held = λ q n. places q n ∙ h.held q n ∙ ap (is_at key_of q) (sym (same n));
      behind = λ n le. same n ∙ h.behind n le;
      before = λ n lt. same n ∙ h.before n lt;
      at_first = λ none. h.at_first (sym (same first) ∙ none);
    }

    pub cleared_placed : (place : ℕ) (row : R) → next ≤ place → ClearsRoom key_of place row old new → IsPlaced key_of first next new
    cleared_placed place row le clears = still_placed clears.rows
        (λ q n. clears.places.held (at q n) ∙ by q n (same_place (at q n) (at (key_of row) place)) refl)
      where
        by : (q : Key) (n : ℕ) (b : Bool) → same_place (at q n) (at (key_of row) place) ≡ b →
            (not b && holds_place old.places (at q n)) ≡ holds_place old.places (at q n)
        by q n true t =
            let same : n ≡ place = tied one_number n place (second_of_both _ _ (second_of_both _ _ t)) in
            sym (h.held q n ∙ ap (is_at key_of q) (h.behind n (omega (arith, same, le))))
        by q n false t = refl

    pub pushed_placed : (row : R) → PutsRow key_of next row old new → IsPlaced key_of first (next + 1) new
    pushed_placed row puts = record {
      held = λ q n. puts.places.held (at q n) ∙ held q n (same_number n next) refl ∙ ap (is_at key_of q) (sym (puts.rows n));
      behind = λ n le. puts.rows n ∙ ap (λ b. cond b (Some row) (row_at old.rows n)) (apart n next (λ e. omega (arith, le, e))) ∙
          h.behind n (omega (arith, le));
      before = λ n lt. puts.rows n ∙ ap (λ b. cond b (Some row) (row_at old.rows n)) (apart n next (λ e. omega (arith, lt, e, first_most)))
          ∙ h.before n lt;
      at_first = λ none. at_first (same_number first next) refl (sym (puts.rows first) ∙ none);
    }
      where
        here : (a b : Bool) → ((a && (b && true)) || false) ≡ (a && b)
        here true true = refl
        here true false = refl
        here false b = refl

        elsewhere : (a b c : Bool) → ((a && (b && false)) || c) ≡ c
        elsewhere true true c = refl
        elsewhere true false c = refl
        elsewhere false b c = refl

        held : (q : Key) (n : ℕ) (b : Bool) → same_number n next ≡ b → (same_place (at q n) (at (key_of row) next) || holds_place old.places (at q n))
            ≡ is_at key_of q (cond b (Some row) (row_at old.rows n))
        held q n true t =
            let same : n ≡ next = tied one_number n next t in
            let none : holds_place old.places (at q n) ≡ false = h.held q n ∙ ap (is_at key_of q) (h.behind n (omega (arith, same))) in
            (λ i. (same_name q.0 (key_of row).0 && (same_number q.1 (key_of row).1 && t i)) || none i)
            ∙ here (same_name q.0 (key_of row).0) (same_number q.1 (key_of row).1)
        held q n false t = (λ i. (same_name q.0 (key_of row).0 && (same_number q.1 (key_of row).1 && t i)) || holds_place old.places (at q n))
            ∙ elsewhere (same_name q.0 (key_of row).0) (same_number q.1 (key_of row).1) (holds_place old.places (at q n)) ∙ h.held q n

        at_first : (b : Bool) → same_number first next ≡ b → cond b (Some row) (row_at old.rows first) ≡ None → first ≡ next + 1
        at_first true t e = absurd (not_Some row (sym e))
        at_first false t e = not_both (ap (λ n. same_number n next) (h.at_first e) ∙ same_number_refl next) t

    module _ (place : ℕ) (taken : Option R) (is : row_at old.rows place ≡ taken) (takes : TakesRow key_of place taken old new) where
      held_still : (q : Key) (n : ℕ) → holds_place new.places (at q n) ≡ is_at key_of q (row_at new.rows n)
      held_still q n = by taken is takes.places (same_number n place) refl ∙ ap (is_at key_of q) (sym (takes.rows n))
        where
          here : (a b : Bool) → (not (a && (b && true)) && (a && b)) ≡ false
          here true true = refl
          here true false = refl
          here false b = refl

          elsewhere : (a b c : Bool) → (not (a && (b && false)) && c) ≡ c
          elsewhere true true c = refl
          elsewhere true false c = refl
          elsewhere false b c = refl

          by : (r : Option R) → row_at old.rows place ≡ r → LeavesPlace key_of place r old.places new.places → (b : Bool) → same_number n place ≡ b →
              holds_place new.places (at q n) ≡ is_at key_of q (cond b None (row_at old.rows n))
          by None none same true t = ap (λ s. holds_place s (at q n)) same ∙ h.held q n
              ∙ ap (is_at key_of q) (ap (row_at old.rows) (tied one_number n place t) ∙ none)
          by None none same false t = ap (λ s. holds_place s (at q n)) same ∙ h.held q n
          by (Some row) there drops true t =
              let was : holds_place old.places (at q n) ≡ same_key q (key_of row) =
              h.held q n ∙ ap (is_at key_of q) (ap (row_at old.rows) (tied one_number n place t) ∙ there) in
              drops.held (at q n) ∙ (λ i. not (same_name q.0 (key_of row).0 && (same_number q.1 (key_of row).1 && t i)) && was i)
              ∙ here (same_name q.0 (key_of row).0) (same_number q.1 (key_of row).1)
          by (Some row) there drops false t = drops.held (at q n)
              ∙ (λ i. not (same_name q.0 (key_of row).0 && (same_number q.1 (key_of row).1 && t i)) && holds_place old.places (at q n))
              ∙ elsewhere (same_name q.0 (key_of row).0) (same_number q.1 (key_of row).1) (holds_place old.places (at q n)) ∙ h.held q n

      none_still : (n : ℕ) → row_at old.rows n ≡ None → row_at new.rows n ≡ None
      none_still n none = takes.rows n ∙ ap (cond (same_number n place) None) none ∙ cond_same (same_number n place) None

      -- where another was the first, it still is
      pub taken_behind : (place ≡ first → ⊥) → IsPlaced key_of first next new
      taken_behind other = record {
        held = held_still;
        behind = λ n le. none_still n (h.behind n le);
        before = λ n lt. none_still n (h.before n lt);
        at_first = λ none. h.at_first (sym (takes.rows first
            ∙ ap (λ b. cond b None (row_at old.rows first)) (apart first place (λ e. other (sym e)))) ∙ none);
      }

      -- where it was the first, the next one is
      pub taken_first : place ≡ first → (r : Option ℕ) → IsNextRow new.rows place r → IsPlaced key_of (unwrap_or r next) next new
      taken_first same r found = record {
        held = held_still;
        behind = λ n le. none_still n (h.behind n le);
        before = λ n lt. before r found n lt (nat_lt n first) refl;
        at_first = at_first r found;
      }
        where
          before : (r : Option ℕ) → IsNextRow new.rows place r → (n : ℕ) → n < unwrap_or r next → (b : Bool) → nat_lt n first ≡ b →
              row_at new.rows n ≡ None
          before r found n lt true e =
              let less : n < first = grind (arith, nat_tests) in
              none_still n (h.before n less)
          before None found n lt false e =
              let le : first ≤ n = grind (arith, nat_tests) in
              found n (omega (arith, same, le))
          before (Some k) found n lt false e =
              let le : first ≤ n = grind (arith, nat_tests) in
              found.2 n (omega (arith, same, le)) lt

          at_first : (r : Option ℕ) → IsNextRow new.rows place r → row_at new.rows (unwrap_or r next) ≡ None → unwrap_or r next ≡ next
          at_first None found none = refl
          at_first (Some k) found none = not_true (sym (ap is_some none) ∙ found.1)
