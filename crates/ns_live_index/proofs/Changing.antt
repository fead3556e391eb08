-- All changed rows of a namespace, one after another.
use Rattle.std.specs.Prelude.{
  ◌≡◌,
  ℕ,
  ◌+◌,
  ◌<◌,
  ◌++◌,
  Bool,
  true,
  false,
  cond,
  ◌&&◌,
  if◌then◌else◌,
  T,
  IsTrue,
  List,
  [],
  ◌∷◌,
  Option,
  Some,
  None,
  fold,
  length,
}
use Rattle.std.proofs.Common.{refl, sym, ap, subst, ◌∙◌, drop, get_or, take, take-append-drop}
use Rattle.std.proofs.lemmas.List.{drop_more, take_more}
use Rattle.std.proofs.lemmas.List.Sums.{fold_more}
use Rattle.std.proofs.Math.Bool.{and-false}
use Rattle.std.specs.Cmp.{eq_by_cmp_equiv}
use Rattle.std.specs.FinMap.{entries, entries_sorted, get, get-entries}
use Rattle.std.specs.FinMap.Entries.{below_all, find, is_sorted}
use Rattle.std.specs.Option.{unwrap_or}
use Rattle.std.specs.Ordering.{eq_by_cmp, is_eq, is_lt, nat_cmp}
use Rattle.keyed.specs.Over.{over}
use Rattle.keyed.specs.Table.{flat, row_at, rows}
use Rattle.keyed.proofs.Ordered.{absent}
use Rattle.keyed.proofs.Over.{get-over}
use Rattle.keyed.proofs.Tables.{get-rows}
use Rattle.ns_types.specs.declared.allocation.Allocation.{Allocation}
use Rattle.ns_types.specs.State.Lists.{Each}
use Rattle.ns_types.specs.State.Names.{Name, Key, ByNumber, same_key, same_name, same_number}
use Rattle.ns_types.proofs.Named.{numbers, one_number, same_name_refl}
use Rattle.ns_types.proofs.Elements.{each_append}
use Rattle.ns_types.proofs.Tables.{each_row, less_by, tied}
use Rattle.ns_types.proofs.Tests.{first, not_Some, same_Some, second}
use Rattle.ns_live_index.specs.declared.live.Live.{Live}
use Rattle.ns_live_index.specs.Index.{HasRoomFor, HasRoomForAll, Indexes, KeepsKeys, has_room, with_changes, with_row}
use Rattle.ns_live_index.specs.Naming.{KeepsNames}
use Rattle.ns_live_index.specs.Shown.{KeepsShown, ShowsUnmoved}
use Rattle.ns_live_index.proofs.Kept.{kept_then}
use Rattle.ns_live_index.proofs.Unmoved.{unmoved_same, unmoved_then}

abbrev Slots : Type 0
Slots = List (ℕ × Option Allocation)

-- ---- which rows these are

module _ (namespace : Name) where
  abbrev pub changed_row : (Key → Option Allocation) → ℕ × Option Allocation → Key → Option Allocation
  changed_row row_of slot = with_row (namespace, slot.0) slot.1 row_of

  abbrev pub changed_rows : Slots → (Key → Option Allocation) → Key → Option Allocation
  changed_rows slots row_of = fold changed_row row_of slots

  apart : (n m : ℕ) → same_number n m ≡ false → same_key (namespace, n) (namespace, m) ≡ false
  apart n m e = ap (λ b. same_name namespace namespace && b) e ∙ and-false (same_name namespace namespace)

  -- all at once
  rows_are : (slots : Slots) → T (is_sorted nat_cmp slots) → (row_of : Key → Option Allocation) (key : Key) →
      changed_rows slots row_of key ≡ (if same_name key.0 namespace then unwrap_or (find nat_cmp key.1 slots) (row_of key) else row_of key)
  rows_are [] sorted row_of key = by (same_name key.0 namespace)
    where
      by : (b : Bool) → row_of key ≡ (if b then row_of key else row_of key)
      by true = refl
      by false = refl
  rows_are (e ∷ es) sorted row_of key = rows_are es (second _ _ sorted) (changed_row row_of e) key
      ∙ by (same_name key.0 namespace) (same_number key.1 e.0) refl
    where
      by : (a b : Bool) → same_number key.1 e.0 ≡ b
          → (if a then unwrap_or (find nat_cmp key.1 es) (if a && b then e.1 else row_of key) else (if a && b then e.1 else row_of key))
          ≡ (if a then unwrap_or (cond b (Some e.1) (find nat_cmp key.1 es)) (row_of key) else row_of key)
      by false b t = refl
      by true true t = ap (λ r. unwrap_or r e.1) (ap (λ k. find nat_cmp k es) (tied one_number key.1 e.0 t)
          ∙ (absent nat_cmp numbers e.0 es (first _ _ sorted)).0)
      by true false t = refl

  pub all_changed : (changes : ByNumber (Option Allocation)) (slots : Slots) → slots ≡ entries changes → (row_of : Key → Option Allocation) (key : Key) →
      changed_rows slots row_of key ≡ with_changes namespace changes row_of key
  all_changed changes slots is row_of key = ap (λ es. changed_rows es row_of key) is ∙ rows_are (entries changes) (entries_sorted changes) row_of key
      ∙ ap (λ r. if same_name key.0 namespace then unwrap_or r (row_of key) else row_of key) (sym (get-entries changes key.1))

  -- a key that is not among them
  not_changed : (slots : Slots) (n : ℕ) → Each (λ e. same_number n e.0 ≡ false) slots → (row_of : Key → Option Allocation) →
      changed_rows slots row_of (namespace, n) ≡ row_of (namespace, n)
  not_changed [] n h row_of = refl
  not_changed (e ∷ es) n h row_of = not_changed es n h.1 (changed_row row_of e)
      ∙ ap (λ b. if b then e.1 else row_of (namespace, n)) (apart n e.0 h.0)

  -- ---- keys rise

  below_at : (k : ℕ) (xs : Slots) (e : ℕ × Option Allocation) (ys : Slots) → T (below_all nat_cmp k (xs ++ e ∷ ys)) → T (is_lt (nat_cmp k e.0))
  below_at k [] e ys h = first _ _ h
  below_at k (x ∷ xs) e ys h = below_at k xs e ys (second _ _ h)

  unlike : (k q : ℕ) → T (is_lt (nat_cmp k q)) → same_number q k ≡ false
  unlike k q h = (eq_by_cmp_equiv numbers).symm q k ∙ ap is_eq (less_by _ h)

  earlier : (xs : Slots) (e : ℕ × Option Allocation) (ys : Slots) → T (is_sorted nat_cmp (xs ++ e ∷ ys)) → Each (λ x. same_number e.0 x.0 ≡ false) xs
  earlier [] e ys h = tt
  earlier (x ∷ xs) e ys h = (unlike x.0 e.0 (below_at x.0 xs e ys (first _ _ h)), earlier xs e ys (second _ _ h))

  later : (k : ℕ) (ys : Slots) → T (below_all nat_cmp k ys) → Each (λ y. same_number y.0 k ≡ false) ys
  later k [] h = tt
  later k (y ∷ ys) h = (unlike k y.0 (first _ _ h), later k ys (second _ _ h))

  later_in : (xs : Slots) (e : ℕ × Option Allocation) (ys : Slots) → T (is_sorted nat_cmp (xs ++ e ∷ ys)) → Each (λ y. same_number y.0 e.0 ≡ false) ys
  later_in [] e ys h = later e.0 ys (first _ _ h)
  later_in (x ∷ xs) e ys h = later_in xs e ys (second _ _ h)

  -- ---- the loop that puts them

  pub record IsChanging (table : ByNumber (Option Allocation)) (old new : Live) (done left : Slots) : Type 0 where
    pub index : (row_of : Key → Option Allocation) → Indexes row_of old → ((n : ℕ) → row_of (namespace, n) ≡ row_at table n) →
        Indexes (changed_rows done row_of) new
    pub shown : (row_of : Key → Option Allocation) → ((n : ℕ) → row_of (namespace, n) ≡ row_at table n) →
        ShowsUnmoved row_of (changed_rows done row_of) old new
    pub names : KeepsNames old new
    pub others : (pool node : Name) (key : Key) → same_name key.0 namespace ≡ false → IsTrue (has_room old pool node key) →
        IsTrue (has_room new pool node key)
    pub room : Each (λ e. HasRoomFor new (namespace, e.0) e.1) left

  pub record IsReserving (old new : Live) (done : Slots) : Type 0 where
    pub same : KeepsKeys old new
    pub shown : KeepsShown old new
    pub room : (pool node : Name) (key : Key) → IsTrue (has_room old pool node key) → IsTrue (has_room new pool node key)
    pub made : Each (λ e. HasRoomFor new (namespace, e.0) e.1) done

  found_each : (P : ℕ → Option Allocation → Type 0) (es : Slots) → Each (λ e. P e.0 e.1) es → (n : ℕ) (slot : Option Allocation) →
      find nat_cmp n es ≡ Some slot → P n slot
  found_each P [] all n slot is = absurd (not_Some slot is)
  found_each P (e ∷ es) all n slot is = by (found_each P es all.1 n slot) (eq_by_cmp nat_cmp n e.0) refl is
    where
      by : (find nat_cmp n es ≡ Some slot → P n slot) → (b : Bool) → eq_by_cmp nat_cmp n e.0 ≡ b → cond b (Some e.1) (find nat_cmp n es) ≡ Some slot →
          P n slot
      by later true t is = subst (λ q. P q slot) (sym (tied one_number n e.0 t)) (subst (P e.0) (same_Some e.1 slot is) all.0)
      by later false t is = later is

  room_still : (k : ℕ) (old new : Live) → ((pool node : Name) (key : Key) → same_key key (namespace, k) ≡ false →
      IsTrue (has_room old pool node key) → IsTrue (has_room new pool node key)) → (slots : Slots) → Each (λ e. same_number e.0 k ≡ false) slots →
      Each (λ e. HasRoomFor old (namespace, e.0) e.1) slots → Each (λ e. HasRoomFor new (namespace, e.0) e.1) slots
  room_still k old new kept [] out h = tt
  room_still k old new kept ((n, None) ∷ es) out h = (tt, room_still k old new kept es out.1 h.1)
  room_still k old new kept ((n, Some row) ∷ es) out h =
      ((λ lives. kept row.pool row.node (namespace, n) (apart n k out.0) (h.0 lives)), room_still k old new kept es out.1 h.1)

  -- nothing is put yet
  pub begun : (table changes : ByNumber (Option Allocation)) (live : Live) (slots : Slots) → slots ≡ entries changes → HasRoomForAll live namespace changes →
      IsChanging table live live [] slots
  begun table changes live slots is room = record {
    index = λ row_of right rows. right;
    shown = λ row_of rows. unmoved_same row_of row_of live live refl (λ key. refl);
    names = refl;
    others = λ pool node key other h. h;
    room = subst (Each (λ e. HasRoomFor live (namespace, e.0) e.1)) (sym is)
        (each_row numbers one_number (λ n slot. HasRoomFor live (namespace, n) slot) changes by);
  }
    where
      by : (n : ℕ) (slot : Option Allocation) → get changes n ≡ Some slot → HasRoomFor live (namespace, n) slot
      by n None at = tt
      by n (Some row) at = room n row (ap flat at)

  module _ (slots : Slots) (i : ℕ) (e : ℕ × Option Allocation) (lt : i < length slots) (is : e ≡ get_or slots i e) where
    rest_is : drop i slots ≡ e ∷ drop (i + 1) slots
    rest_is = drop_more slots i e lt ∙ ap (λ x. x ∷ drop (i + 1) slots) (sym is)

    parts : take i slots ++ e ∷ drop (i + 1) slots ≡ slots
    parts = ap (λ xs. take i slots ++ xs) (sym rest_is) ∙ take-append-drop i slots

    one_more : (row_of : Key → Option Allocation) → changed_rows (take (i + 1) slots) row_of ≡ changed_row (changed_rows (take i slots) row_of) e
    one_more row_of = fold_more changed_row row_of slots i e lt ∙ ap (changed_row (changed_rows (take i slots) row_of)) (sym is)

    pub one_changed : (changes table : ByNumber (Option Allocation)) (old now new : Live) → slots ≡ entries changes →
        ((row_of : Key → Option Allocation) → Indexes row_of now → row_of (namespace, e.0) ≡ row_at table e.0 →
        Indexes (with_row (namespace, e.0) e.1 row_of) new) →
        ((row_of : Key → Option Allocation) → row_of (namespace, e.0) ≡ row_at table e.0 →
        ShowsUnmoved row_of (with_row (namespace, e.0) e.1 row_of) now new) → KeepsNames now new →
        ((pool node : Name) (key : Key) → same_key key (namespace, e.0) ≡ false → IsTrue (has_room now pool node key) → IsTrue (has_room new pool node key)) →
        IsChanging table old now (take i slots) (drop i slots) → IsChanging table old new (take (i + 1) slots) (drop (i + 1) slots)
    one_changed changes table old now new all put moved names room h =
        let sorted : T (is_sorted nat_cmp (take i slots ++ e ∷ drop (i + 1) slots)) =
        subst (λ xs. T (is_sorted nat_cmp xs)) (sym (parts ∙ all)) (entries_sorted changes) in record {
          index = λ row_of right rows. subst (λ f. Indexes f new) (sym (one_more row_of))
              (put (changed_rows (take i slots) row_of) (h.index row_of right rows)
              (not_changed (take i slots) e.0 (earlier (take i slots) e (drop (i + 1) slots) sorted) row_of ∙ rows e.0));
          shown = λ row_of rows. subst (λ f. ShowsUnmoved row_of f old new) (sym (one_more row_of))
              (unmoved_then row_of (changed_rows (take i slots) row_of) (changed_row (changed_rows (take i slots) row_of) e) old now new
              (h.shown row_of rows) (moved (changed_rows (take i slots) row_of)
              (not_changed (take i slots) e.0 (earlier (take i slots) e (drop (i + 1) slots) sorted) row_of ∙ rows e.0)));
          names = names ∙ h.names;
          others = λ pool node key other has. room pool node key (ap (λ b. b && same_number key.1 e.0) other) (h.others pool node key other has);
          room = room_still e.0 now new room (drop (i + 1) slots) (later_in (take i slots) e (drop (i + 1) slots) sorted)
              (subst (Each (λ e. HasRoomFor now (namespace, e.0) e.1)) rest_is h.room).1;
        }

    -- ---- the loop that makes room

    pub reserved_more : (old now new : Live) → KeepsKeys now new →
        KeepsShown now new → ((pool node : Name) (key : Key) → IsTrue (has_room now pool node key) → IsTrue (has_room new pool node key)) →
        HasRoomFor new (namespace, e.0) e.1 → IsReserving old now (take i slots) → IsReserving old new (take (i + 1) slots)
    reserved_more old now new same shown room made h = record {
      same = kept_then old now new h.same same;
      shown = (shown.0 ∙ h.shown.0, shown.1 ∙ h.shown.1);
      room = λ pool node key has. room pool node key (h.room pool node key has);
      made = subst (Each (λ e. HasRoomFor new (namespace, e.0) e.1)) (sym (take_more slots i e lt ∙ ap (λ x. take i slots ++ x ∷ []) (sym is)))
          (each_append (λ e. HasRoomFor new (namespace, e.0) e.1) (take i slots) (e ∷ []) (still (take i slots) h.made) (made, tt));
    }
      where
        still : (xs : Slots) → Each (λ e. HasRoomFor now (namespace, e.0) e.1) xs → Each (λ e. HasRoomFor new (namespace, e.0) e.1) xs
        still [] all = tt
        still ((n, None) ∷ xs) all = (tt, still xs all.1)
        still ((n, Some row) ∷ xs) all = ((λ lives. room row.pool row.node (namespace, n) (all.0 lives)), still xs all.1)

  pub all_reserved : (changes : ByNumber (Option Allocation)) (live : Live) (slots : Slots) → slots ≡ entries changes →
      Each (λ e. HasRoomFor live (namespace, e.0) e.1) slots → HasRoomForAll live namespace changes
  all_reserved changes live slots is each n row at = by (get changes n) refl at
    where
      by : (r : Option (Option Allocation)) → get changes n ≡ r → flat r ≡ Some row → HasRoomFor live (namespace, n) (Some row)
      by None there e = absurd (not_Some row e)
      by (Some slot) there e = subst (HasRoomFor live (namespace, n)) e
          (found_each (λ n slot. HasRoomFor live (namespace, n) slot) (entries changes) (subst (Each (λ e. HasRoomFor live (namespace, e.0) e.1)) is each)
          n slot (sym (get-entries changes n) ∙ there))

  -- of the namespace they are the table's rows with the changed ones over them
  pub changes_over : (table changes : ByNumber (Option Allocation)) (row_of : Key → Option Allocation) →
      ((n : ℕ) → row_of (namespace, n) ≡ row_at table n) → (n : ℕ) →
      with_changes namespace changes row_of (namespace, n) ≡ get (over (rows table) changes) n
  changes_over table changes row_of same n =
      ap (λ b. if b then unwrap_or (get changes n) (row_of (namespace, n)) else row_of (namespace, n)) (same_name_refl namespace)
      ∙ ap (unwrap_or (get changes n)) (same n ∙ sym (get-rows numbers table n)) ∙ sym (get-over numbers one_number (rows table) changes n)
