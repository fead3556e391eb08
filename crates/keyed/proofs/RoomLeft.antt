-- Room for rows at places, and the loops over rows and over keys.
use Rattle.std.specs.Prelude.{◌≡◌, ℕ, ◌+◌, ◌<◌, ◌≤◌, ◌^◌, Bool, true, false, cond, not, ◌&&◌, ◌||◌, IsTrue, List, [], ◌∷◌, ◌++◌}
use Rattle.std.specs.Prelude.{filter, is_some, length, Option, Some, None, option_map}
use Rattle.std.proofs.Common.{refl, sym, ap, subst, ◌∙◌, arith, add-one, append_assoc, drop, get_or, take}
use Rattle.std.specs.Cmp.{eq_by_cmp_equiv}
use Rattle.std.specs.Option.{option_map_or}
use Rattle.std.proofs.Math.ListN.{drop_of_length-le}
use Rattle.std.proofs.Math.Seq.{take-suc}
use Rattle.std.proofs.lemmas.List.{length-take}
use Rattle.keyed.specs.Levels.{has_place_room}
use Rattle.keyed.specs.Queue.{CanAddRows, HasRoomAt, HasRoomFrom, KeepsRoom, PutsRow, Queue, TakesRow, at, has_row}
use Rattle.keyed.specs.declared.placed_rows.PlacedRows.{PlacedRows}
use Rattle.keyed.proofs.Queues.{from_here}
use Rattle.ns_types.specs.State.Names.{Key, has_key, same_key, same_name, same_number}
use Rattle.ns_types.proofs.Lists.{each, each_map, filter_all}
use Rattle.ns_types.proofs.Named.{names, numbers, same_key_refl}
use Rattle.ns_types.proofs.TableRows.{apart, each_fails}

module _ {R : Type 0} (key_of : R → Key) where
  -- ---- room

  room_at : (old new : PlacedRows R) → KeepsRoom old new → (n : ℕ) (row : R) → HasRoomAt key_of n row old → HasRoomAt key_of n row new
  room_at old new keeps n row h = record { slot = keeps.slots n h.slot; held = keeps.places (key_of row) n h.held }

  pub room_from : (old new : PlacedRows R) → KeepsRoom old new → (n : ℕ) (rows : List R) →
      HasRoomFrom key_of n rows old → HasRoomFrom key_of n rows new
  room_from old new keeps n [] h = tt
  room_from old new keeps n (row ∷ rows) h = (h.0, room_at old new keeps n row h.1, room_from old new keeps (n + 1) rows h.2)

  -- room at the places behind the one that is given up
  room_given : (old new : PlacedRows R) (place : ℕ) (taken : R) → TakesRow key_of place (Some taken) old new → (n : ℕ) (rows : List R) → place < n →
      HasRoomFrom key_of n rows old → HasRoomFrom key_of n rows new
  room_given old new place taken takes n [] lt h = tt
  room_given old new place taken takes n (row ∷ rows) lt h =
      let later : place < n + 1 = omega arith in (
        h.0,
        record {
          slot = takes.slots n h.1.slot;
          held = takes.places.room (at (key_of row) n)
              ((λ i. same_name (key_of row).0 (key_of taken).0
              && (same_number (key_of row).1 (key_of taken).1 && apart n place (λ e. omega (arith, lt, e)) i))
              ∙ neither (same_name (key_of row).0 (key_of taken).0) (same_number (key_of row).1 (key_of taken).1)) h.1.held;
        },
        room_given old new place taken takes (n + 1) rows later h.2,
      )
    where
      neither : (a b : Bool) → (a && (b && false)) ≡ false
      neither true true = refl
      neither true false = refl
      neither false b = refl

  -- room behind a row that is taken, or none
  pub room_behind : (old new : PlacedRows R) (place : ℕ) (taken : Option R) → TakesRow key_of place taken old new → (n : ℕ) (rows : List R) →
      ((row : R) → taken ≡ Some row → place < n) → HasRoomFrom key_of n rows old → HasRoomFrom key_of n rows new
  room_behind old new place None takes n rows before h = room_from old new
      (record { slots = takes.slots; places = λ key n. subst (λ s. IsTrue (has_place_room s (at key n))) (sym takes.places) }) n rows h
  room_behind old new place (Some row) takes n rows before h = room_given old new place row takes n rows (before row refl) h

  -- room for the rest behind a row that is put
  pub room_put : (old new : PlacedRows R) (place : ℕ) (row : R) → PutsRow key_of place row old new → (more : List R) →
      HasRoomFrom key_of place (row ∷ more) old → HasRoomFrom key_of (place + 1) more new
  room_put old new place row puts more h =
      room_from old new (record { slots = puts.slots; places = λ key n. puts.places.room (at key n) }) (place + 1) more h.2

  room_next : (placed : PlacedRows R) (n m : ℕ) (xs : List R) (x : R) → m ≡ n + length xs → HasRoomFrom key_of n xs placed → m + 1 < 2 ^ 64 →
      HasRoomAt key_of m x placed → HasRoomFrom key_of n (xs ++ x ∷ []) placed
  room_next placed n m [] x is h lt r =
      let same : m ≡ n = omega arith in (subst (λ (k : ℕ). k + 1 < 2 ^ 64) same lt, subst (λ (k : ℕ). HasRoomAt key_of k x placed) same r, tt)
  room_next placed n m (row ∷ xs) x is h lt r =
      let next : m ≡ (n + 1) + length xs = omega arith in (h.0, h.1, room_next placed (n + 1) m xs x next h.2 lt r)

  pub reserved_next : (old new : PlacedRows R) (n i m : ℕ) (rows : List R) (x : R) → i < length rows → x ≡ get_or rows i x → m ≡ n + i →
      m + 1 < 2 ^ 64 → KeepsRoom old new → HasRoomAt key_of m x new → HasRoomFrom key_of n (take i rows) old → HasRoomFrom key_of n (take (i + 1) rows) new
  reserved_next old new n i m rows x lt is at bound keeps r h =
      let here : m ≡ n + length (take i rows) = omega (arith, length-take i rows) in
      subst (λ xs. HasRoomFrom key_of n xs new)
      (ap (λ x. take i rows ++ x ∷ []) is ∙ sym (take-suc rows i x lt) ∙ ap (λ n. take n rows) (sym (add-one i)))
      (room_next new n m (take i rows) x here (room_from old new keeps n (take i rows) h) bound r)

  -- ---- rows that are appended, one after another

  -- the queue with the rest behind it comes out as `all`, and there is room for the rest
  abbrev pub IsFilling : Queue R → List R → List R → Type 0
  IsFilling q rest all = (q.items ++ rest ≡ all) × CanAddRows key_of rest q

  module _ (old new : Queue R) (row : R) (rest left all : List R) (steps : rest ≡ row ∷ left) (h : IsFilling old rest all) where
    can_next : CanAddRows key_of (row ∷ left) old
    can_next = subst (λ rows. CanAddRows key_of rows old) steps h.1

    pub place_left : old.next + 1 < 2 ^ 64
    place_left = can_next.0

    pub room_there : HasRoomAt key_of old.next row old.placed
    room_there = can_next.1

    pub filled : new.items ≡ old.items ++ row ∷ [] → ((more : List R) → CanAddRows key_of (row ∷ more) old → CanAddRows key_of more new) →
        IsFilling new left all
    filled items room = (
      ap (λ l. l ++ left) items ∙ append_assoc old.items (row ∷ []) left ∙ ap (λ l. old.items ++ l) (sym steps) ∙ h.0,
      room left can_next,
    )

-- ---- rows that are taken out, one key after another

pub turned_key : (a b : Key) → same_key a b ≡ same_key b a
turned_key a b = λ i. (eq_by_cmp_equiv names).symm a.0 b.0 i && (eq_by_cmp_equiv numbers).symm a.1 b.1 i

module _ {R : Type 0} (key_of : R → Key) where
  pub none_taken : (key : Key) (xs : List R) → has_row key_of xs key ≡ false → filter (λ row. not (same_key (key_of row) key)) xs ≡ xs
  none_taken key xs none = filter_all (λ row. not (same_key (key_of row) key)) xs
      (each_map (λ row e. ap not (turned_key (key_of row) key ∙ e)) xs (each_fails (λ row. same_key key (key_of row)) xs none))

  -- a row with the key does not pass as another
  pub not_other : (key : Key) (taken : Option R) → option_map key_of taken ≡ Some key →
      option_map_or (λ row. not (same_key (key_of row) key)) taken false ≡ false
  not_other key None is = refl
  not_other key (Some row) is = fails (Some (key_of row)) is
    where
      fails : (stands : Option Key) → stands ≡ Some key → option_map_or (λ k. not (same_key k key)) stands false ≡ false
      fails stands is = ap (λ k. option_map_or (λ k. not (same_key k key)) k false) is ∙ ap not (same_key_refl key)

  -- the row that is taken at a place of the key has the key
  pub taken_has : (key read : Key) (taken stands : Option R) → read ≡ key → taken ≡ stands → option_map key_of stands ≡ Some read →
      option_map key_of taken ≡ Some key
  taken_has key read taken stands same is has = ap (option_map key_of) is ∙ has ∙ ap Some same

  pub is_there : (key : Key) (taken : Option R) → option_map key_of taken ≡ Some key → IsTrue (is_some taken)
  is_there key None is = ap is_some is
  is_there key (Some row) is = refl

  taken_step : (key : Key) (rest : List Key) (xs : List R) →
      filter (λ row. not (has_key rest (key_of row))) (filter (λ row. not (same_key (key_of row) key)) xs)
      ≡ filter (λ row. not (has_key (key ∷ rest) (key_of row))) xs
  taken_step key rest [] = refl
  taken_step key rest (x ∷ xs) = by (taken_step key rest xs) (same_key (key_of x) key)
    where
      others : List R
      others = filter (λ row. not (same_key (key_of row) key)) xs

      left : List R
      left = filter (λ row. not (has_key (key ∷ rest) (key_of row))) xs

      by : filter (λ row. not (has_key rest (key_of row))) others ≡ left → (s : Bool) →
          filter (λ row. not (has_key rest (key_of row))) (cond (not s) (x ∷ others) others)
          ≡ cond (not (s || has_key rest (key_of x))) (x ∷ left) left
      by later true = later
      by later false = ap (λ l. cond (not (has_key rest (key_of x))) (x ∷ l) l) later

  pub taken_next : (keys : List Key) (i : ℕ) (key : Key) → i < length keys → key ≡ get_or keys i key → (old new all : List R) →
      new ≡ filter (λ row. not (same_key (key_of row) key)) old → filter (λ row. not (has_key (drop i keys) (key_of row))) old ≡ all →
      filter (λ row. not (has_key (drop (i + 1) keys) (key_of row))) new ≡ all
  taken_next keys i key lt is old new all made h = ap (filter (λ row. not (has_key (drop (i + 1) keys) (key_of row)))) made
      ∙ taken_step key (drop (i + 1) keys) old ∙ ap (λ ks. filter (λ row. not (has_key ks (key_of row))) old) (sym (from_here keys i key lt is)) ∙ h

  pub all_taken : (keys : List Key) (i : ℕ) → length keys ≤ i → (now all : List R) →
      filter (λ row. not (has_key (drop i keys) (key_of row))) now ≡ all → now ≡ all
  all_taken keys i le now all h = sym (ap (λ ks. filter (λ row. not (has_key ks (key_of row))) now) (drop_of_length-le keys le)
      ∙ filter_all (λ (row : R). true) now (each (λ _. true ≡ true) (λ _. refl) now)) ∙ h
